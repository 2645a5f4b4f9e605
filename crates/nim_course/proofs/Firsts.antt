-- What the parts of variables hold at first may be made, or put there.
use Rattle.std.proofs.Common.{◌≡◌, ℕ, ◌+◌, ◌<◌, ◌≤◌, suc, zero, Bool, true, false, List, [], ◌∷◌, ◌++◌, length, get_or, map, replicate, refl, ap, sym, subst, ◌∙◌, arith, Option, Some, pos}
use Rattle.std.specs.Prelude.{slice_get, IsSomeAnd}
use Rattle.std.specs.List.{list_all, list_any, range_with_len}
use Rattle.std.proofs.lemmas.Bool.{and_from, and_parts, lt-ltb}
use Rattle.std.proofs.lemmas.List.{append-nil, length-append, length-replicate}
use Rattle.std.proofs.lemmas.List.FromFn.{get_or-map-range_with_len, length-map-range_with_len}
use Rattle.std.proofs.lemmas.List.Sums.{sum_by-cons}
use Rattle.std.proofs.lemmas.Option.{get_or_from_slice_get, slice_get-get_or}
use Rattle.nim_base.specs.declared.number.Object.{Object}
use Rattle.nim_base.specs.declared.number.Shape.{Shape}
use Rattle.nim_base.specs.declared.number.Slot.{Slot}
use Rattle.nim_base.specs.declared.number.Worker.{Worker}
use Rattle.nim_base.specs.Value.{Grid, empty_grid, filled, iota_of}
use Rattle.nim_command.specs.declared.command.Command.{Command}
use Rattle.nim_command.specs.declared.command.Kind.{Kind}
use Rattle.nim_command.specs.Created.{created}
use Rattle.nim_command.specs.Holds.{Content}
use Rattle.nim_command.specs.Numbers.{main_slot}
use Rattle.nim_command.specs.Slots.{object_of}
use Rattle.nim_job.specs.declared.job.Init.{Init}
use Rattle.nim_job.specs.declared.job.Init.TheVariants.{Fill, Iota, Loaded}
use Rattle.nim_job.specs.declared.job.Job.{Job}
use Rattle.nim_job.specs.declared.job.Var.{Var}
use Rattle.nim_job.specs.Objects.{first_cell, initial_parts, initial_values, objects_of, shapes_of}
use Rattle.nim_job.specs.Versions.{version_value}
use Rattle.nim_job.specs.Whole.{is_filled, is_object_within, is_whole}
use Rattle.nim_job.proofs.Whole.{vars_sizes, whole_inits, whole_vars}
use Rattle.nim_plan.specs.Legal.{IsLegalKind, is_version}
use Rattle.nim_place.specs.Extends.{is_live}
use Rattle.nim_place.specs.Orders.{has_no_key}
use Rattle.nim_place.specs.Stands.{is_aside}
use Rattle.nim_place.specs.Versions.{Versions, puts_of, version_of}
use Rattle.nim_course.specs.Controller.{Controller}
use Rattle.nim_place.specs.TaskRuns.{position_run}
use Rattle.nim_course.specs.OrdersGiven.{first_command, first_commands, first_kind}
use Rattle.nim_base.proofs.Lists.{get_behind, get_front}
use Rattle.nim_job.proofs.TaskLeaves.{length-parts}
use Rattle.nim_place.proofs.Legal.{main_of}
use Rattle.nim_course.proofs.Homes.{home_live}

-- ---- what a part holds at first

-- the value
abbrev first_value : Shape → Init → ℕ → Grid
first_value shape (Fill number) part = filled shape number
first_value shape Iota part = iota_of shape (pos (first_cell shape part))
first_value shape (Loaded values) part = get_or values part empty_grid

get_replicate : {X : Type 0} (n : ℕ) (x : X) (ys : List X) (k : ℕ) → k < n → slice_get (replicate n x ++ ys) k ≡ Some x
get_replicate zero x ys k below = absurd (omega (arith, below))
get_replicate (suc n) x ys zero below = refl
get_replicate (suc n) x ys (suc k) below = get_replicate n x ys k (omega (arith, below))

part_value : (v : Var) (init : Init) (part : ℕ) → part < v.parts
    → get_or (initial_parts v init) part (first_value v.shape init part) ≡ first_value v.shape init part
part_value v (Fill number) part below =
    get_or_from_slice_get (replicate v.parts (filled v.shape number)) part (filled v.shape number) (filled v.shape number)
    (ap (λ (gs : List Grid). slice_get gs part) (sym (append-nil (replicate v.parts (filled v.shape number))))
    ∙ get_replicate v.parts (filled v.shape number) [] part below)
part_value v Iota part below =
    get_or-map-range_with_len (λ k. iota_of v.shape (pos (first_cell v.shape k))) 0 v.parts part part (iota_of v.shape (pos (first_cell v.shape part))) below
    (omega arith)
part_value v (Loaded values) part below = either part values where
  either : (k : ℕ) (gs : List Grid) → get_or gs k (get_or gs k empty_grid) ≡ get_or gs k empty_grid
  either k [] = refl
  either zero (g ∷ gs) = refl
  either (suc k) (g ∷ gs) = either k gs

-- it is the one of the part
part_found : (v : Var) (others : List Grid) (part : ℕ) → is_filled v ≡ true → part < v.parts
    → slice_get (initial_parts v v.init ++ others) part ≡ Some (first_value v.shape v.init part)
part_found v others part is below =
    let within : part < length (initial_parts v v.init) = omega (arith, below, length-parts v v.init is) in
    get_front (initial_parts v v.init) others part within
    ∙ slice_get-get_or (initial_parts v v.init) part (first_value v.shape v.init part) within ∙ ap (λ (g : Grid). Some g) (part_value v v.init part below)

-- ---- one part

-- a value of the object's shape may be made where it is the first one
made_legal : (job : Job) (object : Object) (shape : Shape) (value : Grid) (made : Shape → Grid) → object.0 < 512
    → slice_get (shapes_of job.vars) object.0 ≡ Some shape → slice_get (initial_values job.vars) object.0 ≡ Some value → made shape ≡ value
    → IsSomeAnd (slice_get (shapes_of job.vars) (object_of (main_slot object)).0)
    (λ s. slice_get (initial_values job.vars) (object_of (main_slot object)).0 ≡ Some (made s))
made_legal job object shape value made few shaped valued is =
    subst (λ (o : Object). IsSomeAnd (slice_get (shapes_of job.vars) o.0) (λ s. slice_get (initial_values job.vars) o.0 ≡ Some (made s)))
    (sym (main_of object few))
    (subst (λ (o : Option Shape). IsSomeAnd o (λ s. slice_get (initial_values job.vars) object.0 ≡ Some (made s))) (sym shaped)
    (valued ∙ ap (λ (g : Grid). Some g) (sym is)))

-- it may be made, or put there
first_legal : (job : Job) (before : Slot → Content) (object : Object) (shape : Shape) (init : Init) (part : ℕ) → object.0 < 512 → object.0 < objects_of job.vars
    → slice_get (shapes_of job.vars) object.0 ≡ Some shape → slice_get (initial_values job.vars) object.0 ≡ Some (first_value shape init part)
    → IsLegalKind job before (first_kind shape init part object)
first_legal job before object shape (Fill number) part few there shaped valued =
    made_legal job object shape (filled shape number) (λ s. created s false number) few shaped valued refl
first_legal job before object shape Iota part few there shaped valued =
    made_legal job object shape (iota_of shape (pos (first_cell shape part))) (λ s. created s true (pos (first_cell shape part))) few shaped valued refl
first_legal job before object shape (Loaded values) part few there shaped valued = (
  ap (λ (o : Object). is_version job o 0) (main_of object few)
      ∙ and_from (is_object_within (objects_of job.vars) object) true (lt-ltb object.0 (objects_of job.vars) there) refl,
  sym (get_or_from_slice_get (initial_values job.vars) object.0 (get_or values part empty_grid) empty_grid valued)
      ∙ ap (λ (o : Object). version_value job o 0) (sym (main_of object few)),
)

-- it needs no other worker, runs nothing, and puts the first version into the object's main slot
pub record IsPlain (object : Object) (kind : Kind) : Type 0 where
  pub keyless : has_no_key kind ≡ true
  pub aside : (versions : Versions) → is_aside versions kind ≡ true
  pub quiet : position_run kind ≡ []
  pub puts : puts_of kind ≡ main_slot object ∷ []
  pub version : version_of kind ≡ 0

first_plain : (object : Object) (shape : Shape) (init : Init) (part : ℕ) → IsPlain object (first_kind shape init part object)
first_plain object shape (Fill number) part = record { keyless = refl; aside = λ versions. refl; quiet = refl; puts = refl; version = refl }
first_plain object shape Iota part = record { keyless = refl; aside = λ versions. refl; quiet = refl; puts = refl; version = refl }
first_plain object shape (Loaded values) part = record { keyless = refl; aside = λ versions. refl; quiet = refl; puts = refl; version = refl }

-- a live worker's command that puts an object's first version
pub record IsFirst (job : Job) (live : List Bool) (number : ℕ) (c : Worker × Command) : Type 0 where
  pub lives : is_live live c.0 ≡ true
  pub legal : (before : Slot → Content) → IsLegalKind job before c.1.kind
  pub before : c.1.before ≡ []
  pub plain : IsPlain (record { 0 = number }) c.1.kind

-- those of objects from one on
abbrev pub AreFirst : Job → List Bool → ℕ → List (Worker × Command) → Type 0
AreFirst job live number [] = Unit {0}
AreFirst job live number (c ∷ cs) = IsFirst job live number c × AreFirst job live (number + 1) cs

first_append : (job : Job) (live : List Bool) (number next : ℕ) (xs ys : List (Worker × Command)) → AreFirst job live number xs
    → next ≡ number + length xs → AreFirst job live next ys → AreFirst job live number (xs ++ ys)
first_append job live number next [] ys first is second =
    let same : next ≡ number = omega (arith, is) in subst (λ (n : ℕ). AreFirst job live n ys) same second
first_append job live number next (x ∷ xs) ys first is second =
    (first.0, first_append job live (number + 1) next xs ys first.1 (omega (arith, is)) second)

-- ---- all parts

-- what the job has from an object on are the shapes and first values of these variables
abbrev AreFrom : Job → ℕ → List Var → Type 0
AreFrom job first vars = (k : ℕ) → k < objects_of vars
    → (slice_get (shapes_of job.vars) (first + k) ≡ slice_get (shapes_of vars) k)
    × (slice_get (initial_values job.vars) (first + k) ≡ slice_get (initial_values vars) k)

-- those of the first variable
abbrev AreOfFirst : Job → Var → ℕ → ℕ → Type 0
AreOfFirst job v first end = (k : ℕ) → k < end
    → (slice_get (shapes_of job.vars) (first + k) ≡ Some v.shape) × (slice_get (initial_values job.vars) (first + k) ≡ Some (first_value v.shape v.init k))

from_first : (job : Job) (first : ℕ) (v : Var) (vars : List Var) → is_filled v ≡ true → AreFrom job first (v ∷ vars) → AreOfFirst job v first v.parts
from_first job first v vars is are = λ k below.
    let there = are k (omega (arith, below, sum_by-cons (λ (w : Var). w.parts) v vars)) in
    (there.0 ∙ get_replicate v.parts v.shape (shapes_of vars) k below, there.1 ∙ part_found v (initial_values vars) k is below)

-- and of the others
from_rest : (job : Job) (first : ℕ) (v : Var) (vars : List Var) → is_filled v ≡ true → AreFrom job first (v ∷ vars) → AreFrom job (first + v.parts) vars
from_rest job first v vars is are = λ k below.
    let later : first + v.parts + k ≡ first + (v.parts + k) = omega arith in
    let there = are (v.parts + k) (omega (arith, below, sum_by-cons (λ (w : Var). w.parts) v vars)) in (
      ap (slice_get (shapes_of job.vars)) later ∙ there.0
          ∙ ap (λ (n : ℕ). slice_get (replicate v.parts v.shape ++ shapes_of vars) (n + k)) (sym (length-replicate v.parts v.shape))
          ∙ get_behind (replicate v.parts v.shape) (shapes_of vars) k,
      ap (slice_get (initial_values job.vars)) later ∙ there.1
          ∙ ap (λ (n : ℕ). slice_get (initial_parts v v.init ++ initial_values vars) (n + k)) (sym (length-parts v v.init is))
          ∙ get_behind (initial_parts v v.init) (initial_values vars) k,
    )

-- the parts of a variable from one on
parts_first : (c : Controller) (v : Var) (first part n : ℕ) → list_any (λ (flag : Bool). flag) c.live ≡ true → first + part + n ≤ 512
    → first + part + n ≤ objects_of c.job.vars → AreOfFirst c.job v first (part + n)
    → AreFirst c.job c.live (first + part) (map (first_command c v first) (range_with_len part n))
parts_first c v first part zero some few within are = tt
parts_first c v first part (suc n) some few within are =
    let object : Object = record { 0 = first + part } in
    let here = are part (omega arith) in
    let next : first + (part + 1) ≡ first + part + 1 = omega arith in (
      record {
        lives = home_live c.place object c.versions.objects c.live some;
        legal = λ before. first_legal c.job before object v.shape v.init part (omega (arith, few)) (omega (arith, within)) here.0 here.1;
        before = refl;
        plain = first_plain object v.shape v.init part;
      },
      subst (λ (k : ℕ). AreFirst c.job c.live k (map (first_command c v first) (range_with_len (part + 1) n))) next
          (parts_first c v first (part + 1) n some (omega (arith, few)) (omega (arith, within)) (λ k below. are k (omega (arith, below)))),
    )

-- as many commands as parts
pub first_count : (c : Controller) (first : ℕ) (vars : List Var) → length (first_commands c first vars) ≡ objects_of vars
first_count c first [] = refl
first_count c first (v ∷ vars) =
    omega (
      arith,
      length-append (map (first_command c v first) (range_with_len 0 v.parts)) (first_commands c (first + v.parts) vars),
      length-map-range_with_len (first_command c v first) 0 v.parts,
      first_count c (first + v.parts) vars,
      sum_by-cons (λ (w : Var). w.parts) v vars,
    )

vars_first : (c : Controller) (first : ℕ) (vars : List Var) → list_any (λ (flag : Bool). flag) c.live ≡ true → list_all is_filled vars ≡ true
    → first + objects_of vars ≤ 512 → first + objects_of vars ≤ objects_of c.job.vars → AreFrom c.job first vars
    → AreFirst c.job c.live first (first_commands c first vars)
vars_first c first [] some all few within are = tt
vars_first c first (v ∷ vars) some all few within are =
    let both = and_parts (is_filled v) (list_all is_filled vars) all in
    let sum = sum_by-cons (λ (w : Var). w.parts) v vars in
    let start : first + 0 ≡ first = omega arith in
    let own = map (first_command c v first) (range_with_len 0 v.parts) in
    let of_first = from_first c.job first v vars both.0 are in
    first_append c.job c.live first (first + v.parts) own (first_commands c (first + v.parts) vars)
    (subst (λ (k : ℕ). AreFirst c.job c.live k own) start
    (parts_first c v first 0 v.parts some (omega (arith, few, sum)) (omega (arith, within, sum)) (λ k below. of_first k (omega (arith, below)))))
    (omega (arith, length-map-range_with_len (first_command c v first) 0 v.parts))
    (vars_first c (first + v.parts) vars some both.1 (omega (arith, few, sum)) (omega (arith, within, sum)) (from_rest c.job first v vars both.0 are))

pub all_first : (c : Controller) → list_any (λ (flag : Bool). flag) c.live ≡ true → is_whole c.job ≡ true
    → AreFirst c.job c.live 0 (first_commands c 0 c.job.vars)
all_first c some whole =
    let few = (vars_sizes c.job.vars (whole_vars c.job whole)).0 in
    vars_first c 0 c.job.vars some (whole_inits c.job whole) (omega (arith, few)) (omega arith)
    (λ k below. let same : 0 + k ≡ k = omega arith in (ap (slice_get (shapes_of c.job.vars)) same, ap (slice_get (initial_values c.job.vars)) same))
