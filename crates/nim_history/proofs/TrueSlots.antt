-- Slots that have what the commands say that they hold, each with the value of its version.
use Rattle.std.proofs.Common.{◌≡◌, ℕ, ◌<◌, Bool, true, false, List, [], ◌∷◌, length, map, refl, ap, ap₂, sym, subst, ◌∙◌, arith, Option, None, Some}
use Rattle.std.specs.Prelude.{◌==◌, ◌||◌, if◌then◌else◌, nat_lt, IfSome}
use Rattle.std.specs.List.{AllZip, list_all}
use Rattle.std.specs.Option.{option_and_then, option_map, option_map_or}
use Rattle.std.proofs.lemmas.Bool.{and_parts, cond-true, eq-eqb, eqb-false, eqb-true, lt-ltb, ltb-true, ne_eqb}
use Rattle.std.proofs.lemmas.Option.{slice_get-get_or}
use Rattle.nim_base.specs.declared.number.Object.{Object}
use Rattle.nim_base.specs.declared.number.Shape.{Shape}
use Rattle.nim_base.specs.declared.number.Slot.{Slot}
use Rattle.nim_base.specs.Value.{Grid, empty_grid}
use Rattle.nim_command.specs.Holds.{Content, content_at, put_at}
use Rattle.nim_command.specs.Slots.{is_among, object_of}
use Rattle.nim_job.specs.declared.job.Job.{Job}
use Rattle.nim_job.specs.declared.job.Var.{Var}
use Rattle.nim_job.specs.Objects.{objects_of, shape_at, shapes_of}
use Rattle.nim_job.specs.Versions.{read_version, version_value}
use Rattle.nim_job.specs.Whole.{is_object_within, is_var}
use Rattle.nim_job.proofs.Whole.{length_shapes, widths}
use Rattle.nim_store.specs.declared.held.Held.{Held}
use Rattle.nim_history.specs.Kept.{content_seen, fitting_shape, held_version, put_results, put_shaped, held_or_empty, shape_of}
use Rattle.nim_history.specs.Truth.{IsTrueHeld}

same_slot : (a b : Slot) → a.0 ≡ b.0 → a ≡ b
same_slot a b same = ap (λ (n : ℕ). record { 0 = n }) same

-- the object and version of a value
abbrev pub content_of : Held → Object × ℕ
content_of held = (held.object, held.version)

-- what a slot has is what it holds, with the value of its version
pub record IsTrueTo (job : Job) (held : Option Held) (content : Content) : Type 0 where
  pub same : option_map content_of held ≡ content
  pub right : IfSome held (IsTrueHeld job)

-- one more is put
pub put_true : (job : Job) (slot : Slot) (held : Option Held) (content : Content) (now : Slot → Option Held) (before : Slot → Content)
    → IsTrueTo job held content
    → ((s : Slot) → IsTrueTo job (now s) (before s)) → (s : Slot) → IsTrueTo job (put_at slot held now s) (put_at slot content before s)
put_true job slot held content now before this others s = either (s.0 == slot.0) where
  either : (b : Bool) → IsTrueTo job (if b then held else now s) (if b then content else before s)
  either true = this
  either false = others s

-- an object that is there has its shape
pub shape_there : (vars : List Var) (slot : Slot) → list_all is_var vars ≡ true → is_object_within (objects_of vars) (object_of slot) ≡ true
    → shape_of (shapes_of vars) slot ≡ Some (shape_at (shapes_of vars) (object_of slot))
shape_there vars slot all is =
    let none : Shape = record { width = 1; rows = 0 } in
    let within : (object_of slot).0 < objects_of vars = ltb-true (object_of slot).0 (objects_of vars) is in
    let place : (object_of slot).0 < length (shapes_of vars) = omega (arith, within, length_shapes vars) in
    let wide : 0 < (shape_at (shapes_of vars) (object_of slot)).width = omega (arith, widths vars all (object_of slot).0 none place) in
    ap (option_and_then (λ (shape : Shape). if nat_lt 0 shape.width then Some shape else None))
    (slice_get-get_or (shapes_of vars) (object_of slot).0 none place)
    ∙ cond-true (nat_lt 0 (shape_at (shapes_of vars) (object_of slot)).width) (Some (shape_at (shapes_of vars) (object_of slot))) None
    (lt-ltb 0 (shape_at (shapes_of vars) (object_of slot)).width wide)

pub fitting_there : (vars : List Var) (slot : Slot) → list_all is_var vars ≡ true → is_object_within (objects_of vars) (object_of slot) ≡ true
    → fitting_shape (shapes_of vars) slot ≡ shape_at (shapes_of vars) (object_of slot)
fitting_there vars slot all is =
    ap (λ (o : Option Shape). option_map_or (λ (shape : Shape). shape) o (record { width = 1; rows = 0 })) (shape_there vars slot all is)

pub put_there : (vars : List Var) (slot : Slot) (held : Held) (now : Slot → Option Held) → list_all is_var vars ≡ true
    → is_object_within (objects_of vars) (object_of slot) ≡ true
    → put_shaped (shapes_of vars) slot held now ≡ put_at slot (Some held) now
put_there vars slot held now all is = rw (shape_there vars slot all is) refl

-- what the slots hold once one slot and then others are written
written_too : (slot s : Slot) (slots : List Slot) (version : ℕ) (before : Slot → Content)
    → (if is_among slots s then content_at s version else put_at slot (content_at slot version) before s)
    ≡ (if is_among (slot ∷ slots) s then content_at s version else before s)
written_too slot s slots version before = either (is_among slots s) (slot.0 == s.0) refl where
  either : (a b : Bool) → (slot.0 == s.0) ≡ b
      → (if a then content_at s version else put_at slot (content_at slot version) before s) ≡ (if b || a then content_at s version else before s)
  either true true is = refl
  either true false is = refl
  either false true is =
      let same : slot.0 ≡ s.0 = eqb-true slot.0 s.0 is in
      cond-true (s.0 == slot.0) (content_at slot version) (before s) (eq-eqb s.0 slot.0 (sym same))
      ∙ ap (λ (t : Slot). content_at t version) (same_slot slot s same)
  either false false is = rw (ne_eqb s.0 slot.0 (λ same. eqb-false slot.0 s.0 is (sym same))) refl

-- the results of a task are put
pub results_true : (job : Job) (version : ℕ) (slots : List Slot) (grids : List Grid) (now : Slot → Option Held) (before : Slot → Content)
    → list_all is_var job.vars ≡ true
    → AllZip (λ slot grid. IsTrueHeld job (held_version slot version grid)) slots grids → ((s : Slot) → IsTrueTo job (now s) (before s))
    → (s : Slot) → IsTrueTo job (put_results (shapes_of job.vars) version slots grids now s) (if is_among slots s then content_at s version else before s)
results_true job version [] [] now before all right are s = are s
results_true job version [] (grid ∷ grids) now before all right are s = absurd right
results_true job version (slot ∷ slots) [] now before all right are s = absurd right
results_true job version (slot ∷ slots) (grid ∷ grids) now before all right are s =
    let there = (and_parts (is_object_within (objects_of job.vars) (object_of slot)) _ right.0.version).0 in
    let held = held_version slot version grid in
    subst (λ (f : Slot → Option Held). IsTrueTo job (put_results (shapes_of job.vars) version slots grids f s)
    (if is_among (slot ∷ slots) s then content_at s version else before s))
    (sym (put_there job.vars slot held now all there))
    (subst (λ (c : Content). IsTrueTo job (put_results (shapes_of job.vars) version slots grids (put_at slot (Some held) now) s) c)
    (written_too slot s slots version before)
    (results_true job version slots grids (put_at slot (Some held) now) (put_at slot (content_at slot version) before) all right.1
    (put_true job slot (Some held) (content_at slot version) now before (record { same = refl; right = right.0 }) are) s))

-- what is read of a slot that holds a version
pub record IsRead (job : Job) (now : Slot → Option Held) (slot : Slot) (object : Object) (version : ℕ) : Type 0 where
  pub content : content_seen now slot ≡ (object, version)
  pub right : IsTrueHeld job (held_or_empty now slot)

pub read_true : (job : Job) (now : Slot → Option Held) (slot : Slot) (content : Content) (object : Object) (version : ℕ) → IsTrueTo job (now slot) content
    → content ≡ Some (object, version)
    → IsRead job now slot object version
read_true job now slot content object version is holds = either (now slot) refl is where
  either : (h : Option Held) → now slot ≡ h → IsTrueTo job h content → IsRead job now slot object version
  either None has true_to = absurd (let no : None ≡ Some (object, version) = true_to.same ∙ holds in cc)
  either (Some held) has true_to =
      let both : Some (content_of held) ≡ Some (object, version) = true_to.same ∙ holds in
      let held_is : content_of held ≡ (object, version) = cc in
      let read : held_or_empty now slot ≡ held = ap (λ (h : Option Held). option_map_or (λ (x : Held). x) h (held_version slot 0 empty_grid)) has in
      record { content = ap content_of read ∙ held_is; right = subst (IsTrueHeld job) (sym read) true_to.right }

-- what a task reads of slots
pub reads_true : (job : Job) (position : ℕ) (now : Slot → Option Held) (before : Slot → Content) (slots : List Slot) (objects : List Object)
    → ((s : Slot) → IsTrueTo job (now s) (before s))
    → map before slots ≡ map (λ (c : Object × ℕ). Some c) (map (λ object. (object, read_version job position object)) objects)
    → (map (content_seen now) slots ≡ map (λ object. (object, read_version job position object)) objects)
    × (map (λ slot. (held_or_empty now slot).value) slots ≡ map (λ object. version_value job object (read_version job position object)) objects)
reads_true job position now before [] [] are is = (refl, refl)
reads_true job position now before [] (o ∷ objects) are is = absurd cc
reads_true job position now before (s ∷ slots) [] are is = absurd cc
reads_true job position now before (s ∷ slots) (o ∷ objects) are is =
    let holds : before s ≡ Some (o, read_version job position o) = cc in
    let more : map before slots ≡ map (λ (c : Object × ℕ). Some c) (map (λ object. (object, read_version job position object)) objects) = cc in
    let first = read_true job now s (before s) o (read_version job position o) (are s) holds in
    let rest = reads_true job position now before slots objects are more in (
      ap₂ (λ (c : Object × ℕ) (cs : List (Object × ℕ)). c ∷ cs) first.content rest.0,
      ap₂ (λ (g : Grid) (gs : List Grid). g ∷ gs) (first.right.value ∙ ap (λ (c : Object × ℕ). version_value job c.0 c.1) first.content) rest.1,
    )
