-- What was fetched and is reported is what the objects hold.
use Rattle.std.proofs.Common.{◌≡◌, ℕ, ◌+◌, ◌<◌, ◌≤◌, suc, zero, true, false, List, [], ◌∷◌, length, get_or, map, take, drop, refl, ap, ap₂, sym, ◌∙◌, arith, Option, None, Some}
use Rattle.std.specs.Prelude.{slice_get, slice_index_or, IfSome, All}
use Rattle.std.specs.List.{AllByRecursion, list_any, range_with_len}
use Rattle.std.specs.Option.{is_none, option_map_or}
use Rattle.std.proofs.Math.Seq.{drop-cons}
use Rattle.std.proofs.lemmas.Bool.{or_parts}
use Rattle.std.proofs.lemmas.List.Elements.{All-from_recursion, recursion_from_All}
use Rattle.std.proofs.lemmas.List.Sums.{sum_by-cons}
use Rattle.nim_base.specs.declared.number.Object.{Object}
use Rattle.nim_base.specs.Value.{Grid, cell_of, empty_grid}
use Rattle.nim_job.specs.declared.job.Job.{Job}
use Rattle.nim_job.specs.declared.job.Var.{Var}
use Rattle.nim_job.specs.Objects.{first_object, objects_of, parts_of, value_at}
use Rattle.nim_job.specs.Step.{output_of, part_texts}
use Rattle.nim_job.specs.Versions.{read_version, values_after, version_value}
use Rattle.nim_job.specs.Whole.{is_whole}
use Rattle.nim_job.proofs.TaskLeaves.{length-values}
use Rattle.nim_job.proofs.Versions.{reads_versions}
use Rattle.nim_place.specs.Versions.{Versions, latest_of}
use Rattle.nim_course.specs.declared.fetched.Fetched.{Fetched}
use Rattle.nim_course.specs.Controller.{Controller}
use Rattle.nim_course.specs.Leads.{IsFetchedAt}
use Rattle.nim_course.specs.Moves.{cell_told, is_open, objects_in, text_told, value_in}
use Rattle.nim_course.specs.OrdersGiven.{fetched_of}
use Rattle.nim_course.proofs.Fetches.{AreThere}

-- ---- what is fetched

-- what is fetched now is in the version that is read at the position, and nothing was reported of it
fresh_each : (job : Job) (position : ℕ) (versions : Versions) (objects : List Object)
    → ((object : Object) → object.0 < objects_of job.vars → latest_of versions object ≡ read_version job position object) → AreThere job objects
    → AllByRecursion (IsFetchedAt job position) (map (fetched_of versions) objects)
fresh_each job position versions [] latest there = tt
fresh_each job position versions (object ∷ objects) latest there =
    (record { version = latest object there.0; value = tt }, fresh_each job position versions objects latest there.1)

pub fetched_fresh : (job : Job) (position : ℕ) (versions : Versions) (objects : List Object)
    → ((object : Object) → object.0 < objects_of job.vars → latest_of versions object ≡ read_version job position object) → AreThere job objects
    → All (IsFetchedAt job position) (map (fetched_of versions) objects)
fetched_fresh job position versions objects latest there =
    All-from_recursion (IsFetchedAt job position) (map (fetched_of versions) objects) (fresh_each job position versions objects latest there)

pub fetched_objects : (versions : Versions) (objects : List Object) → map (λ (f : Fetched). f.object) (map (fetched_of versions) objects) ≡ objects
fetched_objects versions [] = refl
fetched_objects versions (object ∷ objects) = ap (λ (os : List Object). object ∷ os) (fetched_objects versions objects)

-- ---- the objects of a variable

vars_within : (vars : List Var) (var : ℕ) → first_object vars var + parts_of vars var ≤ objects_of vars
vars_within [] zero = omega arith
vars_within [] (suc var) = omega arith
vars_within (v ∷ vars) zero = omega (arith, sum_by-cons (λ (w : Var). w.parts) v vars)
vars_within (v ∷ vars) (suc var) =
    omega (arith, vars_within vars var, sum_by-cons (λ (w : Var). w.parts) v vars, sum_by-cons (λ (w : Var). w.parts) v (take var vars))

there_from : (job : Job) (first part n : ℕ) → first + part + n ≤ objects_of job.vars
    → AreThere job (map (λ (k : ℕ). record { 0 = first + k }) (range_with_len part n))
there_from job first part zero within = tt
there_from job first part (suc n) within = (omega (arith, within), there_from job first (part + 1) n (omega (arith, within)))

pub objects_there : (c : Controller) (var : ℕ) → AreThere c.job (objects_in c var)
objects_there c var =
    there_from c.job (first_object c.job.vars var) 0 (parts_of c.job.vars var) (omega (arith, vars_within c.job.vars var))

-- ---- what was reported

value_told : (job : Job) (f : Fetched) (o : Option Grid) → is_none o ≡ false → IfSome o (λ (value : Grid). value ≡ version_value job f.object f.version)
    → option_map_or (λ (value : Grid). value) o empty_grid ≡ version_value job f.object f.version
value_told job f None told is = absurd cc
value_told job f (Some value) told is = is

one_told : (job : Job) (position : ℕ) (f : Fetched) → IsFetchedAt job position f → is_open f ≡ false
    → value_in f ≡ value_at (values_after job position) f.object
one_told job position f at told =
    value_told job f f.value told at.value ∙ ap (version_value job f.object) at.version ∙ sym (reads_versions job position f.object)

each_told : (job : Job) (position : ℕ) (fs : List Fetched) → AllByRecursion (IsFetchedAt job position) fs → list_any is_open fs ≡ false
    → map value_in fs ≡ map (λ (object : Object). value_at (values_after job position) object) (map (λ (f : Fetched). f.object) fs)
each_told job position [] all told = refl
each_told job position (f ∷ fs) all told =
    let parts = or_parts (is_open f) (list_any is_open fs) told in
    ap₂ (λ (g : Grid) (gs : List Grid). g ∷ gs) (one_told job position f all.0 parts.0) (each_told job position fs all.1 parts.1)

all_told : (job : Job) (position : ℕ) (fs : List Fetched) (objects : List Object) → All (IsFetchedAt job position) fs → list_any is_open fs ≡ false
    → map (λ (f : Fetched). f.object) fs ≡ objects
    → map value_in fs ≡ map (λ (object : Object). value_at (values_after job position) object) objects
all_told job position fs objects all told are =
    each_told job position fs (recursion_from_All (IsFetchedAt job position) fs all) told
    ∙ ap (map (λ (object : Object). value_at (values_after job position) object)) are

-- the cell of the one object
pub cell_is : (job : Job) (position : ℕ) (fs : List Fetched) (object : Object) (row cell : ℕ) → All (IsFetchedAt job position) fs
    → list_any is_open fs ≡ false → map (λ (f : Fetched). f.object) fs ≡ object ∷ []
    → cell_told fs row cell ≡ cell_of (value_at (values_after job position) object) row cell
cell_is job position fs object row cell all told are =
    ap (λ (gs : List Grid). cell_of (slice_index_or gs 0 empty_grid) row cell) (all_told job position fs (object ∷ []) all told are)

-- ---- the parts of a variable

-- some items of a list one by one
items_taken : (values : List Grid) (first part n : ℕ) → first + part + n ≤ length values
    → map (λ (object : Object). value_at values object) (map (λ (k : ℕ). record { 0 = first + k }) (range_with_len part n))
    ≡ take n (drop (first + part) values)
items_taken values first part zero within = refl
items_taken values first part (suc n) within =
    let next : first + (part + 1) ≡ suc (first + part) = omega arith in
    ap (λ (zs : List Grid). get_or values (first + part) empty_grid ∷ zs)
    (items_taken values first (part + 1) n (omega (arith, within)) ∙ ap (λ (k : ℕ). take n (drop k values)) next)
    ∙ sym (ap (take (suc n)) (drop-cons values (first + part) empty_grid (omega (arith, within))))

-- the text of its parts
pub text_is : (c : Controller) (position var : ℕ) → is_whole c.job ≡ true → All (IsFetchedAt c.job position) c.fetched
    → list_any is_open c.fetched ≡ false → map (λ (f : Fetched). f.object) c.fetched ≡ objects_in c var
    → text_told c var ≡ output_of c.job.vars (values_after c.job position) var
text_is c position var whole all told are =
    let values : List Grid = values_after c.job position in
    let first : ℕ = first_object c.job.vars var in
    let parts : ℕ = parts_of c.job.vars var in
    let from : first + 0 ≡ first = omega arith in
    ap (part_texts (option_map_or (λ v. v.name) (slice_get c.job.vars var) []) 0)
    (all_told c.job position c.fetched (objects_in c var) all told are
    ∙ items_taken values first 0 parts (omega (arith, vars_within c.job.vars var, length-values c.job position whole))
    ∙ ap (λ (k : ℕ). take parts (drop k values)) from)
