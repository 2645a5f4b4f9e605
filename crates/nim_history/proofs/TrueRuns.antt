-- What a Run of a whole job reads and leaves, where the slots have what they hold.
use Rattle.std.proofs.Common.{◌≡◌, ℕ, ◌-◌, ◌<◌, ◌≤◌, suc, zero, Bool, true, false, ℤ, List, [], ◌∷◌, length, map, refl, ap, ap₂, sym, subst, ◌∙◌, arith, Option, None, Some}
use Rattle.std.specs.Prelude.{◌==◌, not, ◌||◌, nat_lt, slice_get, slice_set, IsSomeAnd}
use Rattle.std.specs.List.{AllZip, list_all, list_any}
use Rattle.std.specs.Option.{option_map_or}
use Rattle.std.proofs.Math.Path.{fun_ext}
use Rattle.std.proofs.lemmas.Bool.{and_from, and_parts, both_ways, not-true, eq-eqb, eqb-true, ltb-true, or_left, or_right}
use Rattle.std.proofs.lemmas.Bool.Decides.{nat_tests}
use Rattle.std.proofs.lemmas.List.{get_or-set_same, length-map, length-set}
use Rattle.std.proofs.lemmas.Option.{slice_get_within}
use Rattle.nim_base.specs.declared.number.Object.{Object}
use Rattle.nim_base.specs.declared.number.Shape.{Shape}
use Rattle.nim_base.specs.declared.number.Slot.{Slot}
use Rattle.nim_base.specs.declared.task.Func.{Func}
use Rattle.nim_base.specs.declared.task.Func.TheVariants.{Split}
use Rattle.nim_base.specs.declared.task.Task.{Task}
use Rattle.nim_base.specs.Apply.{apply_of, fit_all, has_counts, results_of, result_count}
use Rattle.nim_base.specs.Value.{Grid, empty_grid}
use Rattle.nim_command.specs.declared.command.Kind.TheVariants.{Run}
use Rattle.nim_command.specs.Holds.{Content, version_after}
use Rattle.nim_command.specs.Slots.{object_of}
use Rattle.nim_job.specs.declared.job.Job.{Job}
use Rattle.nim_job.specs.declared.job.Var.{Var}
use Rattle.nim_job.specs.Objects.{objects_of, shape_at, shapes_of, value_at}
use Rattle.nim_job.specs.Serial.{tasks_of}
use Rattle.nim_job.specs.Step.{written}
use Rattle.nim_job.specs.Versions.{is_written, read_version, values_after, version_value}
use Rattle.nim_job.specs.Whole.{are_distinct, is_object_within, is_whole_task, is_var, is_whole}
use Rattle.nim_job.proofs.FewTasks.{few_tasks, tasks_fit}
use Rattle.nim_job.proofs.TaskLeaves.{length-values, task_leaves}
use Rattle.nim_job.proofs.Versions.{reads_versions, written_other}
use Rattle.nim_job.proofs.Whole.{vars_sizes, whole_vars}
use Rattle.nim_plan.specs.Legal.{IsLegalKind, IsRunOf, is_version, reads_at}
use Rattle.nim_store.specs.declared.held.Held.{Held}
use Rattle.nim_history.specs.Kept.{content_seen, fitting_shape, held_version, results_for, held_or_empty}
use Rattle.nim_history.specs.Truth.{IsTrueHeld, values_read}
use Rattle.nim_history.proofs.TrueSlots.{IsTrueTo, fitting_there, reads_true}

-- as many results as the function has
length-results : (func : Func) (params : List ℤ) (reads : List Grid) (shape : Shape) → length (results_of func params reads shape) ≡ result_count func
length-results Split params reads shape = refl
length-results func params reads shape = refl

length-fit_all : (grids : List Grid) (shapes : List Shape) → length grids ≡ length shapes → length (fit_all grids shapes) ≡ length shapes
length-fit_all [] [] same = refl
length-fit_all [] (shape ∷ shapes) same = absurd cc
length-fit_all (grid ∷ grids) [] same = absurd cc
length-fit_all (grid ∷ grids) (shape ∷ shapes) same = ap suc (length-fit_all grids shapes (omega (arith, same)))

length-apply : (func : Func) (params : List ℤ) (reads : List Grid) (shapes : List Shape) → length shapes ≡ result_count func
    → length (apply_of func params reads shapes) ≡ length shapes
length-apply func params reads [] same = refl
length-apply func params reads (shape ∷ shapes) same =
    length-fit_all (results_of func params reads shape) (shape ∷ shapes) (length-results func params reads shape ∙ sym same)

-- as many writes as the function has results
counts_writes : (func : Func) (params reads writes : ℕ) → has_counts func params reads writes ≡ true → writes ≡ result_count func
counts_writes func params reads writes is = eqb-true writes (result_count func) (and_parts _ (writes == result_count func) is).1

-- a test of all holds of one of them
item_passes : {X : Type 0} (p : X → Bool) (xs : List X) (i : ℕ) (x : X) → list_all p xs ≡ true → slice_get xs i ≡ Some x → p x ≡ true
item_passes p [] i x all is = absurd cc
item_passes p (y ∷ ys) zero x all is = let same : y ≡ x = cc in ap p (sym same) ∙ (and_parts (p y) (list_all p ys) all).0
item_passes p (y ∷ ys) (suc i) x all is = item_passes p ys i x (and_parts (p y) (list_all p ys) all).1 is

-- an object among these is there
among_there : (n : ℕ) (objects : List Object) (object : Object) → list_all (is_object_within n) objects ≡ true
    → list_any (λ (o : Object). o.0 == object.0) objects ≡ true → is_object_within n object ≡ true
among_there n [] object all is = absurd (both_ways false refl is)
among_there n (o ∷ objects) object all is = either (o.0 == object.0) refl (among_there n objects object parts.1) is where
  parts : (is_object_within n o ≡ true) × (list_all (is_object_within n) objects ≡ true)
  parts = and_parts (is_object_within n o) (list_all (is_object_within n) objects) all

  either : (b : Bool) → (o.0 == object.0) ≡ b → (list_any (λ (p : Object). p.0 == object.0) objects ≡ true → is_object_within n object ≡ true)
      → (b || list_any (λ (p : Object). p.0 == object.0) objects) ≡ true → is_object_within n object ≡ true
  either true same more is = ap (λ (k : ℕ). nat_lt k n) (sym (eqb-true o.0 object.0 same)) ∙ parts.0
  either false other more is = more is

-- no object is written twice
abbrev AreDistinct : List Object → Type 0
AreDistinct [] = Unit {0}
AreDistinct (object ∷ objects) = (list_any (λ (o : Object). o.0 == object.0) objects ≡ false) × AreDistinct objects

distinct_from : (objects : List Object) → are_distinct objects ≡ true → AreDistinct objects
distinct_from [] are = tt
distinct_from (object ∷ objects) are =
    let parts = and_parts (not (list_any (λ (o : Object). o.0 == object.0) objects)) (are_distinct objects) are in
    (not-true (list_any (λ (o : Object). o.0 == object.0) objects) parts.0, distinct_from objects parts.1)

-- what is written into objects is right where it is what they hold then
writes_right : (job : Job) (version : ℕ) (slots : List Slot) (grids values : List Grid) → length slots ≡ length grids → AreDistinct (map object_of slots)
    → list_all (is_object_within (length values)) (map object_of slots) ≡ true
    → ((o : Object) → list_any (λ (p : Object). p.0 == o.0) (map object_of slots) ≡ true → is_version job o version ≡ true)
    → ((o : Object) → version_value job o version ≡ value_at (written values (map object_of slots) grids) o)
    → AllZip (λ slot grid. IsTrueHeld job (held_version slot version grid)) slots grids
writes_right job version [] [] values paired distinct there are is = tt
writes_right job version [] (grid ∷ grids) values paired distinct there are is = absurd cc
writes_right job version (slot ∷ slots) [] values paired distinct there are is = absurd cc
writes_right job version (slot ∷ slots) (grid ∷ grids) values paired distinct there are is =
    let o = object_of slot in
    let parts = and_parts (is_object_within (length values) o) (list_all (is_object_within (length values)) (map object_of slots)) there in
    let within : o.0 < length values = ltb-true o.0 (length values) parts.0 in (
      record {
        version = are o (or_left (o.0 == o.0) (list_any (λ (p : Object). p.0 == o.0) (map object_of slots)) (eq-eqb o.0 o.0 refl));
        value =
            sym (is o ∙ written_other (slice_set values o.0 grid) (map object_of slots) grids o distinct.0 ∙ get_or-set_same values o.0 grid empty_grid within);
      },
      writes_right job version slots grids (slice_set values o.0 grid) (omega (arith, paired)) distinct.1
          (subst (λ (n : ℕ). list_all (is_object_within n) (map object_of slots) ≡ true) (sym (length-set values o.0 grid)) parts.1)
          (λ p among. are p (or_right (o.0 == p.0) (list_any (λ (q : Object). q.0 == p.0) (map object_of slots)) among))
          is,
    )

-- What a Run of a task reads and gives.
pub record IsTrueRun (job : Job) (now : Slot → Option Held) (position : ℕ) (func : Func) (params : List ℤ) (reads writes : List Slot) (task : Task)
    : Type 0 where
  pub counts : has_counts func (length params) (length reads) (length writes) ≡ true
  pub contents : map (content_seen now) reads ≡ reads_at job position task
  pub values : map (λ slot. (held_or_empty now slot).value) reads ≡ values_read job position task
  pub left : AllZip (λ slot grid. IsTrueHeld job (held_version slot (version_after position) grid)) writes
      (results_for (shapes_of job.vars) func params reads writes now)

-- a whole job's steps
steps_few : (job : Job) → is_whole job ≡ true → job.steps ≤ 1000000
steps_few job whole = grind (arith, nat_tests)

-- what the task at a position writes has the next version, which is one of the job
next_version : (job : Job) (position : ℕ) (task : Task) → is_whole job ≡ true → slice_get (tasks_of job) position ≡ Some task
    → version_after position ≡ suc position
next_version job position task whole there =
    omega (arith, slice_get_within (tasks_of job) position task there, few_tasks job whole, steps_few job whole)

version_there : (job : Job) (position version : ℕ) (task : Task) (object : Object) → version ≡ suc position → slice_get (tasks_of job) position ≡ Some task
    → is_object_within (objects_of job.vars) object ≡ true → is_written object task ≡ true → is_version job object version ≡ true
version_there job position version task object next there is wrote =
    let before : version - 1 ≡ position = omega (arith, next) in
    and_from (is_object_within (objects_of job.vars) object)
    ((version == 0) || option_map_or (is_written object) (slice_get (tasks_of job) (version - 1)) false) is
    (or_right (version == 0) (option_map_or (is_written object) (slice_get (tasks_of job) (version - 1)) false)
    (ap (λ (k : ℕ). option_map_or (is_written object) (slice_get (tasks_of job) k) false) before
    ∙ ap (λ (t : Option Task). option_map_or (is_written object) t false) there ∙ wrote))

-- the results of a Run are fitted to the shapes of the objects that its task writes
shapes_fitting : (vars : List Var) (slots : List Slot) → list_all is_var vars ≡ true
    → list_all (is_object_within (objects_of vars)) (map object_of slots) ≡ true
    → map (fitting_shape (shapes_of vars)) slots ≡ map (shape_at (shapes_of vars)) (map object_of slots)
shapes_fitting vars [] all there = refl
shapes_fitting vars (slot ∷ slots) all there =
    let parts = and_parts (is_object_within (objects_of vars) (object_of slot)) (list_all (is_object_within (objects_of vars)) (map object_of slots)) there in
    ap₂ (λ (s : Shape) (ss : List Shape). s ∷ ss) (fitting_there vars slot all parts.0) (shapes_fitting vars slots all parts.1)

-- the values that a task reads are what its objects hold before it
values_before : (job : Job) (position : ℕ) (task : Task) → values_read job position task ≡ map (value_at (values_after job position)) task.reads
values_before job position task =
    let same : (λ (object : Object). version_value job object (read_version job position object)) ≡ value_at (values_after job position) =
    fun_ext (λ object. sym (reads_versions job position object)) in
    ap (λ (f : Object → Grid). map f task.reads) same

-- what a task that fits gives
task_parts : (objects : ℕ) (task : Task) → is_whole_task objects task ≡ true
    → (has_counts task.func (length task.params) (length task.reads) (length task.writes) ≡ true)
    × (list_all (is_object_within objects) task.writes ≡ true) × (are_distinct task.writes ≡ true)
task_parts objects task fit = grind (arith, nat_tests)

-- a Run of a task that is there, where the slots have what they hold
run_of : (job : Job) (now : Slot → Option Held) (before : Slot → Content) (position : ℕ) (func : Func) (params : List ℤ) (reads writes : List Slot)
    (task : Task)
    → is_whole job ≡ true → ((s : Slot) → IsTrueTo job (now s) (before s)) → slice_get (tasks_of job) position ≡ Some task
    → IsRunOf job before position func params reads writes task → IsTrueRun job now position func params reads writes task
run_of job now before position func params reads writes task whole are there run =
    let vars = (vars_sizes job.vars (whole_vars job whole)).1 in
    let objects = objects_of job.vars in
    let fit : is_whole_task objects task ≡ true = item_passes (is_whole_task objects) (tasks_of job) position task (tasks_fit job whole) there in
    let known = task_parts objects task fit in
    let many_reads : length task.reads ≡ length reads =
    sym (length-map task.reads _) ∙ sym (length-map (reads_at job position task) _) ∙ sym (ap length run.reads) ∙ length-map reads before in
    let many_writes : length task.writes ≡ length writes = sym (ap length run.writes) ∙ length-map writes object_of in
    let counts : has_counts func (length params) (length reads) (length writes) ≡ true =
    ap₂ (λ (f : Func) (ps : List ℤ). has_counts f (length ps) (length reads) (length writes)) run.func run.params
    ∙ ap₂ (λ (r w : ℕ). has_counts task.func (length task.params) r w) (sym many_reads) (sym many_writes) ∙ known.0 in
    let read = reads_true job position now before reads task.reads are run.reads in
    let written_there : list_all (is_object_within objects) (map object_of writes) ≡ true = ap (list_all (is_object_within objects)) run.writes ∙ known.1 in
    let results = results_for (shapes_of job.vars) func params reads writes now in
    let many_results : length writes ≡ length results =
    sym (length-apply func params (map (λ slot. (held_or_empty now slot).value) reads) (map (fitting_shape (shapes_of job.vars)) writes)
    (length-map writes (fitting_shape (shapes_of job.vars)) ∙ counts_writes func (length params) (length reads) (length writes) counts)
    ∙ length-map writes (fitting_shape (shapes_of job.vars))) in
    let read_before : List Grid = map (value_at (values_after job position)) task.reads in
    let given : results ≡ apply_of task.func task.params read_before (map (shape_at (shapes_of job.vars)) task.writes) =
    ap₂ (λ (f : Func) (ps : List ℤ). apply_of f ps (map (λ slot. (held_or_empty now slot).value) reads) (map (fitting_shape (shapes_of job.vars)) writes))
    run.func run.params
    ∙ ap₂ (λ (vs : List Grid) (ss : List Shape). apply_of task.func task.params vs ss) (read.1 ∙ values_before job position task)
    (shapes_fitting job.vars writes vars written_there ∙ ap (map (shape_at (shapes_of job.vars))) run.writes) in
    let next = next_version job position task whole there in
    let after : values_after job (version_after position) ≡ written (values_after job position) (map object_of writes) results =
    ap (values_after job) next ∙ task_leaves job position task there
    ∙ ap₂ (λ (os : List Object) (gs : List Grid). written (values_after job position) os gs) (sym run.writes) (sym given) in
    record {
      counts = counts;
      contents = read.0;
      values = read.1;
      left = writes_right job (version_after position) writes results (values_after job position) many_results
          (distinct_from (map object_of writes) (ap are_distinct run.writes ∙ known.2))
          (subst (λ (n : ℕ). list_all (is_object_within n) (map object_of writes) ≡ true) (sym (length-values job position whole)) written_there)
          (λ o among. version_there job position (version_after position) task o next there (among_there objects (map object_of writes) o written_there among)
          (ap (list_any (λ (p : Object). p.0 == o.0)) (sym run.writes) ∙ among))
          (λ o. ap (λ (vs : List Grid). value_at vs o) after);
    }

-- what follows of a value that is there
pub some_gives : {X : Type 0} {P : X → Type 0} (C : Type 0) (o : Option X) → IsSomeAnd o P → ((x : X) → o ≡ Some x → P x → C) → C
some_gives C None is gives = absurd is
some_gives C (Some x) is gives = gives x refl is

pub some_then : {X : Type 0} {P : X → Type 0} (Q : X → Type 0) (o : Option X) → IsSomeAnd o P → ((x : X) → o ≡ Some x → P x → Q x) → IsSomeAnd o Q
some_then Q None is gives = absurd is
some_then Q (Some x) is gives = gives x refl is

-- a Run that is legal
pub run_true : (job : Job) (now : Slot → Option Held) (before : Slot → Content) (position : ℕ) (func : Func) (params : List ℤ) (reads writes : List Slot)
    → is_whole job ≡ true → IsLegalKind job before (Run position func params reads writes) → ((s : Slot) → IsTrueTo job (now s) (before s))
    → IsSomeAnd (slice_get (tasks_of job) position) (IsTrueRun job now position func params reads writes)
run_true job now before position func params reads writes whole legal are =
    some_then (IsTrueRun job now position func params reads writes) (slice_get (tasks_of job) position) legal
    (λ task there run. run_of job now before position func params reads writes task whole are there run)
