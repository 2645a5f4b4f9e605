-- The law of versions: what a task reads is what the last task before it that writes the object left, and the
-- steps keep what the first tasks leave.
use Rattle.std.proofs.Common.{◌≡◌, ℕ, ◌+◌, ◌-◌, ◌≤◌, zero, suc, Bool, true, false, List, [], ◌∷◌, ◌++◌, length, take, map, refl, ap, sym, ◌∙◌, arith, Option, None, Some}
use Rattle.std.specs.Prelude.{slice_get, slice_set, ◌==◌, if◌then◌else◌}
use Rattle.std.specs.List.{list_any}
use Rattle.std.specs.Option.{option_map_or, option_to_list}
use Rattle.std.proofs.lemmas.Bool.{or_parts, eqb-false, cond_both}
use Rattle.std.proofs.lemmas.List.{append-nil, append_assoc, length-append, take_at, get_or-set_other}
use Rattle.nim_base.specs.declared.number.Object.{Object}
use Rattle.nim_base.specs.declared.number.Shape.{Shape}
use Rattle.nim_base.specs.declared.task.Task.{Task}
use Rattle.nim_base.specs.Value.{Grid, empty_grid}
use Rattle.nim_base.specs.Apply.{apply_of}
use Rattle.nim_job.specs.declared.item.Item.{Item}
use Rattle.nim_job.specs.declared.job.Job.{Job}
use Rattle.nim_job.specs.Objects.{initial_values, shapes_of, shape_at, value_at}
use Rattle.nim_job.specs.Serial.{driver_at, tasks_before, tasks_of}
use Rattle.nim_job.specs.Step.{State, written, after_task, after_tasks, is_over, items_step, items_tasks, step, tasks_next}
use Rattle.nim_job.specs.Versions.{is_written, version_before, ReadsVersions, KeepsVersions}
use Rattle.nim_job.proofs.Lists.{take_next}

-- an object that isn't written keeps its value
pub written_other : (values : List Grid) (objects : List Object) (grids : List Grid) (object : Object)
    → list_any (λ (o : Object). o.0 == object.0) objects ≡ false
    → value_at (written values objects grids) object ≡ value_at values object
written_other values [] grids object none = refl
written_other values (o ∷ objects) [] object none = refl
written_other values (o ∷ objects) (grid ∷ grids) object none =
    let parts = or_parts (o.0 == object.0) (list_any (λ (p : Object). p.0 == object.0) objects) none in
    written_other (slice_set values o.0 grid) objects grids object parts.1
    ∙ get_or-set_other values o.0 object.0 grid empty_grid (λ same. eqb-false o.0 object.0 parts.0 (sym same))

-- the tasks of two lists, one list behind the other
pub after_tasks-append : (shapes : List Shape) (values : List Grid) (xs ys : List Task)
    → after_tasks shapes values (xs ++ ys) ≡ after_tasks shapes (after_tasks shapes values xs) ys
after_tasks-append shapes values [] ys = refl
after_tasks-append shapes values (task ∷ xs) ys = after_tasks-append shapes (after_task shapes values task) xs ys

-- a task that may be there, and doesn't write the object
kept_by : (shapes : List Shape) (values : List Grid) (found : Option Task) (object : Object) → option_map_or (is_written object) found false ≡ false
    → value_at (after_tasks shapes values (option_to_list found)) object ≡ value_at values object
kept_by shapes values None object none = refl
kept_by shapes values (Some task) object none =
    written_other values task.writes (apply_of task.func task.params (map (value_at values) task.reads) (map (shape_at shapes) task.writes)) object none

-- what an object holds after the first k tasks
content : List Shape → List Grid → List Task → Object → ℕ → Grid
content shapes values tasks object k = value_at (after_tasks shapes values (take k tasks)) object

content_kept : (shapes : List Shape) (values : List Grid) (tasks : List Task) (object : Object) (k : ℕ)
    → option_map_or (is_written object) (slice_get tasks k) false ≡ false
    → content shapes values tasks object (suc k) ≡ content shapes values tasks object k
unfolding content
content_kept shapes values tasks object k none =
    ap (λ (xs : List Task). value_at (after_tasks shapes values xs) object) (take_next tasks k)
    ∙ ap (λ (grids : List Grid). value_at grids object) (after_tasks-append shapes values (take k tasks) (option_to_list (slice_get tasks k)))
    ∙ kept_by shapes (after_tasks shapes values (take k tasks)) (slice_get tasks k) object none

content_read : (shapes : List Shape) (values : List Grid) (tasks : List Task) (object : Object) (k : ℕ)
    → content shapes values tasks object k ≡ content shapes values tasks object (version_before tasks k object)
content_read shapes values tasks object zero = refl
content_read shapes values tasks object (suc k) =
    cond_both (option_map_or (is_written object) (slice_get tasks k) false) (k + 1) (version_before tasks k object)
    (λ v. content shapes values tasks object (suc k) ≡ content shapes values tasks object v)
    (λ wrote. ap (content shapes values tasks object) (omega arith))
    (λ none. content_kept shapes values tasks object k none ∙ content_read shapes values tasks object k)

-- each task reads the content of the version that it reads
pub reads_versions : (job : Job) → ReadsVersions job
unfolding content
reads_versions job = λ k object. content_read (shapes_of job.vars) (initial_values job.vars) (tasks_of job) object k

-- what a step does to the values and the position
abbrev Moves : Job → State → State → List Task → Type 0
Moves job state next tasks = (next.values ≡ after_tasks (shapes_of job.vars) state.values tasks) × (next.position ≡ state.position + length tasks)

items_move : (job : Job) (state : State) (items : List Item) → Moves job state (items_step job state items) (items_tasks job state items)
items_move job state [] = (refl, omega arith)
items_move job state (item ∷ rest) = (refl, refl)

moves_unless : (job : Job) (state : State) (b : Bool) → Moves job state (if b then state else items_step job state state.driver.todo)
    (if b then [] else items_tasks job state state.driver.todo)
moves_unless job state true = (refl, omega arith)
moves_unless job state false = items_move job state state.driver.todo

pub step_moves : (job : Job) (state : State) → Moves job state (step job state) (tasks_next job state)
step_moves job state = moves_unless job state (is_over state)

-- the values and the position after so many steps are those that the tasks of these steps leave
pub moved : (job : Job) (n : ℕ) → ((driver_at job n).values ≡ after_tasks (shapes_of job.vars) (initial_values job.vars) (tasks_before job n))
    × ((driver_at job n).position ≡ length (tasks_before job n))
unfolding driver_at tasks_before
moved job zero = (refl, refl)
moved job (suc n) =
    let before = moved job n in
    let next = step_moves job (driver_at job n) in (
      next.0 ∙ ap (λ (grids : List Grid). after_tasks (shapes_of job.vars) grids (tasks_next job (driver_at job n))) before.0
          ∙ sym (after_tasks-append (shapes_of job.vars) (initial_values job.vars) (tasks_before job n) (tasks_next job (driver_at job n))),
      omega (arith, next.1, before.1, length-append (tasks_before job n) (tasks_next job (driver_at job n))),
    )

-- the tasks of more steps begin with those of fewer
more_tasks : (job : Job) (n d : ℕ) → (more : List Task) × (tasks_before job (d + n) ≡ tasks_before job n ++ more)
unfolding tasks_before
more_tasks job n zero =
    let same : 0 + n ≡ n = omega arith in
    ([], ap (tasks_before job) same ∙ sym (append-nil (tasks_before job n)))
more_tasks job n (suc d) =
    let fewer = more_tasks job n d in
    let later : suc d + n ≡ suc (d + n) = omega arith in (
      fewer.0 ++ tasks_next job (driver_at job (d + n)),
      ap (tasks_before job) later ∙ ap (λ (tasks : List Task). tasks ++ tasks_next job (driver_at job (d + n))) fewer.1
          ∙ append_assoc (tasks_before job n) fewer.0 (tasks_next job (driver_at job (d + n))),
    )

-- the tasks of the first n steps are the first tasks of the job
pub tasks_first : (job : Job) (n : ℕ) → n ≤ job.steps → take (length (tasks_before job n)) (tasks_of job) ≡ tasks_before job n
tasks_first job n within =
    let more = more_tasks job n (job.steps - n) in
    let last : job.steps ≡ job.steps - n + n = omega arith in
    ap (λ (k : ℕ). take (length (tasks_before job n)) (tasks_before job k)) last
    ∙ ap (take (length (tasks_before job n))) more.1 ∙ take_at (tasks_before job n) more.0 (length (tasks_before job n)) refl

-- the steps keep what the first tasks leave, as many as ran
pub keeps_versions : (job : Job) → KeepsVersions job
keeps_versions job = λ n within.
    (moved job n).0 ∙ ap (after_tasks (shapes_of job.vars) (initial_values job.vars))
    (sym (ap (λ (k : ℕ). take k (tasks_of job)) (moved job n).1 ∙ tasks_first job n within))
