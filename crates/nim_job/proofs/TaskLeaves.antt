-- What the objects of a whole job hold after each of its tasks.
use Rattle.std.proofs.Common.{◌≡◌, ℕ, suc, true, pos, List, [], ◌∷◌, ◌++◌, length, take, map, refl, ap, ◌∙◌, arith, Option, Some}
use Rattle.std.specs.Prelude.{◌==◌, slice_get, slice_set}
use Rattle.std.specs.List.{list_all}
use Rattle.std.specs.Option.{option_to_list}
use Rattle.std.proofs.lemmas.Bool.{and_parts, eqb-true}
use Rattle.std.proofs.lemmas.List.{length-append, length-replicate, length-set}
use Rattle.std.proofs.lemmas.List.FromFn.{length-map-range_with_len}
use Rattle.std.proofs.lemmas.List.Sums.{sum_by-cons}
use Rattle.nim_base.specs.declared.number.Object.{Object}
use Rattle.nim_base.specs.declared.number.Shape.{Shape}
use Rattle.nim_base.specs.declared.task.Task.{Task}
use Rattle.nim_base.specs.Apply.{apply_of}
use Rattle.nim_base.specs.Value.{Grid, filled, iota_of}
use Rattle.nim_job.specs.declared.job.Init.{Init}
use Rattle.nim_job.specs.declared.job.Init.TheVariants.{Fill, Iota, Loaded}
use Rattle.nim_job.specs.declared.job.Job.{Job}
use Rattle.nim_job.specs.declared.job.Var.{Var}
use Rattle.nim_job.specs.Objects.{first_cell, initial_parts, initial_values, objects_of, shape_at, shapes_of, value_at}
use Rattle.nim_job.specs.Serial.{tasks_of}
use Rattle.nim_job.specs.Step.{after_task, after_tasks, written}
use Rattle.nim_job.specs.Versions.{values_after}
use Rattle.nim_job.specs.Whole.{has_init, is_filled, is_loaded, is_whole}
use Rattle.nim_job.proofs.Lists.{take_next}
use Rattle.nim_job.proofs.Versions.{after_tasks-append}
use Rattle.nim_job.proofs.Whole.{whole_inits}

-- as many values are written as there were
pub length-written : (values : List Grid) (objects : List Object) (grids : List Grid) → length (written values objects grids) ≡ length values
length-written values [] grids = refl
length-written values (o ∷ objects) [] = refl
length-written values (o ∷ objects) (grid ∷ grids) = length-written (slice_set values o.0 grid) objects grids ∙ length-set values o.0 grid

length-after_tasks : (shapes : List Shape) (values : List Grid) (tasks : List Task) → length (after_tasks shapes values tasks) ≡ length values
length-after_tasks shapes values [] = refl
length-after_tasks shapes values (task ∷ tasks) =
    length-after_tasks shapes (after_task shapes values task) tasks
    ∙ length-written values task.writes (apply_of task.func task.params (map (value_at values) task.reads) (map (shape_at shapes) task.writes))

pub length-parts : (v : Var) (init : Init) → has_init v.parts v.shape init ≡ true → length (initial_parts v init) ≡ v.parts
length-parts v (Fill number) is = length-replicate v.parts (filled v.shape number)
length-parts v Iota is = length-map-range_with_len (λ part. iota_of v.shape (pos (first_cell v.shape part))) 0 v.parts
length-parts v (Loaded values) is = eqb-true (length values) v.parts (and_parts (length values == v.parts) (list_all (is_loaded v.shape) values) is).0

-- as many values as objects, at first
pub length-initial : (vars : List Var) → list_all is_filled vars ≡ true → length (initial_values vars) ≡ objects_of vars
length-initial [] all = refl
length-initial (v ∷ vars) all =
    let parts = and_parts (is_filled v) (list_all is_filled vars) all in
    omega (
      arith,
      length-append (initial_parts v v.init) (initial_values vars),
      length-parts v v.init parts.0,
      length-initial vars parts.1,
      sum_by-cons (λ (w : Var). w.parts) v vars,
    )

-- as many values as objects
pub length-values : (job : Job) (k : ℕ) → is_whole job ≡ true → length (values_after job k) ≡ objects_of job.vars
length-values job k whole =
    length-after_tasks (shapes_of job.vars) (initial_values job.vars) (take k (tasks_of job)) ∙ length-initial job.vars (whole_inits job whole)

-- what the objects hold after the task at a position
pub task_leaves : (job : Job) (k : ℕ) (task : Task) → slice_get (tasks_of job) k ≡ Some task
    → values_after job (suc k) ≡ after_task (shapes_of job.vars) (values_after job k) task
task_leaves job k task there =
    ap (after_tasks (shapes_of job.vars) (initial_values job.vars))
    (take_next (tasks_of job) k ∙ ap (λ (o : Option Task). take k (tasks_of job) ++ option_to_list o) there)
    ∙ after_tasks-append (shapes_of job.vars) (initial_values job.vars) (take k (tasks_of job)) (task ∷ [])
