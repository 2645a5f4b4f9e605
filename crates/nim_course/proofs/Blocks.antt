-- A whole job has few statements, and its blocks have few tasks.
use Rattle.std.proofs.Common.{◌≡◌, refl, ℕ, ◌≤◌, true, ℤ, List, [], ◌∷◌, length, map, arith}
use Rattle.std.specs.Prelude.{◌&&◌, nat_le}
use Rattle.std.specs.List.{list_all}
use Rattle.std.proofs.lemmas.Bool.{and_from, and_parts, le-leb}
use Rattle.std.proofs.lemmas.Bool.Decides.{nat_tests}
use Rattle.nim_base.specs.declared.task.Task.{Task}
use Rattle.nim_base.specs.declared.task.TaskForm.{TaskForm}
use Rattle.nim_base.specs.Apply.{has_counts}
use Rattle.nim_job.specs.declared.job.Job.{Job}
use Rattle.nim_job.specs.Objects.{objects_of}
use Rattle.nim_job.specs.Tasks.{block_forms_of, stages_of, task_with_args}
use Rattle.nim_job.specs.Whole.{are_distinct, is_object_within, is_whole_task, is_whole}
use Rattle.nim_job.proofs.Whole.{tasks_there, whole_blocks}
use Rattle.nim_template.specs.Fits.{are_below, is_fit}
use Rattle.nim_base.proofs.Lists.{and_from_five}
use Rattle.nim_job.proofs.FewTasks.{length_forms, tasks_at}
use Rattle.nim_course.proofs.Counts.{counts_of, reads_few, task_counts, writes_few, writes_some}

pub steps_few : (job : Job) → is_whole job ≡ true → job.steps ≤ 1000000
steps_few job whole = grind (arith, nat_tests)

-- a block has few forms
pub forms_few : (job : Job) (block : ℕ) → is_whole job ≡ true → length (block_forms_of job block) ≤ 1024
forms_few job block whole =
    omega (arith, length_forms job.vars (stages_of job block), tasks_at job.vars job.blocks block (whole_blocks job whole))

-- ---- the forms fit

-- a form fits where it is a task with any arguments
pub form_fits : (objects : ℕ) (args : List ℤ) (form : TaskForm) → is_whole_task objects (task_with_args args form) ≡ true → is_fit objects form ≡ true
form_fits objects args form is =
    let task : Task = task_with_args args form in
    let counts = counts_of form.func (length task.params) (length form.reads) (length form.writes) (task_counts objects task is) in
    let func = has_counts form.func (length task.params) (length form.reads) (length form.writes) in
    let reads = list_all (is_object_within objects) form.reads in
    let writes = list_all (is_object_within objects) form.writes in
    let three = (and_parts (func && reads && writes) (are_distinct form.writes) is).0 in
    let two = and_parts (func && reads) writes three in
    and_from_five (nat_le 1 (length form.writes)) (nat_le (length form.writes) 2) (nat_le (length form.reads) 8) (are_below objects form.writes)
    (are_below objects form.reads)
    (le-leb 1 (length form.writes) (omega (arith, counts.1, writes_some form.func)))
    (le-leb (length form.writes) 2 (omega (arith, counts.1, writes_few form.func)))
    (le-leb (length form.reads) 8 (omega (arith, counts.0, reads_few form.func)))
    two.1 (and_parts func reads two.0).1

pub all_fit : (objects : ℕ) (args : List ℤ) (forms : List TaskForm) → list_all (is_whole_task objects) (map (task_with_args args) forms) ≡ true
    → list_all (is_fit objects) forms ≡ true
all_fit objects args [] are = refl
all_fit objects args (form ∷ forms) are =
    let parts = and_parts (is_whole_task objects (task_with_args args form)) (list_all (is_whole_task objects) (map (task_with_args args) forms)) are in
    and_from (is_fit objects form) (list_all (is_fit objects) forms) (form_fits objects args form parts.0) (all_fit objects args forms parts.1)

-- a whole job's blocks have forms that fit
pub forms_fit : (job : Job) (block : ℕ) → is_whole job ≡ true → list_all (is_fit (objects_of job.vars)) (block_forms_of job block) ≡ true
forms_fit job block whole = all_fit (objects_of job.vars) [] (block_forms_of job block) (tasks_there job block [] whole)
