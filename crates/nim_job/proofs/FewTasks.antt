-- How many tasks a whole job has, and that each of them fits it.
use Rattle.std.proofs.Common.{◌≡◌, ℕ, ◌*◌, ◌≤◌, zero, suc, Bool, true, false, ℤ, List, [], ◌∷◌, length, map, refl, ◌∙◌, arith}
use Rattle.std.specs.Prelude.{slice_get, if◌then◌else◌}
use Rattle.std.specs.List.{list_all, sum_by}
use Rattle.std.specs.Option.{option_map_or}
use Rattle.std.proofs.lemmas.Bool.{and_parts, and_from}
use Rattle.std.proofs.lemmas.Bool.Decides.{nat_tests}
use Rattle.std.proofs.lemmas.List.{length-append, length-map}
use Rattle.std.proofs.lemmas.List.Folds.{list_all-append}
use Rattle.std.proofs.lemmas.List.FromFn.{length-map-range_with_len}
use Rattle.std.proofs.lemmas.List.Sums.{sum_by-cons}
use Rattle.nim_job.specs.declared.block.Block.{Block}
use Rattle.nim_job.specs.declared.block.Stage.{Stage}
use Rattle.nim_job.specs.declared.item.Item.{Item}
use Rattle.nim_job.specs.declared.item.Item.TheVariants.{Run, Again}
use Rattle.nim_job.specs.declared.job.Job.{Job}
use Rattle.nim_job.specs.declared.job.Var.{Var}
use Rattle.nim_job.specs.declared.stmt.Stmt.{Stmt, out-Stmt}
use Rattle.nim_job.specs.declared.stmt.Stmt.TheOpen.{Stmt-F}
use Rattle.nim_job.specs.Driver.{atom_value}
use Rattle.nim_job.specs.Objects.{objects_of}
use Rattle.nim_job.specs.Serial.{driver_at, tasks_before, tasks_of}
use Rattle.nim_job.specs.Step.{State, is_over, items_tasks, stmt_tasks, tasks_next}
use Rattle.nim_job.specs.Tasks.{block_forms_of, block_tasks_of, form_of, forms_of, stage_forms, stages_of, task_with_args, task_count}
use Rattle.nim_job.specs.Whole.{is_whole_block, is_whole_task, is_whole}
use Rattle.nim_job.proofs.Whole.{tasks_there, whole_blocks}

-- as many tasks as the stages have
pub length_forms : (vars : List Var) (stages : List Stage) → length (forms_of vars stages) ≡ sum_by (task_count vars) stages
length_forms vars [] = refl
length_forms vars (stage ∷ stages) =
    omega (
      arith,
      length-append (stage_forms vars stage) (forms_of vars stages),
      length-map-range_with_len (form_of vars stage) 0 (task_count vars stage),
      length_forms vars stages,
      sum_by-cons (task_count vars) stage stages,
    )

pub block_tasks_few : (vars : List Var) (block : Block) → is_whole_block vars block ≡ true → sum_by (task_count vars) block.stages ≤ 1024
block_tasks_few vars block is = grind (arith, nat_tests)

pub tasks_at : (vars : List Var) (blocks : List Block) (block : ℕ) → list_all (is_whole_block vars) blocks ≡ true
    → sum_by (task_count vars) (option_map_or (λ (b : Block). b.stages) (slice_get blocks block) []) ≤ 1024
tasks_at vars [] block all = omega arith
tasks_at vars (b ∷ blocks) zero all = block_tasks_few vars b (and_parts (is_whole_block vars b) (list_all (is_whole_block vars) blocks) all).0
tasks_at vars (b ∷ blocks) (suc block) all = tasks_at vars blocks block (and_parts (is_whole_block vars b) (list_all (is_whole_block vars) blocks) all).1

pub block_few : (job : Job) (block : ℕ) (args : List ℤ) → is_whole job ≡ true → length (block_tasks_of job block args) ≤ 1024
block_few job block args whole =
    omega (
      arith,
      length-map (block_forms_of job block) (task_with_args args),
      length_forms job.vars (stages_of job block),
      tasks_at job.vars job.blocks block (whole_blocks job whole),
    )

stmt_few : (job : Job) (state : State) (stmt : Stmt-F Stmt) → is_whole job ≡ true → length (stmt_tasks job state stmt) ≤ 1024
stmt_few job state (Stmt-F.Do block args) whole = block_few job block (map (atom_value state.driver.scalars) args) whole
stmt_few job state stmt whole = omega arith

items_few : (job : Job) (state : State) (items : List Item) → is_whole job ≡ true → length (items_tasks job state items) ≤ 1024
items_few job state [] whole = omega arith
items_few job state (Run stmt ∷ rest) whole = stmt_few job state (out-Stmt stmt) whole
items_few job state (Again turns body ∷ rest) whole = omega arith

next_few : (job : Job) (state : State) (b : Bool) → is_whole job ≡ true → length (if b then [] else items_tasks job state state.driver.todo) ≤ 1024
next_few job state true whole = omega arith
next_few job state false whole = items_few job state state.driver.todo whole

few_before : (job : Job) (n : ℕ) → is_whole job ≡ true → length (tasks_before job n) ≤ 1024 * n
unfolding tasks_before
few_before job zero whole = omega arith
few_before job (suc n) whole =
    omega (
      arith,
      length-append (tasks_before job n) (tasks_next job (driver_at job n)),
      few_before job n whole,
      next_few job (driver_at job n) (is_over (driver_at job n)) whole,
    )

-- at most 1,024 tasks a step
pub few_tasks : (job : Job) → is_whole job ≡ true → length (tasks_of job) ≤ 1024 * job.steps
few_tasks job whole = few_before job job.steps whole

stmt_fit : (job : Job) (state : State) (stmt : Stmt-F Stmt) → is_whole job ≡ true
    → list_all (is_whole_task (objects_of job.vars)) (stmt_tasks job state stmt) ≡ true
stmt_fit job state (Stmt-F.Do block args) whole = tasks_there job block (map (atom_value state.driver.scalars) args) whole
stmt_fit job state stmt whole = refl

items_fit : (job : Job) (state : State) (items : List Item) → is_whole job ≡ true
    → list_all (is_whole_task (objects_of job.vars)) (items_tasks job state items) ≡ true
items_fit job state [] whole = refl
items_fit job state (Run stmt ∷ rest) whole = stmt_fit job state (out-Stmt stmt) whole
items_fit job state (Again turns body ∷ rest) whole = refl

next_fit : (job : Job) (state : State) (b : Bool) → is_whole job ≡ true
    → list_all (is_whole_task (objects_of job.vars)) (if b then [] else items_tasks job state state.driver.todo) ≡ true
next_fit job state true whole = refl
next_fit job state false whole = items_fit job state state.driver.todo whole

fit_before : (job : Job) (n : ℕ) → is_whole job ≡ true → list_all (is_whole_task (objects_of job.vars)) (tasks_before job n) ≡ true
unfolding tasks_before
fit_before job zero whole = refl
fit_before job (suc n) whole =
    list_all-append (is_whole_task (objects_of job.vars)) (tasks_before job n) (tasks_next job (driver_at job n))
    ∙ and_from (list_all (is_whole_task (objects_of job.vars)) (tasks_before job n))
    (list_all (is_whole_task (objects_of job.vars)) (tasks_next job (driver_at job n)))
    (fit_before job n whole) (next_fit job (driver_at job n) (is_over (driver_at job n)) whole)

-- each task has its function's counts, and reads and writes objects that are there
pub tasks_fit : (job : Job) → is_whole job ≡ true → list_all (is_whole_task (objects_of job.vars)) (tasks_of job) ≡ true
tasks_fit job whole = fit_before job job.steps whole
