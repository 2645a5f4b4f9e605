-- The tasks of a job's blocks, made once.
use Rattle.std.proofs.Common.{◌≡◌, ℕ, ◌+◌, ◌<◌, ◌≤◌, zero, suc, true, ℤ, List, [], ◌∷◌, ◌++◌, length, get_or, map, take, refl, ap, sym, ◌∙◌, arith, Option}
use Rattle.std.specs.Prelude.{slice_get}
use Rattle.std.specs.List.{list_all}
use Rattle.std.specs.Option.{option_map_or}
use Rattle.std.proofs.lemmas.List.{length-map, map-append, take_more}
use Rattle.std.proofs.lemmas.Option.{slice_get-get_or}
use Rattle.nim_base.specs.declared.task.TaskForm.{TaskForm}
use Rattle.nim_job.specs.declared.block.Block.{Block}
use Rattle.nim_job.specs.declared.job.Job.{Job}
use Rattle.nim_job.specs.declared.job.Var.{Var}
use Rattle.nim_job.specs.Objects.{objects_of}
use Rattle.nim_job.specs.Tasks.{block_forms_of, block_tasks_of, forms_of, task_with_args}
use Rattle.nim_job.specs.Whole.{is_whole_task, is_whole}
use Rattle.nim_job.proofs.Whole.{tasks_there}
use Rattle.nim_control.specs.Form.{forms_in}
use Rattle.nim_job.proofs.FewTasks.{block_few}

-- what was made of a block are its tasks; where it isn't there, none
made_once : (vars : List Var) (blocks : List Block) (block : ℕ)
    → get_or (map (λ (b : Block). forms_of vars b.stages) blocks) block []
    ≡ forms_of vars (option_map_or (λ (b : Block). b.stages) (slice_get blocks block) [])
made_once vars [] zero = refl
made_once vars [] (suc block) = refl
made_once vars (b ∷ blocks) zero = refl
made_once vars (b ∷ blocks) (suc block) = made_once vars blocks block

pub forms_at : (job : Job) (forms : List (List TaskForm)) (block : ℕ) → forms ≡ forms_in job → get_or forms block [] ≡ block_forms_of job block
forms_at job forms block are = ap (λ (fs : List (List TaskForm)). get_or fs block []) are ∙ made_once job.vars job.blocks block

-- one block more is made
pub forms_more : (vars : List Var) (blocks : List Block) (block : ℕ) → block < length blocks
    → map (λ (b : Block). forms_of vars b.stages) (take (block + 1) blocks)
    ≡ map (λ (b : Block). forms_of vars b.stages) (take block blocks)
    ++ forms_of vars (option_map_or (λ (b : Block). b.stages) (slice_get blocks block) []) ∷ []
forms_more vars [] block below = absurd (omega (arith, below))
forms_more vars (b ∷ blocks) block below =
    let made : Block → List TaskForm = λ (b : Block). forms_of vars b.stages in
    ap (map made) (take_more (b ∷ blocks) block b below) ∙ map-append made (take block (b ∷ blocks)) (get_or (b ∷ blocks) block b ∷ [])
    ∙ ap (λ (o : Option Block). map made (take block (b ∷ blocks)) ++ forms_of vars (option_map_or (λ (b : Block). b.stages) o []) ∷ [])
    (sym (slice_get-get_or (b ∷ blocks) block b below))

-- what was made of a block is few, and fits the job with any arguments
pub record AreForms (job : Job) (block : ℕ) (args : List ℤ) (forms : List TaskForm) : Type 0 where
  pub tasks : map (task_with_args args) forms ≡ block_tasks_of job block args
  pub few : length forms ≤ 1024
  pub fit : list_all (is_whole_task (objects_of job.vars)) (map (task_with_args args) forms) ≡ true

pub forms_fit : (job : Job) (all : List (List TaskForm)) (block : ℕ) (args : List ℤ) (forms : List TaskForm) → is_whole job ≡ true
    → all ≡ forms_in job → forms ≡ get_or all block [] → AreForms job block args forms
forms_fit job all block args forms whole are is =
    let here : map (task_with_args args) forms ≡ block_tasks_of job block args = ap (map (task_with_args args)) (is ∙ forms_at job all block are) in
    record {
      tasks = here;
      few = omega (arith, ap length here, length-map forms (task_with_args args), block_few job block args whole);
      fit = ap (list_all (is_whole_task (objects_of job.vars))) here ∙ tasks_there job block args whole;
    }
