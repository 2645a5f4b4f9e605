-- The orders that install a template's halves and those of an instance of it: what they keep true of all orders so far.
use Rattle.std.specs.Prelude.{◌≡◌, ℕ, ◌+◌, ◌^◌, ◌<◌, ◌==◌, Bool, true, false, not}
use Rattle.std.specs.Prelude.{◌&&◌, ℤ, List, [], ◌∷◌, ◌++◌, length, map, take, drop}
use Rattle.std.specs.List.{flat_map}
use Rattle.nim_base.specs.declared.number.Object.{Object}
use Rattle.nim_base.specs.declared.number.Worker.{Worker}
use Rattle.nim_command.specs.declared.command.Command.{Command}
use Rattle.nim_command.specs.declared.entry.Entry.{Entry}
use Rattle.nim_command.specs.declared.template.WorkerTemplate.{WorkerTemplate}
use Rattle.nim_command.specs.Ranks.{is_patch_number}
use Rattle.nim_message.specs.declared.order.ToWorker.{ToWorker}
use Rattle.nim_message.specs.declared.order.ToWorker.TheVariants.{InstallTemplate, Instantiate}
use Rattle.nim_message.specs.Orders.{session_of}
use Rattle.nim_job.specs.declared.job.Job.{Job}
use Rattle.nim_job.specs.Serial.{tasks_of}
use Rattle.nim_job.specs.Tasks.{task_with_args}
use Rattle.nim_job.specs.Whole.{is_whole}
use Rattle.nim_plan.specs.Paired.{Key}
use Rattle.nim_place.specs.Extends.{AskFor, LongerIsCovered, LongerIsLegal, LongerIsPaired, is_live, longer}
use Rattle.nim_place.specs.Sound.{version_named}
use Rattle.nim_place.specs.TaskOrders.{AreSoFar, IsAt}
use Rattle.nim_place.specs.Versions.{Versions, after_effect, latest_of}
use Rattle.nim_template.specs.Again.{IsBefore, are_current}
use Rattle.nim_template.specs.Instance.{half_of, instance_of}

-- ---- the orders

-- the order that installs a worker's half; none where it has no entries
abbrev pub install_with : ℕ → ℕ → List Entry → List ToWorker
install_with epoch block [] = []
install_with epoch block (entry ∷ entries) = InstallTemplate epoch block (entry ∷ entries) ∷ []

-- the halves of a template, one to each worker that has entries
abbrev pub installs_of : ℕ → WorkerTemplate → ℕ → List ToWorker
installs_of epoch template = λ number. install_with epoch template.block (half_of template number)

-- The order that asks a worker for an instance of its half, with no edits; none where it has no entries. It names the
-- versions of what the block began with.
abbrev pub instance_with : ℕ → ℕ → ℕ → ℕ → List ℤ → (Object → ℕ) → List Entry → List ToWorker
instance_with epoch instance block base args before [] = []
instance_with epoch instance block base args before (entry ∷ entries) =
    let versions : List ℕ = flat_map (λ (e : Entry). version_named before e.kind) (entry ∷ entries) in
    Instantiate epoch instance block base args versions [] ∷ []

-- an instance of a template, one order to each worker that has entries
abbrev pub instances_of : ℕ → ℕ → WorkerTemplate → ℕ → List ℤ → Versions → ℕ → List ToWorker
instances_of epoch instance template base args versions =
    λ number. instance_with epoch instance template.block base args (latest_of versions) (half_of template number)

-- ---- installed

-- a half is installed, if it has entries
abbrev pub IsInstalled : List Entry → List Entry → Type 0
IsInstalled now [] = Unit {0}
IsInstalled now (entry ∷ entries) = now ≡ entry ∷ entries

-- each live worker has its half of the template's block
abbrev pub AreInstalled : List Bool → WorkerTemplate → (ℕ → List ToWorker) → Type 0
AreInstalled live template lists =
    (worker : Worker) → is_live live worker ≡ true
    → IsInstalled ((session_of (lists worker.0)).halves template.block) (half_of template worker.0)

-- Orders that install a template extend orders so far: they ask for nothing more, and the halves are installed then.
pub record IsGivenOut (live : List Bool) (template : WorkerTemplate) (epoch : ℕ) (lists : ℕ → List ToWorker)
    (given : List (Worker × Command)) : Type 0 where
  pub asked : AskFor live epoch (longer lists (installs_of epoch template)) given
  pub installed : AreInstalled live template (longer lists (installs_of epoch template))
  pub legal : (job : Job) → LongerIsLegal job live lists (installs_of epoch template)
  pub covered : LongerIsCovered lists (installs_of epoch template)
  -- no key is new
  pub paired : LongerIsPaired (λ (key : Key). false) live lists (installs_of epoch template)

-- So they extend all orders so far.
abbrev pub InstallsExtend : List Bool → WorkerTemplate → Type 0
InstallsExtend live template =
    (epoch : ℕ) (lists : ℕ → List ToWorker) (given : List (Worker × Command)) → AskFor live epoch lists given
    → IsGivenOut live template epoch lists given

-- ---- an instance

-- An instance may be asked for behind orders so far: its halves are installed, and its preconditions hold in the map
-- that stands for these orders, of so many objects.
pub record MayInstantiate (live : List Bool) (objects : ℕ) (template : WorkerTemplate) (epoch base : ℕ)
    (lists : ℕ → List ToWorker) (given : List (Worker × Command)) (versions : Versions) : Type 0 where
  pub so_far : AreSoFar live epoch lists given versions
  pub before : IsBefore (length live) objects base versions
  pub room : base + 1024 < 2 ^ 64
  pub current : are_current versions template.preconditions ≡ true
  pub installed : AreInstalled live template lists

-- a whole job's tasks from a position on are the block's, with these arguments
pub record AreTasksAt (job : Job) (base : ℕ) (args : List ℤ) (template : WorkerTemplate) : Type 0 where
  pub whole : is_whole job ≡ true
  pub tasks : take (length template.forms) (drop base (tasks_of job)) ≡ map (task_with_args args) template.forms

-- whether a key is of an instance of a template; the copies of the patch before it are numbered from 131072 on
abbrev pub is_key_in : ℕ → ℕ → Key → Bool
is_key_in epoch instance key = (key.epoch == epoch) && (key.instance == instance) && not (is_patch_number key.entry)

-- An instance was asked for behind orders so far, by these orders.
pub record IsInstanceAsked (live : List Bool) (objects : ℕ) (template : WorkerTemplate) (epoch instance base : ℕ)
    (args : List ℤ) (more lists : ℕ → List ToWorker) (given : List (Worker × Command)) (versions : Versions)
    : Type 0 where
  -- all orders ask for its commands too, and the map behind its effect stands for them
  pub so_far : AreSoFar live epoch (longer lists more) (given ++ instance_of template base args versions)
      (after_effect base versions template.effect)
  -- no version of this map is past the position behind the block's tasks
  pub before : IsBefore (length live) objects (base + length template.forms)
      (after_effect base versions template.effect)
  -- its halves are installed still
  pub installed : AreInstalled live template (longer lists more)
  pub covered : LongerIsCovered lists more
  -- each new key is one of this instance, and of no patch
  pub paired : LongerIsPaired (is_key_in epoch instance) live lists more
  -- where the map is at the base of a job, and the job's tasks from there on are the block's, legal lists stay legal,
  -- and the map behind the effect is behind these tasks
  pub legal : (job : Job) → IsAt job base versions → AreTasksAt job base args template
      → LongerIsLegal job live lists more
  pub next : (job : Job) → IsAt job base versions → AreTasksAt job base args template
      → IsAt job (base + length template.forms) (after_effect base versions template.effect)

-- So an instance extends all orders so far.
abbrev pub InstancesExtend : List Bool → ℕ → WorkerTemplate → Type 0
InstancesExtend live objects template =
    (epoch instance base : ℕ) (args : List ℤ) (lists : ℕ → List ToWorker) (given : List (Worker × Command))
    (versions : Versions)
    → MayInstantiate live objects template epoch base lists given versions
    → IsInstanceAsked live objects template epoch instance base args
    (instances_of epoch instance template base args versions) lists given versions
