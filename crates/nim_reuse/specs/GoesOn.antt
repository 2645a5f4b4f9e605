-- What the orders of reused instances keep true of all orders so far.
use Rattle.std.specs.Prelude.{◌≡◌, ℕ, ◌+◌, ◌^◌, ◌<◌, ◌≤◌, ◌==◌, Bool, true, ◌&&◌, ℤ, List, ◌++◌}
use Rattle.std.specs.Prelude.{length, All}
use Rattle.std.specs.List.{list_all, list_any}
use Rattle.std.specs.Option.{is_some}
use Rattle.nim_base.specs.declared.number.Object.{Object}
use Rattle.nim_base.specs.declared.number.Worker.{Worker}
use Rattle.nim_base.specs.declared.task.TaskForm.{TaskForm}
use Rattle.nim_command.specs.declared.command.Command.{Command}
use Rattle.nim_command.specs.declared.template.WorkerTemplate.{WorkerTemplate}
use Rattle.nim_message.specs.declared.order.ToWorker.{ToWorker}
use Rattle.nim_job.specs.declared.job.Job.{Job}
use Rattle.nim_job.specs.Objects.{objects_of}
use Rattle.nim_plan.specs.Paired.{Key}
use Rattle.nim_place.specs.declared.placement.Placement.{Placement}
use Rattle.nim_place.specs.Directed.{Directed, by_number}
use Rattle.nim_place.specs.Extends.{LongerIsCovered, LongerIsLegal, LongerIsPaired, longer}
use Rattle.nim_place.specs.TaskOrders.{AreSoFar, IsAt}
use Rattle.nim_place.specs.TaskRuns.{AreRunOnce, RunsAtHome}
use Rattle.nim_place.specs.Versions.{Versions, holder}
use Rattle.nim_template.specs.declared.template.ControllerTemplate.{ControllerTemplate}
use Rattle.nim_template.specs.Again.{IsBefore}
use Rattle.nim_template.specs.Fits.{is_fit}
use Rattle.nim_template.specs.Given.{AreInstalled, AreTasksAt, InstancesExtend}
use Rattle.nim_template.specs.MainSlots.{AreMainSlots}
use Rattle.nim_template.specs.Runs.{RunTasks}
use Rattle.nim_patch.specs.Cache.{IsValid}
use Rattle.nim_patch.specs.Given.{ArePartsInstalled}
use Rattle.nim_patch.specs.Uses.{Use}
use Rattle.nim_reuse.specs.declared.decided.Decided.{Decided}
use Rattle.nim_reuse.specs.declared.decided.Decided.TheVariants.{Open, Recorded, Installed}
use Rattle.nim_reuse.specs.declared.instance.InstanceAt.{InstanceAt}
use Rattle.nim_reuse.specs.Decisions.{Decisions, after_recording, decided_of, is_recorded, no_decisions}
use Rattle.nim_reuse.specs.Reuse.{commands_at, decisions_at, orders_at, template_at, versions_at}

-- ---- what decisions rest on

-- the forms of a block of so many objects are these, which are few and fit
pub record IsRecordOf (objects : ℕ) (forms : List TaskForm) (block : ℕ) (recorded : ControllerTemplate)
    : Type 0 where
  pub is_block : recorded.block ≡ block
  pub has_forms : recorded.forms ≡ forms
  pub few : length forms ≤ 1024
  pub fit : list_all (is_fit objects) forms ≡ true

-- A template that a block of these forms is done by: its instances extend all orders so far and run each task once, at
-- its home, and what they need at entry are main slots.
pub record IsTemplateOf (place : Placement) (live : List Bool) (objects : ℕ) (forms : List TaskForm) (block : ℕ)
    (template : WorkerTemplate) : Type 0 where
  pub is_block : template.block ≡ block
  pub has_forms : template.forms ≡ forms
  pub workers : length template.halves ≡ length live
  pub extend : InstancesExtend live objects template
  pub runs : RunTasks place live objects template
  pub needs : AreMainSlots live objects template.preconditions

-- what was decided of a block is such a record, or such a template, which the live workers have
abbrev pub IsDecided : Placement → List Bool → ℕ → List TaskForm → (ℕ → List ToWorker) → ℕ → Decided → Type 0
IsDecided place live objects forms lists block Open = Unit {0}
IsDecided place live objects forms lists block (Recorded recorded) = IsRecordOf objects forms block recorded
IsDecided place live objects forms lists block (Installed template) =
    IsTemplateOf place live objects forms block template × AreInstalled live template lists

-- the live workers have their parts of a kept patch
abbrev pub HasPartsInstalled : List Bool → (ℕ → List ToWorker) → Use → Type 0
HasPartsInstalled live lists one = ArePartsInstalled live one.1.number one.1.patch.copies lists

-- Decisions rest on orders so far, where blocks have these forms: live workers have the templates and the patches that
-- the decisions say.
pub record AreDecided (place : Placement) (live : List Bool) (objects : ℕ) (forms : ℕ → List TaskForm)
    (lists : ℕ → List ToWorker) (decisions : Decisions) : Type 0 where
  pub blocks : (block : ℕ) → IsDecided place live objects (forms block) lists block (decided_of decisions block)
  pub patches : All (HasPartsInstalled live lists) decisions.patches
  pub valid : IsValid decisions.patches

-- ---- a reused instance

-- whether a key is of an instance
abbrev pub is_key_at : InstanceAt → Key → Bool
is_key_at at key = (key.epoch == at.epoch) && (key.instance == at.instance)

-- A block that was recorded may be reused behind orders so far, which ask for these commands.
pub record MayGoOn (place : Placement) (live : List Bool) (objects : ℕ) (forms : ℕ → List TaskForm) (at : InstanceAt)
    (given : List Directed) (commands : List (Worker × Command)) (versions : Versions) (decisions : Decisions)
    : Type 0 where
  pub so_far : AreSoFar live at.epoch (by_number given) commands versions
  pub before : IsBefore (length live) objects at.base versions
  pub room : at.base + 1024 < 2 ^ 64
  pub holders : (object : Object) → object.0 < objects → is_some (holder versions object) ≡ true
  pub decided : AreDecided place live objects forms (by_number given) decisions
  pub recorded : is_recorded decisions at.block ≡ true
  -- some of few workers is live, and there are few objects
  pub some : list_any (λ (flag : Bool). flag) live ≡ true
  pub few : length live ≤ 16
  pub few_objects : objects ≤ 512

-- It was asked for, by these orders.
pub record HasGoneOn (place : Placement) (live : List Bool) (objects : ℕ) (forms : ℕ → List TaskForm)
    (at : InstanceAt) (args : List ℤ) (given : List Directed) (commands : List (Worker × Command)) (versions : Versions)
    (decisions : Decisions) : Type 0 where
  -- its template has the block's forms
  pub has_forms : (template_at place live at versions decisions).forms ≡ forms at.block
  -- all orders ask for its commands too, and the map behind it stands for them
  pub so_far : AreSoFar live at.epoch (by_number (given ++ orders_at place live at args versions decisions))
      (commands ++ commands_at place live at args versions decisions) (versions_at place live at versions decisions)
  -- no version of this map is past the position behind the block's tasks
  pub before : IsBefore (length live) objects (at.base + length (forms at.block))
      (versions_at place live at versions decisions)
  -- the decisions behind it rest on them
  pub decided : AreDecided place live objects forms
      (by_number (given ++ orders_at place live at args versions decisions))
      (decisions_at place live at versions decisions)
  pub covered : LongerIsCovered (by_number given) (by_number (orders_at place live at args versions decisions))
  -- each new key is one of this instance
  pub paired : LongerIsPaired (is_key_at at) live (by_number given)
      (by_number (orders_at place live at args versions decisions))
  -- each of the block's tasks is run once, at its home where the tasks are a job's
  pub runs : AreRunOnce at.base (length (forms at.block)) (commands_at place live at args versions decisions)
  pub homes : (job : Job) → AreTasksAt job at.base args (template_at place live at versions decisions)
      → objects ≡ objects_of job.vars
      → All (λ (one : Worker × Command). RunsAtHome job place live one.0 one.1.kind)
      (commands_at place live at args versions decisions)
  -- where the map is at the base of a job, and the job's tasks from there on are the block's, legal lists stay legal,
  -- and the map behind the instance is behind these tasks
  pub legal : (job : Job) → IsAt job at.base versions
      → AreTasksAt job at.base args (template_at place live at versions decisions)
      → LongerIsLegal job live (by_number given) (by_number (orders_at place live at args versions decisions))
  pub next : (job : Job) → IsAt job at.base versions
      → AreTasksAt job at.base args (template_at place live at versions decisions)
      → IsAt job (at.base + length (forms at.block)) (versions_at place live at versions decisions)

-- So reused instances go on from all orders so far.
abbrev pub InstancesGoOn : Type 0
InstancesGoOn =
    (place : Placement) (live : List Bool) (objects : ℕ) (forms : ℕ → List TaskForm) (at : InstanceAt) (args : List ℤ)
    (given : List Directed) (commands : List (Worker × Command)) (versions : Versions) (decisions : Decisions)
    → MayGoOn place live objects forms at given commands versions decisions
    → HasGoneOn place live objects forms at args given commands versions decisions

-- ---- other orders

-- whether an order is a Single
abbrev pub IsSingle : ToWorker → Type 0
IsSingle (ToWorker.Single epoch instance commands) = Unit {0}
IsSingle _ = ⊥

-- Decisions stand while blocks are recorded and Singles are given.
pub record DecisionsStand : Type 0 where
  -- no decisions rest on any orders
  pub new : (place : Placement) (live : List Bool) (objects blocks : ℕ) (forms : ℕ → List TaskForm)
      (lists : ℕ → List ToWorker)
      → AreDecided place live objects forms lists (no_decisions blocks)
  -- Singles leave what workers have
  pub singles : (place : Placement) (live : List Bool) (objects : ℕ) (forms : ℕ → List TaskForm)
      (lists more : ℕ → List ToWorker) (decisions : Decisions)
      → AreDecided place live objects forms lists decisions → ((number : ℕ) → All IsSingle (more number))
      → AreDecided place live objects forms (longer lists more) decisions
  -- a record of a block that is there
  pub recorded : (place : Placement) (live : List Bool) (objects : ℕ) (forms : ℕ → List TaskForm)
      (lists : ℕ → List ToWorker) (decisions : Decisions) (recorded : ControllerTemplate)
      → AreDecided place live objects forms lists decisions
      → IsRecordOf objects (forms recorded.block) recorded.block recorded
      → AreDecided place live objects forms lists (after_recording recorded decisions)
