-- Which orders a worker may be given for a job.
use Rattle.std.specs.Prelude.{◌≡◌, ◌≢◌, ℕ, ◌-◌, ◌==◌, Bool, true, false, ◌&&◌, ◌||◌, ℤ, List, [], ◌∷◌, ◌++◌, length, map, None, Some, IsSomeAnd, slice_get}
use Rattle.std.specs.Option.{option_map_or}
use Rattle.nim_base.specs.declared.number.Object.{Object}
use Rattle.nim_base.specs.declared.number.Slot.{Slot}
use Rattle.nim_base.specs.declared.task.Func.{Func}
use Rattle.nim_base.specs.declared.task.Task.{Task}
use Rattle.nim_command.specs.declared.command.Command.{Command}
use Rattle.nim_command.specs.declared.command.Kind.{Kind}
use Rattle.nim_command.specs.declared.command.Kind.TheVariants.{Create, Load, Send, Receive, Copy, Run, Fetch}
use Rattle.nim_command.specs.Created.{created}
use Rattle.nim_command.specs.Edits.{edited_by}
use Rattle.nim_command.specs.Expansion.{expanded, patch_commands}
use Rattle.nim_command.specs.Holds.{Content, holds}
use Rattle.nim_command.specs.Slots.{object_of}
use Rattle.nim_command.specs.Waits.{commands_of}
use Rattle.nim_message.specs.declared.order.ToWorker.{ToWorker}
use Rattle.nim_message.specs.declared.order.ToWorker.TheVariants.{Single, InstallTemplate, Instantiate, InstallPatch, RunPatch, Reset, Stop}
use Rattle.nim_message.specs.Orders.{Session, after_order, no_session, session_of}
use Rattle.nim_job.specs.declared.job.Job.{Job}
use Rattle.nim_job.specs.Objects.{initial_values, objects_of, shapes_of}
use Rattle.nim_job.specs.Serial.{tasks_of}
use Rattle.nim_job.specs.Versions.{is_written, read_version, version_value}
use Rattle.nim_job.specs.Whole.{is_object_within}

-- whether an object of the job has a version: the first one, or what the task before it wrote
abbrev pub is_version : Job → Object → ℕ → Bool
is_version job object version =
    is_object_within (objects_of job.vars) object
    && ((version == 0) || option_map_or (is_written object) (slice_get (tasks_of job) (version - 1)) false)

-- what a task reads: its objects in order, each with its version
abbrev pub reads_at : Job → ℕ → Task → List (Object × ℕ)
reads_at job position task = map (λ object. (object, read_version job position object)) task.reads

-- A Run is the task at its position: each slot that it reads holds what the task reads, and each slot that it writes
-- is one of the object that the task writes.
pub record IsRunOf (job : Job) (before : Slot → Content) (position : ℕ) (f : Func) (numbers : List ℤ)
    (sources results : List Slot) (task : Task) : Type 0 where
  pub func : f ≡ task.func
  pub params : numbers ≡ task.params
  pub reads : map before sources ≡ map Some (reads_at job position task)
  pub writes : map object_of results ≡ task.writes

-- a command may be given where the slots hold this
abbrev pub IsLegalKind : Job → (Slot → Content) → Kind → Type 0
IsLegalKind job before (Create slot iota number) =
    IsSomeAnd (slice_get (shapes_of job.vars) (object_of slot).0)
    (λ shape. slice_get (initial_values job.vars) (object_of slot).0 ≡ Some (created shape iota number))
IsLegalKind job before (Load slot version value) =
    (is_version job (object_of slot) version ≡ true) × (value ≡ version_value job (object_of slot) version)
IsLegalKind job before (Send slot peer entry) = before slot ≢ None
IsLegalKind job before (Receive slot version) = is_version job (object_of slot) version ≡ true
IsLegalKind job before (Copy from to) = before from ≢ None
IsLegalKind job before (Run position func params reads writes) =
    IsSomeAnd (slice_get (tasks_of job) position) (IsRunOf job before position func params reads writes)
IsLegalKind job before (Fetch slot ticket) = before slot ≢ None

-- commands may be given behind others: each where the slots hold what those before it leave
abbrev pub AreLegal : Job → List Command → List Command → Type 0
AreLegal job past [] = Unit {0}
AreLegal job past (command ∷ commands) =
    IsLegalKind job (holds past (length past)) command.kind × AreLegal job (past ++ command ∷ []) commands

-- an order of the session's epoch may ask for commands
abbrev pub IsLegalGroup : Job → Session → ℕ → List Command → Type 0
IsLegalGroup job session epoch commands =
    (session.begun ≡ true) × (epoch ≡ session.epoch) × AreLegal job (commands_of session.groups) commands

-- An order may be given in a session: what counts is what it asks for. What is installed asks for nothing.
abbrev pub IsLegalOrder : Job → Session → ToWorker → Type 0
IsLegalOrder job session (Single epoch instance commands) = IsLegalGroup job session epoch commands
IsLegalOrder job session (InstallTemplate epoch block entries) = IsLegalGroup job session epoch []
IsLegalOrder job session (Instantiate epoch instance block base args versions edits) =
    IsLegalGroup job session epoch (expanded base args versions 0 (edited_by edits (session.halves block)))
IsLegalOrder job session (InstallPatch epoch patch copies) = IsLegalGroup job session epoch []
IsLegalOrder job session (RunPatch epoch instance patch versions) =
    IsLegalGroup job session epoch (patch_commands versions (session.patches patch))
IsLegalOrder job session (Reset epoch worker workers shapes) = shapes ≡ shapes_of job.vars
IsLegalOrder job session Stop = Unit {0}

-- a list of orders may be made longer by this one
abbrev pub MayFollow : Job → List ToWorker → ToWorker → Type 0
MayFollow job orders order = IsLegalOrder job (session_of orders) order

-- each of these orders may be given behind those before it
abbrev pub AreLegalFrom : Job → Session → List ToWorker → Type 0
AreLegalFrom job session [] = Unit {0}
AreLegalFrom job session (order ∷ orders) =
    IsLegalOrder job session order × AreLegalFrom job (after_order session order) orders

-- a list of orders, all that one worker is given, may be given for a job
unfoldable pub IsLegal : Job → List ToWorker → Type 0
IsLegal job orders = AreLegalFrom job no_session orders

-- One step at a time: a list may be given where its front may be and each order behind it may follow.
pub record LegalBySteps : Type 0 where
  pub longer : (job : Job) (orders : List ToWorker) (order : ToWorker) → IsLegal job orders → MayFollow job orders order
      → IsLegal job (orders ++ order ∷ [])
  pub last : (job : Job) (orders : List ToWorker) (order : ToWorker) → IsLegal job (orders ++ order ∷ [])
      → MayFollow job orders order
  pub front : (job : Job) (orders more : List ToWorker) → IsLegal job (orders ++ more) → IsLegal job orders
