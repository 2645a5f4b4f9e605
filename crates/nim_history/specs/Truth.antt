-- When what a worker gives is true of a job: whatever the order in which it completed its commands.
use Rattle.std.specs.Prelude.{◌≡◌, ℕ, true, IsTrue, List, [], ◌∷◌, length, map, All, Option, IfSome, IsSomeAnd, slice_get}
use Rattle.std.specs.Option.{option_map}
use Rattle.nim_base.specs.declared.number.Slot.{Slot}
use Rattle.nim_base.specs.declared.task.Task.{Task}
use Rattle.nim_base.specs.Apply.{has_counts}
use Rattle.nim_base.specs.Value.{Grid}
use Rattle.nim_command.specs.declared.command.Kind.{Kind}
use Rattle.nim_command.specs.declared.command.Kind.TheVariants.{Run}
use Rattle.nim_command.specs.Covered.{is_covered}
use Rattle.nim_command.specs.Holds.{Content, holds}
use Rattle.nim_command.specs.Slots.{does_touch}
use Rattle.nim_command.specs.Waits.{commands_of, placed_commands}
use Rattle.nim_message.specs.declared.order.ToWorker.{ToWorker}
use Rattle.nim_message.specs.Orders.{Session, after_order, no_session}
use Rattle.nim_job.specs.declared.job.Job.{Job}
use Rattle.nim_job.specs.Serial.{tasks_of}
use Rattle.nim_job.specs.Versions.{read_version, version_value}
use Rattle.nim_job.specs.Whole.{is_whole}
use Rattle.nim_plan.specs.Good.{IsGood, IsGoodFrame}
use Rattle.nim_plan.specs.Legal.{IsLegal, is_version, reads_at}
use Rattle.nim_store.specs.declared.held.Held.{Held}
use Rattle.nim_history.specs.declared.out.Out.{Out}
use Rattle.nim_history.specs.History.{Asked, Happening, IsHistory, MayComplete, WorkerState, asked_at, frames_in, orders_in, state_of}
use Rattle.nim_history.specs.Kept.{content_seen, held_or_empty}

-- the values that the task at a position reads, in order
abbrev pub values_read : Job → ℕ → Task → List Grid
values_read job position task = map (λ object. version_value job object (read_version job position object)) task.reads

-- what is given is true of a job
abbrev pub IsGoodOut : Job → Out → Type 0
IsGoodOut job (Out.Report report) = IsGood job report
IsGoodOut job (Out.Data peer frame) = IsGoodFrame job frame

-- after each order the commands asked for are covered
abbrev pub AreCoveredFrom : Session → List ToWorker → Type 0
AreCoveredFrom session [] = Unit {0}
AreCoveredFrom session (order ∷ orders) =
    (is_covered (placed_commands (after_order session order).groups) ≡ true)
    × AreCoveredFrom (after_order session order) orders

-- from a worker's start on, the commands asked for are covered after each of these orders
unfoldable pub AreCovered : List ToWorker → Type 0
AreCovered orders = AreCoveredFrom no_session orders

-- What a worker was handed is true of a job: its orders may be given, their commands are covered, and its frames carry
-- the values of their versions.
pub record IsHandedTruth (job : Job) (history : List Happening) : Type 0 where
  pub legal : IsLegal job (orders_in history)
  pub covered : AreCovered (orders_in history)
  pub frames : All (IsGoodFrame job) (frames_in history)

-- What a slot has is the value of its version, which is one of its object's. A Copy may have left it in a slot of
-- another object.
pub record IsTrueHeld (job : Job) (held : Held) : Type 0 where
  pub version : is_version job held.object held.version ≡ true
  pub value : held.value ≡ version_value job held.object held.version

-- A Run has its function's counts, and reads the versions that program order names, and their values.
abbrev pub ReadsRight : Job → (Slot → Option Held) → Kind → Type 0
ReadsRight job before (Run position func params reads writes) =
    IsSomeAnd (slice_get (tasks_of job) position)
    (λ task. (has_counts func (length params) (length reads) (length writes) ≡ true)
    × (map (content_seen before) reads ≡ reads_at job position task)
    × (map (λ slot. (held_or_empty before slot).value) reads ≡ values_read job position task))
ReadsRight job before kind = Unit {0}

-- the object and version of what a slot has
abbrev pub content_in : (Slot → Option Held) → Slot → Content
content_in before slot = option_map (λ (held : Held). (held.object, held.version)) (before slot)

-- A command that may be completed next finds in the slots that it touches what the commands before it in the list leave
-- there, and where it is a Run, what its task reads.
pub record FindsRight (job : Job) (state : WorkerState) (place : ℕ) (asked : Asked) : Type 0 where
  pub finds : (slot : Slot) → does_touch asked.command.kind slot ≡ true
      → content_in state.slots slot ≡ holds (commands_of state.session.groups) place slot
  pub reads : ReadsRight job state.slots asked.command.kind

-- what a worker has and gave is true of a job
pub record IsTrueOf (job : Job) (state : WorkerState) : Type 0 where
  pub gave : All (IsGoodOut job) state.gave
  pub slots : (slot : Slot) → IfSome (state.slots slot) (IsTrueHeld job)
  pub next : (place : ℕ) → MayComplete state place
      → IfSome (asked_at state.session.groups place) (FindsRight job state place)

-- Whatever the order of its commands, a worker that is handed what is true of a job gives what is true of it.
abbrev pub HistoriesAreTrue : Type 0
HistoriesAreTrue =
    (job : Job) (history : List Happening) → IsTrue (is_whole job) → IsHistory history → IsHandedTruth job history
    → IsTrueOf job (state_of history)
