-- Which events a run gives, and how it ends.
use Rattle.std.specs.Prelude.{◌≡◌, ℕ, Bool, true, false, Option, None, Some}
use Rattle.nim_schedule.specs.declared.event.Event.{Event}
use Rattle.nim_schedule.specs.declared.event.Event.TheVariants.{Order, Report, Begin, Finish}
use Rattle.nim_course.specs.declared.outcome.Outcome.{Outcome}
use Rattle.nim_lockstep.specs.Cluster.{ClusterState}
use Rattle.nim_lockstep.specs.Events.{IsStep}
use Rattle.nim_lockstep.specs.Schedules.{Reaches, next_of}
use Rattle.nim_cluster.specs.declared.running.Moving.{Moving}
use Rattle.nim_cluster.specs.declared.running.Moving.TheVariants as moving
use Rattle.nim_cluster.specs.declared.running.RunOutcome.{RunOutcome}

-- an event of this kind
abbrev pub event_of : Moving → ℕ → Event
event_of moving.Report worker = Report worker
event_of moving.Finish worker = Finish worker
event_of moving.Order worker = Order worker
event_of moving.Begin worker = Begin worker 1

-- the next event by the default rule led there, or there is none
abbrev pub IsAdvance : Bool → ClusterState → ClusterState → Type 0
IsAdvance true before after = (event : Event) × ((next_of before ≡ Some event) × IsStep before event true after)
IsAdvance false before after = (after ≡ before) × (next_of before ≡ None)

-- events by the default rule led there, until none was enabled
pub record IsRest (before after : ClusterState) : Type 0 where
  pub count : ℕ
  pub reaches : Reaches count before after
  pub rests : next_of after ≡ None

-- how a run ends; one of which memory was refused to a worker has no end
abbrev pub ended_as : Option Outcome → Option RunOutcome
ended_as (Some Outcome.Done) = Some RunOutcome.Done
ended_as (Some Outcome.Limit) = Some RunOutcome.Limit
ended_as (Some Outcome.NoWorker) = Some RunOutcome.NoWorker
ended_as (Some Outcome.NoMemory) = None
ended_as None = Some RunOutcome.Stalled
