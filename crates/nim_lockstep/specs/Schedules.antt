-- Which events a cluster is given by a schedule, and behind it by the default rule.
use Rattle.std.specs.Prelude.{◌≡◌, ℕ, zero, suc, ◌≤◌, ◌<◌, Bool, true, false, List, [], ◌∷◌, ◌++◌, length, map, Option, None, Some}
use Rattle.std.specs.List.{find, flat_map, range_with_len}
use Rattle.nim_schedule.specs.declared.event.Event.{Event}
use Rattle.nim_schedule.specs.declared.event.Event.TheVariants.{Order, Report, Data, Begin, Finish}
use Rattle.nim_schedule.specs.declared.event.Line.{Line}
use Rattle.nim_schedule.specs.declared.event.Line.TheVariants.{One, Auto}
use Rattle.nim_job.specs.declared.job.Job.{Job}
use Rattle.nim_course.specs.declared.setup.Setup.{Setup}
use Rattle.nim_lockstep.specs.Cluster.{ClusterState, has_ended}
use Rattle.nim_lockstep.specs.Events.{IsNew, IsStep, is_enabled}

-- ---- the default rule

-- a frame from a worker for each of so many
abbrev pub frames_of : ℕ → ℕ → List Event
frames_of workers from = map (λ (to : ℕ). Data from to) (range_with_len 0 workers)

-- the moving events of so many workers, by kind and in each kind by the workers' numbers
abbrev pub in_order : ℕ → List Event
in_order workers =
    let numbers : List ℕ = range_with_len 0 workers in
    map Report numbers
    ++ map Finish numbers
    ++ map Order numbers
    ++ flat_map (frames_of workers) numbers
    ++ map (λ (worker : ℕ). Begin worker 1) numbers

-- The next event by the default rule: the first of these that is enabled.
abbrev pub next_of : ClusterState → Option Event
next_of s = find (is_enabled s) (in_order (length s.nodes))

-- so many events by the default rule lead from one cluster to another
abbrev pub Reaches : ℕ → ClusterState → ClusterState → Type 0
Reaches zero before after = after ≡ before
Reaches (suc count) before after =
    (between : ClusterState) × (Reaches count before between
    × ((event : Event) × ((next_of between ≡ Some event) × IsStep between event true after)))

-- ---- a schedule

-- so many events by the default rule, fewer only where none is enabled any more
pub record IsAuto (most : ℕ) (before after : ClusterState) : Type 0 where
  pub count : ℕ
  pub few : count ≤ most
  pub reaches : Reaches count before after
  pub rests : count < most → next_of after ≡ None

-- an event of a schedule: nothing is given once the job has ended
abbrev pub IsOne : Bool → Event → ClusterState → ClusterState → Type 0
IsOne true event before after = after ≡ before
IsOne false event before after = (done : Bool) × IsStep before event done after

-- what one line leads to
abbrev pub IsLine : Line → ClusterState → ClusterState → Type 0
IsLine (One event) before after = IsOne (has_ended before) event before after
IsLine (Auto most) before after = IsAuto most before after

-- what lines lead to, one after another
abbrev pub AreLines : List Line → ClusterState → ClusterState → Type 0
AreLines [] before after = after ≡ before
AreLines (line ∷ lines) before after =
    (between : ClusterState) × (IsLine line before between × AreLines lines between after)

-- Events follow a schedule: those of its lines, and then events by the default rule until none is enabled.
pub record FollowsSchedule (lines : List Line) (before after : ClusterState) : Type 0 where
  pub behind : ClusterState
  pub by_lines : AreLines lines before behind
  pub count : ℕ
  pub reaches : Reaches count behind after
  pub rests : next_of after ≡ None

-- A cluster of a job was made, and it was given events that follow a schedule.
pub record IsRunBy (job : Job) (setup : Setup) (lines : List Line) (after : ClusterState) : Type 0 where
  pub first : ClusterState
  pub new : IsNew job setup first
  pub follows : FollowsSchedule lines first after
