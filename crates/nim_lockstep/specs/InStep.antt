-- When a cluster is in step with program order.
use Rattle.std.specs.Prelude.{◌≡◌, ◌≢◌, ℕ, zero, suc, ◌≤◌, ◌<◌, ◌==◌, Bool, true, false, ◌&&◌, List, [], ◌∷◌, length, All, IfSome, IsSomeAnd, Some, slice_get}
use Rattle.std.specs.List.{list_any}
use Rattle.nim_base.specs.declared.number.Worker.{Worker}
use Rattle.nim_command.specs.declared.command.Command.{Command}
use Rattle.nim_command.specs.Waits.{commands_of}
use Rattle.nim_message.specs.Orders.{session_of}
use Rattle.nim_schedule.specs.declared.event.Event.{Event}
use Rattle.nim_job.specs.declared.job.Job.{Job}
use Rattle.nim_job.specs.Serial.{tasks_of}
use Rattle.nim_job.specs.Whole.{is_whole}
use Rattle.nim_plan.specs.Good.{IsGood, IsGoodFrame}
use Rattle.nim_plan.specs.Legal.{reads_at}
use Rattle.nim_place.specs.Extends.{is_live}
use Rattle.nim_course.specs.declared.outcome.Outcome.TheVariants.{Done, NoWorker}
use Rattle.nim_course.specs.Controller.{Controller}
use Rattle.nim_place.specs.Directed.{Directed, orders_to}
use Rattle.nim_course.specs.Leads.{AreRight, EndsBy}
use Rattle.nim_course.specs.PutLists.{ArePut}
use Rattle.nim_place.specs.TaskRuns.{RunsAtHome}
use Rattle.nim_lockstep.specs.declared.ran.Ran.{Ran}
use Rattle.nim_lockstep.specs.Cluster.{ClusterState, Node}
use Rattle.nim_lockstep.specs.Events.{IsNew, IsStep}

-- ---- which clusters there are

-- so many events lead from one cluster to another, whichever they are
abbrev pub AreSteps : ℕ → ClusterState → ClusterState → Type 0
AreSteps zero before after = after ≡ before
AreSteps (suc count) before after =
    (between : ClusterState) × (AreSteps count before between
    × ((event : Event) × ((done : Bool) × IsStep between event done after)))

-- A cluster that was made of a whole job for 1 to 16 workers, and was given any events.
pub record IsReached (s : ClusterState) : Type 0 where
  pub whole : is_whole s.job ≡ true
  pub least : 1 ≤ s.setup.workers
  pub most : s.setup.workers ≤ 16
  pub first : ClusterState
  pub new : IsNew s.job s.setup first
  pub count : ℕ
  pub steps : AreSteps count first s

-- ---- what is true of them

-- each Run that a live worker is asked for is the job's task at its position, and stands at this task's home
abbrev pub AreAtHomes : Job → Controller → List Directed → Type 0
AreAtHomes job c given =
    (worker : Worker) → is_live c.live worker ≡ true
    → All (λ (command : Command). RunsAtHome job c.place c.live worker command.kind)
    (commands_of (session_of (orders_to worker.0 given)).groups)

-- the reports and the frames of data that wait at a worker are true of a job
pub record HasTruth (job : Job) (node : Node) : Type 0 where
  pub reports : All (IsGood job) node.reports
  pub frames : All (All (IsGoodFrame job)) node.frames

-- a Run that was performed read the versions that program order names
abbrev pub ReadsByOrder : Job → Ran → Type 0
ReadsByOrder job ran =
    IsSomeAnd (slice_get (tasks_of job) ran.position) (λ task. ran.reads ≡ reads_at job ran.position task)

-- whether two Runs are of one task in one epoch
abbrev pub is_same : Ran → Ran → Bool
is_same ran other = (ran.epoch == other.epoch) && (ran.position == other.position)

-- no task stands twice in an epoch
abbrev pub AreOnce : List Ran → Type 0
AreOnce [] = Unit {0}
AreOnce (ran ∷ more) = (list_any (is_same ran) more ≡ false) × AreOnce more

-- whether the task at a position stands among Runs
abbrev pub was_run : List Ran → ℕ → Bool
was_run runs position = list_any (λ (ran : Ran). ran.position == position) runs

-- A cluster is in step with program order.
pub record IsInStep (s : ClusterState) : Type 0 where
  -- the orders to each live worker may be given for the job, what they ask for is covered, and all lists are paired
  pub right : AreRight s.job s.control.live s.put
  pub homes : AreAtHomes s.job s.control s.put
  -- they are those of the controller's moves, each gave what it should, and the summary counts that
  pub put : ArePut s.control s.put
  -- what waits on links is true of the job
  pub waiting : All (HasTruth s.job) s.nodes
  -- each task that was run read the versions that program order names, and none was run twice in an epoch
  pub reads : All (ReadsByOrder s.job) s.trace
  pub once : AreOnce s.trace
  -- once the job is done each of its tasks was run
  pub every : s.control.outcome ≡ Some Done → (position : ℕ) → position < length (tasks_of s.job)
      → was_run s.trace position ≡ true
  -- and it printed what the job prints; or the job passes its limits
  pub ends : IfSome s.control.outcome (EndsBy s.job s.control)
  -- no worker was lost
  pub some : s.control.outcome ≢ Some NoWorker
