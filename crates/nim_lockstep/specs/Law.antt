-- The laws of clusters: whatever events they are given, they stay in step with program order.
use Rattle.std.specs.Prelude.{◌≡◌, ◌≤◌, Bool, true, List}
use Rattle.nim_schedule.specs.declared.event.Event.{Event}
use Rattle.nim_schedule.specs.declared.event.Line.{Line}
use Rattle.nim_job.specs.declared.job.Job.{Job}
use Rattle.nim_job.specs.Whole.{is_whole}
use Rattle.nim_course.specs.declared.setup.Setup.{Setup}
use Rattle.nim_lockstep.specs.Cluster.{ClusterState}
use Rattle.nim_lockstep.specs.Events.{IsNew, IsStep}
use Rattle.nim_lockstep.specs.InStep.{IsInStep, IsReached}
use Rattle.nim_lockstep.specs.Schedules.{IsRunBy}

-- Each cluster that events lead to is in step with program order.
abbrev pub ClustersStayInStep : Type 0
ClustersStayInStep = (s : ClusterState) → IsReached s → IsInStep s

-- A cluster that follows a schedule is one that events lead to, of the same job and run in the same way.
pub record HasFollowed (job : Job) (setup : Setup) (s : ClusterState) : Type 0 where
  pub reached : IsReached s
  pub is_job : s.job ≡ job
  pub is_setup : s.setup ≡ setup

-- Events lead from cluster to cluster.
pub record EventsGoOn : Type 0 where
  pub new : (job : Job) (setup : Setup) (s : ClusterState) → is_whole job ≡ true → 1 ≤ setup.workers
      → setup.workers ≤ 16 → IsNew job setup s → HasFollowed job setup s
  pub step : (before : ClusterState) (event : Event) (done : Bool) (after : ClusterState) → IsReached before
      → IsStep before event done after → HasFollowed before.job before.setup after
  pub run : (job : Job) (setup : Setup) (lines : List Line) (s : ClusterState) → is_whole job ≡ true
      → 1 ≤ setup.workers → setup.workers ≤ 16 → IsRunBy job setup lines s → HasFollowed job setup s
