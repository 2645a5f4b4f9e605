use Rattle.std.proofs.Common.{◌≡◌, Result, Some}
use Rattle.std.specs.Prelude.{IfOk}
use Rattle.nim_base.specs.declared.memory.NoMemory.{NoMemory}
use Rattle.nim_lockstep.specs.Cluster.{ClusterState}
use Rattle.nim_lockstep.specs.Schedules.{FollowsSchedule, IsRunBy}
use Rattle.nim_cluster.specs.Runs.{ended_as}
use Rattle.nim_cluster.specs.Stands.{ClusterStands}
use Rattle.nim_cluster.specs.declared.cluster.Cluster.{Cluster}
use Rattle.nim_cluster.specs.declared.running.RunOutcome.{RunOutcome}
use Rattle.nim_cluster.proofs.Answered.{of_kept}
use Rattle.nim_cluster.proofs.running.run.Goals as goal

pub returns : goal.returns
returns c =
    let made = c.in_ok-cluster.ensures in
    let Ends : Cluster → Result RunOutcome NoMemory → Type 0 = λ cluster result. IfOk result (λ outcome.
    (t : ClusterState) × (FollowsSchedule c.args.schedule.now made.0 t × (ClusterStands cluster t × (ended_as t.control.outcome ≡ Some outcome)))) in
    let ended = of_kept Ends _ c.run_by-ended.result _ c.in_ok-cluster-2.ensures.kept (c.run_by-ended.ensures made.0 made.1.1) in
    let by : IsRunBy c.args.job c.args.setup c.args.schedule.now ended.0 = record {
      first = made.0;
      new = made.1.0;
      follows = ended.1.0;
    } in
    let has = c.events_go_on.ensures.run c.args.job c.args.setup c.args.schedule.now ended.0 c.requires.whole c.requires.some c.requires.few by in
    record {
      run = (
        ended.0,
        (
          by,
          (
            record { stands = ended.1.1.0; reached = has.reached; in_step = c.clusters_stay_in_step.ensures ended.0 has.reached },
            ended.1.1.1,
          ),
        ),
      );
    }
