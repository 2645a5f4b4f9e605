use Rattle.std.proofs.Common.{◌≡◌, ◌-◌, map}
use Rattle.std.specs.List.{find, range_with_len}
use Rattle.nim_lockstep.specs.Cluster.{ClusterState}
use Rattle.nim_lockstep.specs.Events.{is_enabled}
use Rattle.nim_cluster.specs.Runs.{event_of}
use Rattle.nim_cluster.specs.Stands.{ClusterStands}
use Rattle.nim_cluster.proofs.cluster.Cluster.first_of.Given as goal

-- it is none of the workers so far
abbrev pub invariant-loop-worker : goal.invariant-loop-worker
invariant-loop-worker l =
    (s : ClusterState) → ClusterStands l.self s → find (is_enabled s) (map (event_of l.kind) (range_with_len 0 s.setup.workers))
    ≡ find (is_enabled s) (map (event_of l.kind) (range_with_len l.worker (s.setup.workers - l.worker)))
