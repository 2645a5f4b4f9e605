use Rattle.nim_lockstep.specs.Cluster.{ClusterState}
use Rattle.nim_lockstep.specs.Schedules.{Reaches}
use Rattle.nim_cluster.specs.Stands.{ClusterStands}
use Rattle.nim_cluster.proofs.cluster.Cluster.advance_by.Given as goal

-- so many events led to what it has come to
abbrev pub invariant-loop : goal.invariant-loop
invariant-loop l =
    (s : ClusterState) → ClusterStands l.fn.self s → (t : ClusterState) × (Reaches l.counter s t × ClusterStands l.self t)
