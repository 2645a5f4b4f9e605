use Rattle.std.proofs.Common.{take}
use Rattle.nim_lockstep.specs.Cluster.{ClusterState}
use Rattle.nim_lockstep.specs.Schedules.{AreLines}
use Rattle.nim_cluster.specs.Stands.{ClusterStands}
use Rattle.nim_cluster.proofs.cluster.Cluster.follow.Given as goal

-- the lines so far led to what it has come to
abbrev pub invariant-loop-line : goal.invariant-loop-line
invariant-loop-line l =
    (s : ClusterState) → ClusterStands l.fn.self s → (t : ClusterState) × (AreLines (take l.line-index l.schedule) s t × ClusterStands l.self t)
