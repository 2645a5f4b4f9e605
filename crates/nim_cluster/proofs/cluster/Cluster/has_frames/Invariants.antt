use Rattle.nim_lockstep.specs.Cluster.{ClusterState}
use Rattle.nim_cluster.specs.Stands.{ClusterStands}
use Rattle.nim_cluster.specs.Steps.{AreNodesIdle}
use Rattle.nim_cluster.proofs.cluster.Cluster.has_frames.Given as goal

-- none waits at the workers so far
abbrev pub invariant-loop-node : goal.invariant-loop-node
invariant-loop-node l = (s : ClusterState) → ClusterStands l.self s → AreNodesIdle l.node-index s.nodes
