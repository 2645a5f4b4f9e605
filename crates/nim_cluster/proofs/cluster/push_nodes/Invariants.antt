use Rattle.std.proofs.Common.{replicate}
use Rattle.nim_lockstep.specs.Cluster.{new_node}
use Rattle.nim_cluster.specs.Stands.{AreNodes}
use Rattle.nim_cluster.proofs.cluster.push_nodes.Given as goal

-- so many workers were made
abbrev pub invariant-loop-number : goal.invariant-loop-number
invariant-loop-number l = AreNodes 0 l.nodes.items (replicate l.number (new_node l.workers))
