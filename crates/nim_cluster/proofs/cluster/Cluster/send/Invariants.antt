use Rattle.std.proofs.Common.{◌≡◌}
use Rattle.std.specs.List.{fold}
use Rattle.nim_lockstep.specs.Cluster.{ClusterState}
use Rattle.nim_lockstep.specs.Events.{out_sent}
use Rattle.nim_cluster.specs.Stands.{ClusterStands}
use Rattle.nim_cluster.proofs.cluster.Cluster.send.Given as goal

-- what was given so far waits
abbrev pub invariant-loop-out : goal.invariant-loop-out
invariant-loop-out l = record {
  stands : (s : ClusterState) → ClusterStands l.fn.self s → ClusterStands l.self (fold (out_sent l.from) s l.yielded);
  rest : l.self ≡ record l.fn.self { nodes = l.self.nodes };
}
