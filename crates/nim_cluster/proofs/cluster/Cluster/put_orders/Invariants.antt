use Rattle.std.proofs.Common.{◌≡◌}
use Rattle.std.specs.List.{fold}
use Rattle.nim_lockstep.specs.Cluster.{ClusterState}
use Rattle.nim_lockstep.specs.Events.{order_sent}
use Rattle.nim_cluster.specs.Stands.{ClusterStands}
use Rattle.nim_cluster.proofs.cluster.Cluster.put_orders.Given as goal

-- the orders so far wait for their workers
abbrev pub invariant-loop-worker : goal.invariant-loop-worker
invariant-loop-worker l = record {
  stands : (s : ClusterState) → ClusterStands l.fn.self s → ClusterStands l.self (fold order_sent s l.yielded);
  rest : l.self ≡ record l.fn.self { nodes = l.self.nodes };
}
