use Rattle.std.proofs.Common.{◌-◌, ◌^◌, length}
use Rattle.nim_lockstep.specs.Cluster.{ClusterState}
use Rattle.nim_cluster.proofs.Schedules.{HasReached}
use Rattle.nim_cluster.specs.Stands.{ClusterStands}
use Rattle.nim_cluster.proofs.cluster.Cluster.go_on.Given as goal

-- some events led to what it has come to
abbrev pub invariant-loop : goal.invariant-loop
invariant-loop l = (s : ClusterState) → ClusterStands l.fn.self s → HasReached s l.self

-- each of them is kept, and there is an end to what can be
abbrev pub decreases-loop : goal.decreases-loop
decreases-loop l = 2 ^ 64 - length l.self.given.items
