use Rattle.std.proofs.Common.{Bool, suc, subst}
use Rattle.nim_lockstep.specs.Cluster.{ClusterState}
use Rattle.nim_cluster.specs.Runs.{IsAdvance}
use Rattle.nim_cluster.specs.Stands.{ClusterStands}
use Rattle.nim_cluster.proofs.cluster.Cluster.go_on.Goals as goal

pub loop-preserved : goal.loop-preserved
loop-preserved c = λ s stands.
    let so_far = c.loop.invariant s stands in
    let next = subst (λ (went : Bool). (t : ClusterState) × (IsAdvance went so_far.after t × ClusterStands c.advance.new.self t)) c.if-not-branch.false
    (c.in_ok-advance.ensures.advance so_far.after so_far.stands) in
    record { count = suc so_far.count; after = next.0; reaches = (so_far.after, (so_far.reaches, next.1.0)); stands = next.1.1 }
