use Rattle.std.proofs.Common.{arith, refl, subst}
use Rattle.std.specs.Vec.{with_item}
use Rattle.nim_lockstep.specs.Cluster.{ClusterState}
use Rattle.nim_cluster.specs.Stands.{ClusterStands}
use Rattle.nim_cluster.proofs.Answered.{when_ok}
use Rattle.nim_cluster.proofs.Events.{finished_nobody, finishing}
use Rattle.nim_cluster.proofs.Nodes.{got}
use Rattle.nim_cluster.proofs.cluster.Cluster.finish.Goals as goal

pub returns-then-index-len-clause-stands : goal.returns-then-index-len-clause-stands
returns-then-index-len-clause-stands c = λ s stands enabled.
    let old = c.args.self.now in
    finished_nobody old s c.args.worker stands (omega (arith, c.if-index-len.true, c.len.ensures, old.nodes.ok.0))

pub returns-clause-stands : goal.returns-clause-stands
returns-clause-stands c = λ s stands enabled.
    let old = c.args.self.now in
    let kept = c.index_mut.result.now in
    let finished =
    finishing old (with_item old.nodes c.args.worker c.finish.new.self) c.finish.new.trace s c.args.worker kept c.finish.new.self c.in_ok-outs.outs.items
    stands enabled
    (got old.nodes.items c.args.worker kept (omega (arith, c.if-index-len.false, c.len.ensures, old.nodes.ok.0)) c.index_mut.ensures.value) refl
    (λ node b is out. c.in_ok-outs.ensures c.args.worker node b is out) in
    when_ok c.send.result (c.send.ensures.stands finished.between finished.stands) (λ ok after.
    subst (λ (t : ClusterState). ClusterStands c.send.new.self t) finished.sent after)
