use Rattle.std.proofs.Common.{arith, refl}
use Rattle.std.specs.Vec.{with_item}
use Rattle.nim_schedule.specs.declared.event.Event.TheVariants.{Begin}
use Rattle.nim_place.specs.Extends.{worker_of}
use Rattle.nim_lockstep.specs.Nodes.{batch_begun}
use Rattle.nim_cluster.proofs.Events.{enabled_may}
use Rattle.nim_cluster.proofs.Nodes.{changed, got, unchanged}
use Rattle.nim_cluster.proofs.cluster.Cluster.begin.Goals as goal

pub returns-clause-stands : goal.returns-clause-stands
returns-clause-stands c = λ s stands enabled.
    let old = c.args.self.now in
    changed old (with_item old.nodes c.args.worker c.begin.new.self) s c.args.worker c.index_mut.result.now c.begin.new.self
    (batch_begun (worker_of c.args.worker) c.args.most) stands
    (got old.nodes.items c.args.worker c.index_mut.result.now (omega (arith, c.if-index-len.false, c.len.ensures, old.nodes.ok.0)) c.index_mut.ensures.value)
    refl
    (λ node there is. c.begin.ensures c.args.worker node is (enabled_may s (Begin c.args.worker c.args.most) node enabled there))

pub returns-then-index-len-clause-stands : goal.returns-then-index-len-clause-stands
returns-then-index-len-clause-stands c = λ s stands enabled.
    let old = c.args.self.now in
    unchanged old s c.args.worker (batch_begun (worker_of c.args.worker) c.args.most) stands (omega (arith, c.if-index-len.true, c.len.ensures, old.nodes.ok.0))
