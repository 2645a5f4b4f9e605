use Rattle.std.proofs.Common.{arith, refl}
use Rattle.std.specs.Vec.{with_item}
use Rattle.nim_lockstep.specs.Cluster.{Node}
use Rattle.nim_lockstep.specs.Nodes.{frame_taken, frames_from}
use Rattle.nim_cluster.proofs.Nodes.{stands_at, unchanged}
use Rattle.nim_cluster.proofs.cluster.Cluster.take_frame.Goals as goal

pub returns-clause-stands : goal.returns-clause-stands
returns-clause-stands c = λ s stands.
    let old = c.args.self.now in
    stands_at c.take_frame.result old (with_item old.nodes c.args.to c.take_frame.new.self) s c.args.to c.index_mut.result.now c.take_frame.new.self
    (λ (node : Node). frame_taken c.args.from (frames_from c.args.from node) node) stands
    (omega (arith, c.if-index-len.false, c.len.ensures, old.nodes.ok.0)) c.index_mut.ensures.value refl c.take_frame.ensures

pub returns-then-index-len-clause-stands : goal.returns-then-index-len-clause-stands
returns-then-index-len-clause-stands c = λ s stands.
    let old = c.args.self.now in
    unchanged old s c.args.to (λ (node : Node). frame_taken c.args.from (frames_from c.args.from node) node) stands
    (omega (arith, c.if-index-len.true, c.len.ensures, old.nodes.ok.0))
