use Rattle.std.proofs.Common.{arith, refl}
use Rattle.std.specs.Vec.{with_item}
use Rattle.nim_lockstep.specs.Nodes.{frame_sent}
use Rattle.nim_cluster.proofs.Nodes.{stands_at, unchanged}
use Rattle.nim_cluster.proofs.cluster.Cluster.put_frame.Goals as goal

pub returns-clause-stands : goal.returns-clause-stands
returns-clause-stands c = λ s stands.
    let old = c.args.self.now in
    stands_at c.put_frame.result old (with_item old.nodes c.args.to c.put_frame.new.self) s c.args.to c.index_mut.result.now c.put_frame.new.self
    (frame_sent c.args.from c.args.frame) stands
    (omega (arith, c.if-to-len.false, c.len.ensures, old.nodes.ok.0)) c.index_mut.ensures.value refl c.put_frame.ensures

pub returns-then-to-len-clause-stands : goal.returns-then-to-len-clause-stands
returns-then-to-len-clause-stands c = λ s stands.
    let old = c.args.self.now in
    unchanged old s c.args.to (frame_sent c.args.from c.args.frame) stands (omega (arith, c.if-to-len.true, c.len.ensures, old.nodes.ok.0))
