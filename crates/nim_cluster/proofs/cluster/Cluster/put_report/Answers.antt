use Rattle.std.proofs.Common.{◌++◌, ◌∷◌, [], arith, refl}
use Rattle.std.specs.Vec.{with_item}
use Rattle.nim_lockstep.specs.Cluster.{Node}
use Rattle.nim_cluster.proofs.Nodes.{stands_at, unchanged}
use Rattle.nim_cluster.proofs.cluster.Cluster.put_report.Goals as goal

pub returns-clause-stands : goal.returns-clause-stands
returns-clause-stands c = λ s stands.
    let old = c.args.self.now in
    stands_at c.put_report.result old (with_item old.nodes c.args.from c.put_report.new.self) s c.args.from c.index_mut.result.now c.put_report.new.self
    (λ (node : Node). record node { reports = node.reports ++ c.args.report ∷ [] }) stands
    (omega (arith, c.if-from-len.false, c.len.ensures, old.nodes.ok.0)) c.index_mut.ensures.value refl c.put_report.ensures

pub returns-then-from-len-clause-stands : goal.returns-then-from-len-clause-stands
returns-then-from-len-clause-stands c = λ s stands.
    let old = c.args.self.now in
    unchanged old s c.args.from (λ (node : Node). record node { reports = node.reports ++ c.args.report ∷ [] }) stands
    (omega (arith, c.if-from-len.true, c.len.ensures, old.nodes.ok.0))
