use Rattle.std.proofs.Common.{◌++◌, ◌∷◌, [], ℕ, arith, refl, subst}
use Rattle.std.specs.Prelude.{OnOk}
use Rattle.std.specs.Vec.{with_item}
use Rattle.nim_lockstep.specs.Cluster.{Node}
use Rattle.nim_lockstep.specs.Events.{at_node}
use Rattle.nim_cluster.specs.Stands.{ClusterStands}
use Rattle.nim_cluster.proofs.Nodes.{stands_at, unchanged}
use Rattle.nim_cluster.proofs.cluster.Cluster.put_order.Goals as goal

pub returns-clause-stands : goal.returns-clause-stands
returns-clause-stands c = λ s stands.
    let old = c.args.self.now in
    subst (λ (n : ℕ). OnOk c.put_order.result (ClusterStands (record old { nodes = with_item old.nodes c.from-index.result c.put_order.new.self })
    (at_node (λ (node : Node). record node { orders = node.orders ++ c.args.order ∷ [] }) n s))) c.from-index.ensures
    (stands_at c.put_order.result old (with_item old.nodes c.from-index.result c.put_order.new.self) s c.from-index.result c.index_mut.result.now
    c.put_order.new.self
    (λ (node : Node). record node { orders = node.orders ++ c.args.order ∷ [] }) stands
    (omega (arith, c.if-index-len.false, c.len.ensures, old.nodes.ok.0)) c.index_mut.ensures.value refl c.put_order.ensures)

pub returns-then-index-len-clause-stands : goal.returns-then-index-len-clause-stands
returns-then-index-len-clause-stands c = λ s stands.
    let old = c.args.self.now in
    unchanged old s c.args.worker.0 (λ (node : Node). record node { orders = node.orders ++ c.args.order ∷ [] }) stands
    (omega (arith, c.if-index-len.true, c.from-index.ensures, c.len.ensures, old.nodes.ok.0))
