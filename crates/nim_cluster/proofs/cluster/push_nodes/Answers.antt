use Rattle.std.proofs.Common.{◌∙◌, ◌++◌, ◌+◌, ◌∷◌, [], List, replicate, subst, sym}
use Rattle.std.proofs.lemmas.List.{length-replicate, replicate_more}
use Rattle.nim_lockstep.specs.Cluster.{Node, new_node}
use Rattle.nim_cluster.specs.declared.node.Node.{Node as kept_node}
use Rattle.nim_cluster.specs.Stands.{AreNodes}
use Rattle.nim_cluster.proofs.Nodes.{nodes_more, same_length}
use Rattle.nim_cluster.proofs.cluster.push_nodes.Goals as goal

pub loop-number-preserved : goal.loop-number-preserved
loop-number-preserved c =
    let node = new_node c.args.workers in
    let so_far = replicate c.loop-number.number node in
    subst (λ (kepts : List kept_node). AreNodes 0 kepts (replicate (c.loop-number.number + 1) node)) (sym c.in_ok-push.ensures.items)
    (subst (λ (nodes : List Node). AreNodes 0 (c.loop-number.nodes.items ++ c.in_ok-node.node ∷ []) nodes) (replicate_more c.loop-number.number node)
    (nodes_more c.loop-number.number c.loop-number.nodes.items so_far c.in_ok-node.node node c.loop-number.invariant
    (same_length 0 c.loop-number.nodes.items so_far c.loop-number.invariant ∙ length-replicate c.loop-number.number node) c.in_ok-node.ensures))
