use Rattle.std.proofs.Common.{◌≡◌, ◌<◌, ◌≤◌, List, arith, get_or, length, subst}
use Rattle.nim_cluster.specs.declared.node.Node.{Node as kept_node}
use Rattle.nim_cluster.proofs.Idle.{one_more_idle}
use Rattle.nim_cluster.proofs.Nodes.{same_length}
use Rattle.nim_cluster.proofs.cluster.Cluster.has_frames.Goals as goal

pub loop-node-preserved : goal.loop-node-preserved
loop-node-preserved c = λ s stands.
    let i = c.loop-node.node-index in
    let kept = c.node-item.result in
    let same = c.as_slice-node-items.ensures.value in
    one_more_idle c.args.self.now s i kept stands
    (subst (λ (all : List kept_node). i < length all) same c.loop-node-test.true)
    (subst (λ (all : List kept_node). kept ≡ get_or all i kept) same c.node-item.is)
    (λ number node is. c.has_frames.ensures number node is c.if-has_frames.false) (c.loop-node.invariant s stands)

pub returns : goal.returns
returns c = λ s stands no to node below at.
    let count = same_length 0 c.args.self.now.nodes.items s.nodes stands.nodes in
    let all = subst (λ (all : List kept_node). length all ≤ c.loop-node.node-index) c.as_slice-node-items.ensures.value c.loop-node-test.false in
    c.loop-node.invariant s stands to node (omega (arith, below, count, all)) at
