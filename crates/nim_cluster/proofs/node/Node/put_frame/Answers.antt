use Rattle.std.proofs.Common.{arith, refl, true}
use Rattle.std.specs.Vec.{with_item}
use Rattle.nim_cluster.proofs.Links.{sent_node, unsent_node}
use Rattle.nim_cluster.proofs.Nodes.{got}
use Rattle.nim_cluster.proofs.node.Node.put_frame.Goals as goal

pub returns-then-from-len : goal.returns-then-from-len
returns-then-from-len c = λ number node is.
    unsent_node number c.args.from c.args.self.now node c.args.frame is (omega (arith, c.if-from-len.true, c.len.ensures, c.args.self.now.frames.ok.0))

pub returns : goal.returns
returns c = λ number node is.
    let old = c.args.self.now in
    sent_node number c.args.from old (record old { frames = with_item old.frames c.args.from c.push_back.new.self; frames_wait = true }) node c.args.frame
    c.index_mut.result.now c.push_back.new.self is
    (got old.frames.items c.args.from c.index_mut.result.now (omega (arith, c.if-from-len.false, c.len.ensures, old.frames.ok.0)) c.index_mut.ensures.value)
    c.in_ok-push_back.ensures.items refl refl refl refl refl refl
