use Rattle.std.proofs.Common.{◌≡◌, ◌∙◌, ◌<◌, [], Global, List, Some, ap, arith, get_or, length, refl, slice_get, sym}
use Rattle.std.specs.declared.collections.VecDeque.{VecDeque}
use Rattle.std.specs.Vec.{with_item}
use Rattle.nim_message.specs.declared.frame.Data.{Data}
use Rattle.nim_cluster.specs.Stands.{queued_frames}
use Rattle.std.proofs.lemmas.List.{nil_from_length}
use Rattle.nim_cluster.proofs.Answered.{when_ok}
use Rattle.nim_cluster.proofs.Links.{framed_node, frames_are, same_frames, unframed_node}
use Rattle.nim_cluster.proofs.Nodes.{got}
use Rattle.nim_cluster.proofs.node.Node.take_frame.Goals as goal

pub returns-in-Some : goal.returns-in-Some
returns-in-Some c = λ number node is.
    let old = c.args.self.now in
    let below : c.args.from < length old.frames.items = omega (arith, c.if-from-len.false, c.len.ensures, old.frames.ok.0) in
    let at : slice_get old.frames.items c.args.from ≡ Some c.index_mut.result.now =
    got old.frames.items c.args.from c.index_mut.result.now below c.index_mut.ensures.value in
    when_ok c.on_data.result (c.on_data.ensures.stands node.happened old.batch is.core) (λ ok stands.
    framed_node number c.args.from old
    (record old { core = c.on_data.new.self; frames = with_item old.frames c.args.from c.pop_front.new.self; frames_wait = c.any_frames-self.result }) node
    c.in-Some.frame
    c.index_mut.result.now c.pop_front.new.self is at c.in-Some.ensures.items refl
    (record { stands = stands; stale = c.on_data.ensures.stale; worker = c.on_data.ensures.worker }) refl refl refl
    (λ no other. ap (λ (queues : List (VecDeque Data Global)). get_or (queued_frames queues) other []) (sym c.as_slice.ensures.value)
    ∙ c.any_frames-self.ensures no other))

pub returns-in-None : goal.returns-in-None
returns-in-None c = λ number node is.
    let old = c.args.self.now in
    let below : c.args.from < length old.frames.items = omega (arith, c.if-from-len.false, c.len.ensures, old.frames.ok.0) in
    let at : slice_get old.frames.items c.args.from ≡ Some c.index_mut.result.now =
    got old.frames.items c.args.from c.index_mut.result.now below c.index_mut.ensures.value in
    unframed_node number c.args.from old (record old { frames = with_item old.frames c.args.from c.pop_front.new.self }) node is
    (frames_are number c.args.from old node c.index_mut.result.now is at
    ∙ nil_from_length c.index_mut.result.now.items (sym c.index_mut.result.now.ok.0 ∙ c.in-None.ensures.cases.0))
    (record {
      core = refl;
      batch = refl;
      orders = refl;
      reports = refl;
      frames = same_frames old.frames.items c.args.from c.index_mut.result.now c.pop_front.new.self at (sym c.in-None.ensures.items);
      waits = refl;
    })
