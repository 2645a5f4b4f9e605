use Rattle.std.proofs.Common.{◌∙◌, sym}
use Rattle.std.proofs.lemmas.Bool.{eqb-true}
use Rattle.std.proofs.lemmas.List.{nil_from_length}
use Rattle.nim_cluster.proofs.Idle.{one_more_empty}
use Rattle.nim_cluster.proofs.node.any_frames.Goals as goal

pub loop-queue-preserved : goal.loop-queue-preserved
loop-queue-preserved c =
    let queue = c.queue-item.result in
    one_more_empty c.args.queues.now c.loop-queue.queue-index queue c.loop-queue-test.true c.queue-item.is
    (nil_from_length queue.items (sym queue.ok.0 ∙ eqb-true _ 0 (sym c.is_empty.ensures ∙ c.if-not-is_empty.false))) c.loop-queue.invariant
