use Rattle.std.proofs.Common.{get_or, ap, arith, ◌∙◌, Option}
use Rattle.nim_base.specs.declared.number.Slot.{Slot}
use Rattle.nim_store.specs.declared.held.Held.{Held}
use Rattle.nim_store.specs.Stored.{slot_at}
use Rattle.nim_history.specs.Kept.{content_seen, held_or_empty}
use Rattle.nim_worker.proofs.GivenBack.{among_at, fits_more, pushed_map, reads_of-push}
use Rattle.nim_worker.proofs.inputs.Inputs.take.Goals as goal

pub loop-slot-preserved : goal.loop-slot-preserved
loop-slot-preserved c =
    let inv = c.loop-slot.invariant in
    let read = c.take_read-place.ensures in
    let before = slot_at c.args.store.now in
    let first : Slot = record { 0 = 0 } in
    let slot : Slot = get_or c.args.reads.now c.loop-slot.slot-index first in
    record {
      back = read.back ∙ inv.back;
      among = read.among c.args.reads.now (among_at c.args.reads.now c.loop-slot.slot-index first c.loop-slot-test.true) inv.among;
      stays = read.shapes ∙ inv.stays;
      params = inv.params;
      values = rw c.push_reserved.ensures.items
          (reads_of-push _ _ _ _ read.more inv.fit
          ∙ pushed_map (λ (slot : Slot). (held_or_empty before slot).value) c.args.reads.now c.loop-slot.slot-index first _ _ c.loop-slot-test.true inv.values
          (read.value ∙ ap (λ (f : Slot → Option Held). (held_or_empty f slot).value) inv.back));
      contents = rw c.push_reserved-in-loop-slot.ensures.items
          (pushed_map (content_seen before) c.args.reads.now c.loop-slot.slot-index first _ _ c.loop-slot-test.true inv.contents
          (read.content ∙ ap (λ (f : Slot → Option Held). content_seen f slot) inv.back));
      paired = read.paired;
      shapes = inv.shapes;
      few = omega (arith, read.fits, inv.few);
      right = read.seen;
      fit = rw c.push_reserved.ensures.items (fits_more _ _ _ _ read.more inv.fit read.place);
      room = (
        read.room.0,
        read.room.1,
        omega (arith, c.push_reserved.ensures.capacity, inv.room),
        omega
            (arith, c.push_reserved-in-loop-slot.ensures.capacity, inv.room),
      );
    }
