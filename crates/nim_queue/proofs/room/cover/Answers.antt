use Rattle.std.proofs.Common.{is_some, rules, take}
use Rattle.nim_base.specs.declared.number.Slot.{Slot}
use Rattle.nim_queue.specs.Used.{used_in}
use Rattle.nim_queue.proofs.Covering.{all_more, all_stay, one_used, same_again, unchanged}
use Rattle.nim_queue.proofs.room.cover.Goals as goal

pub returns-in_err-cover_one-clause-same : goal.returns-in_err-cover_one-clause-same
returns-in_err-cover_one-clause-same c = same_again _ _ _ _ c.loop-slot.invariant.same (unchanged _ _ _ c.in_err-cover_one.ensures.err)

pub loop-slot-preserved : goal.loop-slot-preserved
loop-slot-preserved c = record {
  same = same_again _ _ _ _ c.loop-slot.invariant.same (one_used _ _ _ _ c.in_ok-cover_one.ensures.uses);
  covered =
      all_more (λ (slot : Slot). is_some (used_in c.cover_one.new.slots.items slot.0)) c.args.used.now c.loop-slot.slot-index (record { 0 = 0 })
      (search rules)
      (all_stay (λ (slot : Slot). is_some (used_in c.loop-slot.slots.items slot.0)) (λ (slot : Slot). is_some (used_in c.cover_one.new.slots.items slot.0))
      (take c.loop-slot.slot-index c.args.used.now)
      (λ slot there. (one_used _ _ _ _ c.in_ok-cover_one.ensures.uses).stays slot.0 there) c.loop-slot.invariant.covered)
      (search rules);
}
