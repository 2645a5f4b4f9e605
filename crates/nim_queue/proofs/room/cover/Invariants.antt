-- the slots so far have a use
use Rattle.std.proofs.Common.{◌≡◌, take, true, nat_eq, is_some}
use Rattle.std.specs.HashMap.{get}
use Rattle.std.specs.List.{list_all}
use Rattle.nim_base.specs.declared.number.Slot.{Slot}
use Rattle.nim_queue.specs.Used.{used_in}
use Rattle.nim_queue.specs.Joined.{HaveSameUses}
use Rattle.nim_queue.proofs.room.cover.Given as goal

abbrev pub invariant-loop-slot : goal.invariant-loop-slot
invariant-loop-slot l = record {
  same : HaveSameUses (get nat_eq l.waiting) (used_in l.fn.slots.items) (used_in l.slots.items);
  covered : list_all (λ (slot : Slot). is_some (used_in l.slots.items slot.0)) (take l.slot-index l.used) ≡ true;
}
