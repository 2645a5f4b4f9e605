-- the slots of the commands so far have a use
use Rattle.std.proofs.Common.{◌≡◌, take, true, nat_eq}
use Rattle.std.specs.HashMap.{get}
use Rattle.std.specs.List.{list_all}
use Rattle.nim_queue.specs.Used.{used_in}
use Rattle.nim_queue.specs.Joined.{HaveSameUses, are_covered}
use Rattle.nim_queue.proofs.room.cover_all.Given as goal

abbrev pub invariant-loop-arrival : goal.invariant-loop-arrival
invariant-loop-arrival l = record {
  same : HaveSameUses (get nat_eq l.waiting) (used_in l.fn.slots.items) (used_in l.slots.items);
  covered : list_all (are_covered (used_in l.slots.items)) (take l.arrival-index l.arrived) ≡ true;
}
