-- those that use the slots so far are reached
use Rattle.std.proofs.Common.{◌≡◌, ℕ, take, nat_eq, not}
use Rattle.std.specs.Prelude.{◌||◌, ◌&&◌, is_some}
use Rattle.std.specs.HashMap.{get}
use Rattle.std.specs.HashSet as bag
use Rattle.std.specs.List.{list_any}
use Rattle.nim_base.specs.declared.number.Slot.{Slot}
use Rattle.nim_queue.specs.Used.{used_in}
use Rattle.nim_queue.specs.Counts.{is_in}
use Rattle.nim_queue.specs.Stands.{is_reader}
use Rattle.nim_queue.proofs.arrivals.Arrivals.add_readers.Given as goal

abbrev pub invariant-loop-slot : goal.invariant-loop-slot
invariant-loop-slot l =
    (e : ℕ) → is_in e l.tickets
    ≡ (is_in e l.fn.tickets || list_any (λ (slot : Slot). not (bag.contains nat_eq l.self.written slot.0)
    && (is_reader e (used_in l.slots.items slot.0) && is_some (get nat_eq l.waiting e))) (take l.slot-index l.written))
