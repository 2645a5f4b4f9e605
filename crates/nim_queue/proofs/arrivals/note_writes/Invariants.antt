-- the slots so far are among the written ones
use Rattle.std.proofs.Common.{◌≡◌, ℕ, take, nat_eq}
use Rattle.std.specs.Prelude.{◌||◌}
use Rattle.std.specs.HashSet as bag
use Rattle.nim_command.specs.Slots.{is_among}
use Rattle.nim_queue.proofs.arrivals.note_writes.Given as goal

abbrev pub invariant-loop-slot : goal.invariant-loop-slot
invariant-loop-slot l =
    (s : ℕ) → bag.contains nat_eq l.written s ≡ (bag.contains nat_eq l.fn.written s || is_among (take l.slot-index l.slots) (record { 0 = s }))
