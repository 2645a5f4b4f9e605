-- the last writers of the slots so far are there
use Rattle.std.proofs.Common.{◌≡◌, ℕ, take}
use Rattle.std.specs.Prelude.{◌||◌}
use Rattle.std.specs.List.{list_any}
use Rattle.nim_base.specs.declared.number.Slot.{Slot}
use Rattle.nim_command.specs.LastUses.{is_in, is_writer, writer_of}
use Rattle.nim_command.proofs.last_uses.LastUses.push_writers.Given as goal

abbrev pub invariant-loop-slot : goal.invariant-loop-slot
invariant-loop-slot l =
    (p : ℕ) → is_in p l.places.items
    ≡ (is_in p l.fn.places.items || list_any (λ (slot : Slot). is_writer p (writer_of l.self slot)) (take l.slot-index l.slots))
