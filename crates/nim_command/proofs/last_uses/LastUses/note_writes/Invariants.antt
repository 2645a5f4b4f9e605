-- the slots so far have the new writer
use Rattle.std.proofs.Common.{◌≡◌, take}
use Rattle.std.specs.Prelude.{if◌then◌else◌}
use Rattle.nim_base.specs.declared.number.Slot.{Slot}
use Rattle.nim_command.specs.LastUses.{use_of, written}
use Rattle.nim_command.specs.Slots.{is_among}
use Rattle.nim_command.proofs.last_uses.LastUses.note_writes.Given as goal

abbrev pub invariant-loop-slot : goal.invariant-loop-slot
invariant-loop-slot l = (s : Slot) → use_of l.self s ≡ (if is_among (take l.slot-index l.slots) s then written s l.place else use_of l.fn.self s)
