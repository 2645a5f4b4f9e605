-- the slots so far have the new reader
use Rattle.std.proofs.Common.{◌≡◌, ◌==◌, ℕ, take}
use Rattle.std.specs.Prelude.{◌||◌, ◌&&◌}
use Rattle.nim_base.specs.declared.number.Slot.{Slot}
use Rattle.nim_command.specs.LastUses.{is_in, readers_of, writer_of}
use Rattle.nim_command.specs.Slots.{is_among}
use Rattle.nim_command.proofs.last_uses.LastUses.note_reads.Given as goal

abbrev pub invariant-loop-slot : goal.invariant-loop-slot
invariant-loop-slot l = record {
  writers : (s : Slot) → writer_of l.self s ≡ writer_of l.fn.self s;
  readers : (s : Slot) (p : ℕ)
      → is_in p (readers_of l.self s) ≡ (is_in p (readers_of l.fn.self s) || (is_among (take l.slot-index l.slots) s && (p == l.place)));
}
