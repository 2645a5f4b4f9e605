-- the slots so far
use Rattle.std.proofs.Common.{◌≡◌, take}
use Rattle.nim_command.specs.Edits.{read_slots}
use Rattle.nim_command.proofs.moved.read_slots.Given as goal

abbrev pub invariant-loop-read : goal.invariant-loop-read
invariant-loop-read l = l.slots ≡ read_slots l.scratch (take l.read-index l.reads)
