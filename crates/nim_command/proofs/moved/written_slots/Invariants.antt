-- the slots so far
use Rattle.std.proofs.Common.{◌≡◌, take}
use Rattle.nim_command.specs.Edits.{written_slots}
use Rattle.nim_command.proofs.moved.written_slots.Given as goal

abbrev pub invariant-loop-object : goal.invariant-loop-object
invariant-loop-object l = l.slots ≡ written_slots l.scratch (take l.object-index l.objects)
