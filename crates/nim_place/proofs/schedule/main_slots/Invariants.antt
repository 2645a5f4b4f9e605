-- the slots so far
use Rattle.std.proofs.Common.{◌≡◌, map, take}
use Rattle.nim_command.specs.Numbers.{main_slot}
use Rattle.nim_place.proofs.schedule.main_slots.Given as goal

abbrev pub invariant-loop-object : goal.invariant-loop-object
invariant-loop-object g l = l.slots ≡ map main_slot (take l.object-index l.objects)
