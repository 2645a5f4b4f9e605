-- the slots of the workers so far
use Rattle.std.proofs.Common.{◌≡◌}
use Rattle.nim_template.specs.Built.{all_slots}
use Rattle.nim_template.proofs.slots.all_slots.Given as goal

abbrev pub invariant-loop-number : goal.invariant-loop-number
invariant-loop-number l = l.slots.items ≡ all_slots l.number l.objects
