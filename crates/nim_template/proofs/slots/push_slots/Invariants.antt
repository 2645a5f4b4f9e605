-- the slots of the objects so far
use Rattle.std.proofs.Common.{◌≡◌, ◌++◌}
use Rattle.nim_template.specs.Built.{slots_of}
use Rattle.nim_template.proofs.slots.push_slots.Given as goal

abbrev pub invariant-loop-number : goal.invariant-loop-number
invariant-loop-number l = l.slots.items ≡ l.initial.slots.items ++ slots_of l.worker l.number
