-- the effect on the slots so far
use Rattle.std.proofs.Common.{◌≡◌, take}
use Rattle.nim_template.specs.Built.{effect_of}
use Rattle.nim_template.proofs.slots.effect_of.Given as goal

abbrev pub invariant-loop-slot : goal.invariant-loop-slot
invariant-loop-slot l = l.effect.items ≡ effect_of l.offsets (take l.slot-index l.slots)
