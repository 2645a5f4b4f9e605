-- the numbers so far
use Rattle.std.proofs.Common.{◌≡◌, map, take}
use Rattle.nim_command.specs.Numbers.{entry_number}
use Rattle.nim_place.specs.declared.schedule.Moved.{Moved}
use Rattle.nim_place.proofs.schedule.received.Given as goal

abbrev pub invariant-loop-one : goal.invariant-loop-one
invariant-loop-one l = l.before ≡ map (λ (m : Moved). entry_number l.number 1 m.index) (take l.one-index l.moved)
