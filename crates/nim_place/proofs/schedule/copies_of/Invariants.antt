-- the copies so far
use Rattle.std.proofs.Common.{◌≡◌, take}
use Rattle.nim_place.specs.Schedule.{copies_of}
use Rattle.nim_place.proofs.schedule.copies_of.Given as goal

abbrev pub invariant-loop-one : goal.invariant-loop-one
invariant-loop-one l = l.commands.items ≡ copies_of l.map l.number l.owner (take l.one-index l.moved)
