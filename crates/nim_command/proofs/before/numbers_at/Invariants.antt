-- the numbers at the places so far
use Rattle.std.proofs.Common.{◌≡◌, map, take}
use Rattle.nim_command.specs.LastUses.{numbers_at}
use Rattle.nim_command.proofs.before.numbers_at.Given as goal

abbrev pub invariant-loop-place : goal.invariant-loop-place
invariant-loop-place g l = l.numbers ≡ numbers_at (map g.T.Waits.footprint l.all) (take l.place-index l.places)
