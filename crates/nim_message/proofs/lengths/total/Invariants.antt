-- the length of the items so far
use Rattle.std.proofs.Common.{◌≡◌, map, sum, take}
use Rattle.nim_message.specs.Lengths.{capped}
use Rattle.nim_message.proofs.lengths.total.Given as goal

abbrev pub invariant-loop-item : goal.invariant-loop-item
invariant-loop-item g l = l.all ≡ capped (sum (map g.T.Measured.bytes (take l.item-index l.items)))
