-- what is copied so far
use Rattle.std.proofs.Common.{◌≡◌, take}
use Rattle.nim_base.proofs.seq.copies.Given as goal

abbrev pub invariant-loop-item : goal.invariant-loop-item
invariant-loop-item g l = l.other.items ≡ take l.item-index l.items
