-- the ends so far, and those that are to come
use Rattle.std.proofs.Common.{◌≡◌, ◌++◌, drop}
use Rattle.nim_patch.specs.Parts.{patch_parts_from, patch_parts_of}
use Rattle.nim_reuse.proofs.orders.parts_of.Given as goal

abbrev pub invariant-loop-at : goal.invariant-loop-at
invariant-loop-at l = l.made.items ++ patch_parts_from l.at (drop l.at l.copies) l.worker ≡ patch_parts_of l.copies l.worker
