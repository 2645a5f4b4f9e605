-- the copies so far, and those that are to come
use Rattle.std.proofs.Common.{◌≡◌, ◌++◌, drop}
use Rattle.nim_patch.specs.Patches.{patch_copies}
use Rattle.nim_patch.proofs.patch.build_patch.Given as goal

abbrev pub invariant-loop-at : goal.invariant-loop-at
invariant-loop-at l = l.copies.items ++ patch_copies l.map (drop l.at l.preconditions) ≡ patch_copies l.map l.preconditions
