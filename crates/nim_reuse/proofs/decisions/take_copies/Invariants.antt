-- the copies so far are taken in
use Rattle.std.proofs.Common.{◌≡◌, take}
use Rattle.nim_patch.specs.Patches.{after_copies}
use Rattle.nim_reuse.proofs.decisions.take_copies.Given as goal

abbrev pub invariant-loop-copy : goal.invariant-loop-copy
invariant-loop-copy l = l.map ≡ after_copies l.initial.map (take l.copy-index l.copies)
