-- the versions so far
use Rattle.std.proofs.Common.{◌≡◌, take}
use Rattle.nim_patch.specs.Parts.{versions_taken}
use Rattle.nim_reuse.proofs.orders.versions_taken.Given as goal

abbrev pub invariant-loop-end : goal.invariant-loop-end
invariant-loop-end l = l.versions.items ≡ versions_taken l.map (take l.end-index l.ends)
