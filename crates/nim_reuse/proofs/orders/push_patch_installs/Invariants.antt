-- the ends given so far
use Rattle.std.proofs.Common.{◌≡◌, ◌++◌}
use Rattle.nim_place.specs.Directed.{directed}
use Rattle.nim_patch.specs.Given.{patch_installs_of}
use Rattle.nim_reuse.proofs.orders.push_patch_installs.Given as goal

abbrev pub invariant-loop-number : goal.invariant-loop-number
invariant-loop-number l = l.orders.items ≡ l.initial.orders.items ++ directed l.number (patch_installs_of l.epoch l.patch l.copies)
