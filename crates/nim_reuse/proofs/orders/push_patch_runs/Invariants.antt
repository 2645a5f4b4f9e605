-- the runs asked for so far
use Rattle.std.proofs.Common.{◌≡◌, ◌++◌}
use Rattle.nim_place.specs.Directed.{directed}
use Rattle.nim_patch.specs.Given.{patch_runs_of}
use Rattle.nim_reuse.proofs.orders.push_patch_runs.Given as goal

abbrev pub invariant-loop-number : goal.invariant-loop-number
invariant-loop-number l =
    l.orders.items ≡ l.initial.orders.items ++ directed l.number (patch_runs_of l.at.epoch l.at.instance l.patch l.copies l.map)
