use Rattle.std.proofs.Common.{◌≡◌, ◌++◌}
use Rattle.nim_base.specs.Value.{cells_of}
use Rattle.nim_funcs.specs.Groups.{sums_grid}
use Rattle.nim_funcs.proofs.group.rows_of_sums.Given as goal

-- the cells so far, and those of the sums that are left
abbrev pub invariant-loop-key : goal.invariant-loop-key
invariant-loop-key l = l.cells.items ++ cells_of (sums_grid l.key-iterator).rows ≡ cells_of (sums_grid l.sums.entries).rows
