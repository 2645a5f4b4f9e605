use Rattle.std.proofs.Common.{◌≡◌, ◌++◌}
use Rattle.nim_base.specs.Functions.{row_by, stencil_cell}
use Rattle.nim_funcs.proofs.stencil.push_stencil.Given as goal

-- the new cells of the columns so far
abbrev pub invariant-loop-column : goal.invariant-loop-column
invariant-loop-column l =
    l.cells.items ≡ l.initial.cells.items ++ row_by l.column (stencil_cell l.factor l.divisor l.up l.row l.down)
