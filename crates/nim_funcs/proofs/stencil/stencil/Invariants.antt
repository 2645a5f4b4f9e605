use Rattle.std.proofs.Common.{◌≡◌}
use Rattle.nim_base.specs.Value.{cells_of}
use Rattle.nim_base.specs.Functions.{grid_by, grid_row, row_above, row_below, stencil_cell}
use Rattle.nim_funcs.proofs.stencil.stencil.Given as goal

-- the rows so far
abbrev pub invariant-loop-row : goal.invariant-loop-row
invariant-loop-row l =
    l.cells.items
    ≡ cells_of (grid_by l.row l.width (λ row. stencil_cell l.factor l.divisor (row_above l.above l.middle row) (grid_row l.middle row)
    (row_below l.middle l.below row))).rows
