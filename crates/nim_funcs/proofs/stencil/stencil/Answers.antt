use Rattle.std.proofs.Common.{◌≡◌, ℕ, arith}
use Rattle.std.proofs.lemmas.Int.{to_z-of_z}
use Rattle.nim_base.specs.Value.{cells_of}
use Rattle.nim_base.specs.Functions.{grid_by, grid_row, row_above, row_below, stencil_cell}
use Rattle.nim_funcs.proofs.CellRows.{made_length, made_grid}
use Rattle.nim_funcs.proofs.stencil.stencil.Goals as goal

pub from_cells-requires-clause-whole : goal.from_cells-requires-clause-whole
from_cells-requires-clause-whole c =
    made_length c.loop-row.row c.rows-rows.result c.width_of-width.result _ c.loop-row.cells.items (omega arith) c.loop-row.invariant

pub returns : goal.returns
returns c =
    let factor = c.ranges.factor in
    let divisor = c.ranges.divisor in
    let above = c.args.above.now in
    let middle = c.args.middle.now in
    let below = c.args.below.now in
    let cell = λ (row : ℕ). stencil_cell c.args.factor c.args.divisor (row_above above middle row) (grid_row middle row) (row_below middle below row) in
    let made : c.loop-row.cells.items ≡ cells_of (grid_by c.loop-row.row c.width_of-width.result cell).rows = simp to_z-of_z at c.loop-row.invariant in
    made_grid c.loop-row.row c.rows-rows.result c.width_of-width.result _ _ cell c.loop-row.cells.items c.from_cells.result (omega arith) made
    c.rows-rows.ensures c.width_of-width.ensures.width c.from_cells.ensures
