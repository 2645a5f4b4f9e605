use Rattle.std.proofs.Common.{arith}
use Rattle.nim_funcs.proofs.CellRows.{row_seen, row_whole}
use Rattle.nim_funcs.proofs.rows.row_of.Goals as goal

pub returns-then-row-rows-clause-cells : goal.returns-then-row-rows-clause-cells
returns-then-row-rows-clause-cells c =
    row_seen c.args.value.now c.cells.result.now c.args.row c.width-width.result c.cells.ensures.rows c.width-width.ensures (omega arith)

pub returns-then-row-rows-clause-whole : goal.returns-then-row-rows-clause-whole
returns-then-row-rows-clause-whole c lt =
    row_whole c.args.value.now c.cells.result.now c.args.row c.width-width.result c.cells.ensures.length c.width-width.ensures lt
