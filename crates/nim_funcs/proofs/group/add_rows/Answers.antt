use Rattle.std.proofs.Common.{◌∙◌, arith, to_z, of_z}
use mir.Syntax.{w64}
use Rattle.std.proofs.lemmas.Int.{to_z-of_z}
use Rattle.nim_funcs.proofs.Grouping.{row_added}
use Rattle.nim_funcs.proofs.group.add_rows.Goals as goal

pub loop-at-preserved : goal.loop-at-preserved
loop-at-preserved c =
    row_added (to_z w64 (of_z w64 c.args.column)) (to_z w64 (of_z w64 c.args.summed))
    c.args.sums.now.entries c.loop-at.sums.entries c.add_summand.new.sums.entries c.args.value.now.rows c.loop-at.at c.row_of-row.result.now
    (to_z w64 (of_z w64 c.cell_in_column.result)) (to_z w64 (of_z w64 c.cell_in_column-in-loop-at.result))
    (omega arith) c.loop-at.invariant c.row_of-row.ensures.cells
    (to_z-of_z w64 c.cell_in_column.result (record { sfits = c.cell_in_column.type_inv }) ∙ c.cell_in_column.ensures)
    (to_z-of_z w64 c.cell_in_column-in-loop-at.result (record { sfits = c.cell_in_column-in-loop-at.type_inv }) ∙ c.cell_in_column-in-loop-at.ensures)
    c.in_ok-add_summand.ensures
