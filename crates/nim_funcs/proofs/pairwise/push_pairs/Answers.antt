use Rattle.std.proofs.Common.{◌∙◌, ap₂}
use mir.Syntax.{w64}
use mir.Val.{to_z, of_z}
use Rattle.std.proofs.lemmas.Int.{to_z-of_z}
use Rattle.nim_base.specs.Functions.{cell_at}
use Rattle.nim_funcs.proofs.CellRows.{row_step}
use Rattle.nim_funcs.proofs.pairwise.push_pairs.Goals as goal

pub loop-column-preserved : goal.loop-column-preserved
loop-column-preserved g c =
    row_step c.args.cells.now.items c.loop-column.cells.items c.push.new.self.items
    (λ column. g.P.Pairing.pair (cell_at c.args.first.now column) (cell_at c.args.second.now column))
    c.loop-column.column (to_z w64 (of_z w64 c.of_cells.result)) c.loop-column.invariant c.in_ok-push.ensures.items
    (to_z-of_z w64 c.of_cells.result (record { sfits = c.of_cells.type_inv })
    ∙ c.of_cells.ensures
    ∙ ap₂ g.P.Pairing.pair
    (to_z-of_z w64 c.cell_or_zero.result (record { sfits = c.cell_or_zero.type_inv }) ∙ c.cell_or_zero.ensures)
    (to_z-of_z w64 c.cell_or_zero-in-loop-column.result (record { sfits = c.cell_or_zero-in-loop-column.type_inv }) ∙ c.cell_or_zero-in-loop-column.ensures))
