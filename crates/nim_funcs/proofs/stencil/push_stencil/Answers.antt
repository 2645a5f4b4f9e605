use Rattle.std.proofs.Common.{◌∙◌}
use mir.Syntax.{w64}
use mir.Val.{to_z, of_z}
use Rattle.std.proofs.lemmas.Int.{to_z-of_z}
use Rattle.nim_base.specs.Functions.{stencil_cell}
use Rattle.nim_funcs.proofs.CellRows.{row_step}
use Rattle.nim_funcs.proofs.stencil.push_stencil.Goals as goal

pub loop-column-preserved : goal.loop-column-preserved
loop-column-preserved c =
    row_step c.args.cells.now.items c.loop-column.cells.items c.push.new.self.items
    (stencil_cell (to_z w64 (of_z w64 c.args.factor)) (to_z w64 (of_z w64 c.args.divisor)) c.args.up.now c.args.row.now c.args.down.now)
    c.loop-column.column (to_z w64 (of_z w64 c.new_cell.result)) c.loop-column.invariant c.in_ok-push.ensures.items
    (to_z-of_z w64 c.new_cell.result (record { sfits = c.new_cell.type_inv }) ∙ c.new_cell.ensures)
