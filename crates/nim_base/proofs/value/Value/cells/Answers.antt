use Rattle.std.proofs.Common.{arith, length, ap, sym, ◌∙◌}
use Rattle.nim_base.specs.Value.{rows_of}
use Rattle.nim_base.proofs.Rows.{cells_seen, rows_seen, length_seen, shaped_seen}
use Rattle.nim_base.proofs.value.Value.cells.Goals as goal

pub returns-clause-cells : goal.returns-clause-cells
returns-clause-cells c = c.as_slice.ensures.value ∙ cells_seen _ _ _ _ c.self.view_is c.self.invariant.1

pub returns-clause-rows : goal.returns-clause-rows
returns-clause-rows c =
    rows_seen _ _ _ _ c.self.view_is ∙ ap (rows_of (length c.args.self.now.rows) c.args.self.now.width) (sym c.as_slice.ensures.value)

pub returns-clause-length : goal.returns-clause-length
returns-clause-length c = ap length c.as_slice.ensures.value ∙ length_seen _ _ _ _ c.self.view_is c.self.invariant.1

pub returns-clause-shaped : goal.returns-clause-shaped
returns-clause-shaped c = shaped_seen _ _ _ _ c.self.view_is c.self.invariant.0 c.self.invariant.1 (omega arith)
