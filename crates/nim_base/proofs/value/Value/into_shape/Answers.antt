use Rattle.std.proofs.Common.{arith}
use Rattle.nim_base.proofs.FittedRows.{fitted_length, fitted_is}
use Rattle.nim_base.proofs.value.Value.into_shape.Goals as goal

pub from_cells-requires-clause-whole : goal.from_cells-requires-clause-whole
from_cells-requires-clause-whole c = fitted_length _ _ _ _ _ c.in_ok-cells.ensures

pub returns : goal.returns
returns c =
    fitted_is c.args.self c.args.shape _ _ _ _ _ c.into_cells.ensures.rows c.width-width.ensures (omega (arith, c.rows.ensures, c.min-rows.ensures))
    c.in_ok-cells.ensures c.from_cells.ensures
