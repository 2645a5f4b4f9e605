use Rattle.nim_base.proofs.Rows.{cells_seen, rows_seen, length_seen}
use Rattle.nim_base.proofs.value.Value.into_cells.Goals as goal

pub returns-clause-cells : goal.returns-clause-cells
returns-clause-cells c = cells_seen _ _ _ _ c.self.view_is c.self.invariant.1

pub returns-clause-rows : goal.returns-clause-rows
returns-clause-rows c = rows_seen _ _ _ _ c.self.view_is

pub returns-clause-length : goal.returns-clause-length
returns-clause-length c = length_seen _ _ _ _ c.self.view_is c.self.invariant.1
