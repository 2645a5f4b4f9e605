-- the rows fitted so far, and the fitted rows of the cells that are left, are all fitted rows
use Rattle.std.proofs.Common.{◌≡◌, ◌++◌, ◌-◌, ◌*◌, ◌≤◌, length}
use Rattle.std.specs.List.{flat_map}
use Rattle.nim_base.specs.Value.{fit_row, rows_of}
use Rattle.nim_base.proofs.fitting.fit_cells.Given as goal

abbrev pub invariant-loop : goal.invariant-loop
invariant-loop l = record {
  same : l.made.items ++ flat_map (fit_row l.to) (rows_of (l.rows - l.counter) l.width l.rest) ≡ flat_map (fit_row l.to) (rows_of l.rows l.width l.cells);
  enough : (l.rows - l.counter) * l.width ≤ length l.rest;
}
