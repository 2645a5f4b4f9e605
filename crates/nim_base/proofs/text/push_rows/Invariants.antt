-- the rows written so far, and those that are left, are all rows
use Rattle.std.proofs.Common.{◌≡◌, ◌++◌, ◌-◌, ◌*◌, ◌≤◌, length}
use Rattle.std.specs.List.{All, flat_map}
use mir.Syntax.{w64}
use mir.Val.{SFits}
use Rattle.nim_base.specs.Text.{row_text}
use Rattle.nim_base.specs.Value.{rows_of}
use Rattle.nim_base.proofs.text.push_rows.Given as goal

abbrev pub invariant-loop : goal.invariant-loop
invariant-loop l = record {
  same : l.text.items ++ flat_map row_text (rows_of (l.rows - l.counter) l.width l.rest) ≡ l.initial.text.items
      ++ flat_map row_text (rows_of l.rows l.width l.cells);
  fit : All (All (SFits w64)) (rows_of (l.rows - l.counter) l.width l.rest) → All (All (SFits w64)) (rows_of l.rows l.width l.cells);
  enough : (l.rows - l.counter) * l.width ≤ length l.rest;
}
