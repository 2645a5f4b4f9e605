-- what the rest of the turns gives is what the row gives
use Rattle.std.proofs.Common.{◌≡◌, ◌-◌, [], length}
use Rattle.nim_data.specs.Lines.{cells_from}
use Rattle.nim_data.proofs.lines.read_row.Given as goal

abbrev pub invariant-loop-turn : goal.invariant-loop-turn
invariant-loop-turn l = record {
  cells : cells_from l.width [] l.fn.line ≡ cells_from (l.width - l._turn) l.cells.items l.text;
  counted : length l.cells.items ≡ l._turn;
}
