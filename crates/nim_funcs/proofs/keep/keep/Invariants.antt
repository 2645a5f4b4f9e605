use Rattle.std.proofs.Common.{◌≡◌, ◌&&◌}
use Rattle.std.specs.Prelude.{int_le}
use Rattle.nim_base.specs.Functions.{at_column}
use Rattle.nim_funcs.proofs.Kept.{kept_to}
use Rattle.nim_funcs.proofs.keep.keep.Given as goal

-- the rows so far that pass
abbrev pub invariant-loop-at : goal.invariant-loop-at
invariant-loop-at l = l.rows ≡ kept_to (λ row. int_le l.low (at_column l.column row) && int_le (at_column l.column row) l.high) l.value l.at
