use Rattle.std.proofs.Common.{◌≡◌, not}
use Rattle.std.specs.Prelude.{int_lt}
use Rattle.nim_base.specs.Functions.{at_column}
use Rattle.nim_funcs.proofs.Kept.{kept_to}
use Rattle.nim_funcs.proofs.split.split.Given as goal

-- the rows so far that pass
abbrev pub invariant-loop-at : goal.invariant-loop-at
invariant-loop-at l = record {
  below : l.below ≡ kept_to (λ row. int_lt (at_column l.column row) l.pivot) l.value l.at;
  rest : l.rest ≡ kept_to (λ row. not (int_lt (at_column l.column row) l.pivot)) l.value l.at;
}
