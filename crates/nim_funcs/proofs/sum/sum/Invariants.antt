use Rattle.std.proofs.Common.{take}
use Rattle.nim_base.specs.Functions.{read_values}
use Rattle.nim_funcs.specs.Sums.{IsSumOf}
use Rattle.nim_funcs.proofs.sum.sum.Given as goal

-- the sum of the reads so far
abbrev pub invariant-loop-at : goal.invariant-loop-at
invariant-loop-at l = IsSumOf (read_values l.values (take l.at l.reads)) l.sums
