-- nothing of the blocks so far
use Rattle.std.proofs.Common.{◌≡◌, replicate}
use Rattle.nim_reuse.specs.declared.decided.Decided.TheVariants.{Open}
use Rattle.nim_reuse.proofs.decisions.DecisionMap.new.Given as goal

abbrev pub invariant-loop : goal.invariant-loop
invariant-loop l = l.open.items ≡ replicate l.counter Open
