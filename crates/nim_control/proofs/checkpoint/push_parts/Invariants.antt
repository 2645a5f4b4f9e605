-- what the parts so far hold
use Rattle.std.proofs.Common.{◌≡◌, ℕ, ◌++◌, map}
use Rattle.std.specs.List.{range_with_len}
use Rattle.nim_control.specs.Checkpoints.{at_first, first_value}
use Rattle.nim_control.proofs.checkpoint.push_parts.Given as goal

abbrev pub invariant-loop-part : goal.invariant-loop-part
invariant-loop-part l =
    l.objects.items
    ≡ l.initial.objects.items ++ map (λ (part : ℕ). at_first (first_value l.var.shape l.var.init part)) (range_with_len 0 l.part)
