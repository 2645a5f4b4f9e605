-- each of the places so far is kept in order
use Rattle.std.proofs.Common.{◌≡◌, true}
use Rattle.std.specs.List.{list_all, range_with_len}
use Rattle.nim_command.specs.Covered.{is_kept_in_order}
use Rattle.nim_plan.proofs.covering.keeps_order.Given as goal

abbrev pub invariant-loop-earlier : goal.invariant-loop-earlier
invariant-loop-earlier l = list_all (is_kept_in_order l.commands l.later) (range_with_len 0 l.earlier) ≡ true
