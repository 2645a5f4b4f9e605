-- what is reached of the places so far
use Rattle.std.proofs.Common.{◌≡◌, map}
use Rattle.std.specs.List.{range_with_len}
use Rattle.nim_command.specs.Covered.{is_reached}
use Rattle.nim_plan.proofs.covering.reached.Given as goal

abbrev pub invariant-loop-earlier : goal.invariant-loop-earlier
invariant-loop-earlier l = l.row ≡ map (is_reached l.later l.commands l.later) (range_with_len 0 l.earlier)
