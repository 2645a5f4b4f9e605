-- the halves of the workers so far
use Rattle.std.proofs.Common.{◌≡◌, [], map}
use Rattle.nim_command.specs.Ruled.{entries_by_rule}
use Rattle.nim_template.proofs.build.halves_of.Given as goal

abbrev pub invariant-loop-own : goal.invariant-loop-own
invariant-loop-own l = l.halves.items ≡ map (entries_by_rule []) l.yielded
