-- the numbers so far
use Rattle.std.proofs.Common.{◌≡◌, map, take}
use Rattle.nim_command.specs.Expansion.{param_with}
use Rattle.nim_command.proofs.expansion.params_with.Given as goal

abbrev pub invariant-loop-param : goal.invariant-loop-param
invariant-loop-param l = l.numbers ≡ map (param_with l.args) (take l.param-index l.params)
