use Rattle.std.proofs.Common.{◌≡◌, map, take}
use Rattle.nim_check.specs.Made.{param_of}
use Rattle.nim_check.proofs.stages.params_of.Given as goal

abbrev pub invariant-loop-parameter : goal.invariant-loop-parameter
invariant-loop-parameter l = l.made ≡ map (param_of l.arguments) (take l.parameter-index l.parameters)
