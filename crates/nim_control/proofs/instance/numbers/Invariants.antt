-- the numbers so far
use Rattle.std.proofs.Common.{◌≡◌, map, take}
use Rattle.nim_job.specs.Tasks.{param_of}
use Rattle.nim_control.proofs.instance.numbers.Given as goal

abbrev pub invariant-loop-param : goal.invariant-loop-param
invariant-loop-param l = l.numbers ≡ map (param_of l.args) (take l.param-index l.params)
