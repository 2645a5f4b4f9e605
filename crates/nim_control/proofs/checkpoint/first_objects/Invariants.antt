-- what the objects of the variables so far hold
use Rattle.std.proofs.Common.{◌≡◌, map, take}
use Rattle.nim_job.specs.Objects.{initial_values}
use Rattle.nim_control.specs.Checkpoints.{at_first}
use Rattle.nim_control.proofs.checkpoint.first_objects.Given as goal

abbrev pub invariant-loop-var : goal.invariant-loop-var
invariant-loop-var l = l.objects.items ≡ map at_first (initial_values (take l.var-index l.vars))
