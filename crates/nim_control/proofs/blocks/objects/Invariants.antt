-- the objects of the variables so far
use Rattle.std.proofs.Common.{◌≡◌, take}
use Rattle.nim_job.specs.Objects.{objects_of}
use Rattle.nim_control.proofs.blocks.objects.Given as goal

abbrev pub invariant-loop-var : goal.invariant-loop-var
invariant-loop-var l = l.objects ≡ objects_of (take l.var-index l.vars)
