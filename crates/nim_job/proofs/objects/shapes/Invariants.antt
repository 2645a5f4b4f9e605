-- the shapes of the variables so far
use Rattle.std.proofs.Common.{◌≡◌, take}
use Rattle.nim_job.specs.Objects.{shapes_of}
use Rattle.nim_job.proofs.objects.shapes.Given as goal

abbrev pub invariant-loop-var : goal.invariant-loop-var
invariant-loop-var l = l.shapes.items ≡ shapes_of (take l.var-index l.var-items)
