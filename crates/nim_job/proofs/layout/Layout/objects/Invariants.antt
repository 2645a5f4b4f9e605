-- the objects so far
use Rattle.std.proofs.Common.{◌≡◌, map, take}
use Rattle.nim_job.specs.Tasks.{object_meant}
use Rattle.nim_job.proofs.layout.Layout.objects.Given as goal

abbrev pub invariant-loop-reference : goal.invariant-loop-reference
invariant-loop-reference l = l.objects ≡ map (object_meant l.self.vars.now l.index) (take l.reference-index l.references)
