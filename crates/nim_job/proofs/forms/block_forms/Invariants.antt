-- the tasks of the stages so far
use Rattle.std.proofs.Common.{◌≡◌, take}
use Rattle.nim_job.specs.Tasks.{forms_of}
use Rattle.nim_job.proofs.forms.block_forms.Given as goal

abbrev pub invariant-loop-stage : goal.invariant-loop-stage
invariant-loop-stage l = l.forms.items ≡ forms_of l.job.vars (take l.stage-index l.stage-items)
