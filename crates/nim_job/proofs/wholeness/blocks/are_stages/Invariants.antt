use Rattle.std.proofs.Common.{◌≡◌, true, take}
use Rattle.std.specs.List.{list_all}
use Rattle.nim_job.specs.Whole.{is_stage}
use Rattle.nim_job.proofs.wholeness.blocks.are_stages.Given as goal

abbrev pub invariant-loop-stage : goal.invariant-loop-stage
invariant-loop-stage l = list_all (is_stage l.vars l.args) (take l.stage-index l.stages) ≡ true
