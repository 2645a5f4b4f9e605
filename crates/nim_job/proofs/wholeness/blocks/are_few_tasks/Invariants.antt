use Rattle.std.proofs.Common.{◌≡◌, ◌≤◌, take}
use Rattle.std.specs.List.{sum_by}
use Rattle.nim_job.specs.Tasks.{task_count}
use Rattle.nim_job.proofs.wholeness.blocks.are_few_tasks.Given as goal

abbrev pub invariant-loop-stage : goal.invariant-loop-stage
invariant-loop-stage l = record {
  sum : l.tasks ≡ sum_by (task_count l.vars) (take l.stage-index l.stages);
  below : l.tasks ≤ 1024;
}
