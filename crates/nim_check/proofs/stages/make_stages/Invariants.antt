use Rattle.std.proofs.Common.{◌≡◌, ◌≤◌, true, map, take, drop, [], length}
use Rattle.std.specs.List.{list_all, sum_by}
use Rattle.nim_job.specs.Tasks.{task_count}
use Rattle.nim_job.specs.Whole.{is_stage}
use Rattle.nim_check.specs.Made.{stage_of, var_names}
use Rattle.nim_check.specs.Refusals.{first_refusal}
use Rattle.nim_check.specs.DriverPlaces.{places_of_stages}
use Rattle.nim_check.proofs.stages.make_stages.Given as goal

abbrev pub invariant-loop-at : goal.invariant-loop-at
invariant-loop-at l = record {
  places : first_refusal (places_of_stages l.vars l.block (take l.at l.stages) (drop l.at l.stages))
      ≡ first_refusal (places_of_stages l.vars l.block [] l.stages);
  made : l.made ≡ map (stage_of (var_names l.vars) l.block.arguments) (take l.at l.stages);
  whole : list_all (is_stage l.job_vars (length l.block.arguments)) l.made ≡ true;
  tasks : l.tasks ≡ sum_by (task_count l.job_vars) l.made;
  few : l.tasks ≤ 1024;
}
