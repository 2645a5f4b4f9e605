use Rattle.std.proofs.Common.{◌≡◌, ◌≤◌, true, map, take, drop, []}
use Rattle.std.specs.List.{list_all}
use Rattle.nim_job.specs.Whole.{is_whole_block}
use Rattle.nim_check.specs.Made.{block_of, var_names}
use Rattle.nim_check.specs.Refusals.{first_refusal}
use Rattle.nim_check.specs.DriverPlaces.{places_of_blocks}
use Rattle.nim_check.proofs.blocks.make_blocks.Given as goal

abbrev pub invariant-loop-at : goal.invariant-loop-at
invariant-loop-at l = record {
  places : first_refusal (places_of_blocks l.vars (take l.at l.blocks) (drop l.at l.blocks)) ≡ first_refusal (places_of_blocks l.vars [] l.blocks);
  made : l.made ≡ map (block_of (var_names l.vars)) (take l.at l.blocks);
  whole : list_all (is_whole_block l.job_vars) l.made ≡ true;
  few : l.at ≤ 32;
}
