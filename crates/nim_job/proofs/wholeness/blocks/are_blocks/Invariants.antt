use Rattle.std.proofs.Common.{◌≡◌, true, take}
use Rattle.std.specs.List.{list_all}
use Rattle.nim_job.specs.Whole.{is_whole_block}
use Rattle.nim_job.proofs.wholeness.blocks.are_blocks.Given as goal

abbrev pub invariant-loop-block : goal.invariant-loop-block
invariant-loop-block l = list_all (is_whole_block l.vars) (take l.block-index l.blocks) ≡ true
