use Rattle.std.proofs.Common.{◌≡◌, take}
use Rattle.nim_check.specs.Made.{block_names}
use Rattle.nim_check.proofs.driver.names_of_blocks.Given as goal

abbrev pub invariant-loop-block : goal.invariant-loop-block
invariant-loop-block l = l.names ≡ block_names (take l.block-index l.blocks)
