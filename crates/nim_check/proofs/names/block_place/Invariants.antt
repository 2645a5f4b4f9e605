use Rattle.std.proofs.Common.{◌≡◌, ◌+◌, drop}
use Rattle.nim_check.specs.Made.{block_names}
use Rattle.nim_check.specs.Names.{place_in}
use Rattle.nim_check.proofs.names.block_place.Given as goal

abbrev pub invariant-loop-at : goal.invariant-loop-at
invariant-loop-at l = l.at + place_in (block_names (drop l.at l.blocks)) l.word ≡ place_in (block_names l.blocks) l.word
