use Rattle.std.proofs.Common.{◌≡◌, false, take}
use Rattle.std.specs.List.{list_any}
use Rattle.nim_check.specs.Names.{is_in, reserved}
use Rattle.nim_check.proofs.names.has_reserved.Given as goal

abbrev pub invariant-loop-word : goal.invariant-loop-word
invariant-loop-word l = list_any (is_in reserved) (take l.word-index l.words) ≡ false
