use Rattle.std.proofs.Common.{◌≡◌, true, take}
use Rattle.std.specs.List.{list_all}
use Rattle.nim_check.specs.Rules.{is_known}
use Rattle.nim_check.proofs.stages.are_known.Given as goal

abbrev pub invariant-loop-atom : goal.invariant-loop-atom
invariant-loop-atom l = list_all (is_known l.words) (take l.atom-index l.atoms) ≡ true
