use Rattle.std.proofs.Common.{◌≡◌, false, bytes_eq, take}
use Rattle.std.specs.List.{list_any}
use Rattle.nim_check.proofs.names.stands_in.Given as goal

abbrev pub invariant-loop-text : goal.invariant-loop-text
invariant-loop-text l = list_any (λ text. bytes_eq text.now l.word) (take l.text-index l.texts) ≡ false
