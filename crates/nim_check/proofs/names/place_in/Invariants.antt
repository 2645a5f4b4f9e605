use Rattle.std.proofs.Common.{◌≡◌, ◌+◌, drop}
use Rattle.nim_check.specs.Names.{place_in}
use Rattle.nim_check.proofs.names.place_in.Given as goal

abbrev pub invariant-loop-at : goal.invariant-loop-at
invariant-loop-at l = l.at + place_in (drop l.at l.words) l.word ≡ place_in l.words l.word
