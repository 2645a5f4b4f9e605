-- what the rest of the turns gives is what the production gives
use Rattle.std.proofs.Common.{◌≡◌, ◌-◌}
use Rattle.nim_parse.specs.Grammar.{reads, reads_from}
use Rattle.nim_parse.proofs.parts.reads.Given as goal

abbrev pub invariant-loop-turn : goal.invariant-loop-turn
invariant-loop-turn l = reads l.initial.cursor ≡ reads_from (l._turn-end - l._turn) l.found l.cursor
