-- what the rest of the turns gives is what the production gives
use Rattle.std.proofs.Common.{◌≡◌, ◌-◌}
use Rattle.nim_parse.specs.Grammar.{some_after, some_from}
use Rattle.nim_parse.proofs.lists.some_after.Given as goal

abbrev pub invariant-loop-turn : goal.invariant-loop-turn
invariant-loop-turn g l = some_after g.T.Item.parser l.fn.first l.initial.cursor ≡ some_from g.T.Item.parser (l._turn-end - l._turn) l.found l.cursor
