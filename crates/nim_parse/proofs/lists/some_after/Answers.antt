use Rattle.std.proofs.Common.{rules, arith}
use Rattle.std.proofs.lemmas.Grind.{common_steps}
use Rattle.nim_parse.specs.Grammar.{some_from}
use Rattle.nim_lex.proofs.Turns.{one_more, no_more}
use Rattle.nim_parse.proofs.lists.some_after.Goals as goal

pub returns-then-ends : goal.returns-then-ends
unfolding some_from
returns-then-ends g c =
    let item = g.T.Item.parser in
    let e = one_more (λ n. some_from item n c.loop-turn.found c.loop-turn.cursor) _ c.loop-turn._turn c.loop-turn-test.true c.loop-turn.invariant in
    first_of (search rules, grind (arith, common_steps))

pub returns-in_err-read : goal.returns-in_err-read
unfolding some_from
returns-in_err-read g c =
    let item = g.T.Item.parser in
    let e = one_more (λ n. some_from item n c.loop-turn.found c.loop-turn.cursor) _ c.loop-turn._turn c.loop-turn-test.true c.loop-turn.invariant in
    first_of (search rules, grind (arith, common_steps))

pub loop-turn-preserved : goal.loop-turn-preserved
unfolding some_from
loop-turn-preserved g c =
    let item = g.T.Item.parser in
    let e = one_more (λ n. some_from item n c.loop-turn.found c.loop-turn.cursor) _ c.loop-turn._turn c.loop-turn-test.true c.loop-turn.invariant in
    first_of (search rules, grind (arith, common_steps))

pub returns : goal.returns
unfolding some_from
returns g c =
    let item = g.T.Item.parser in
    let e = no_more (λ n. some_from item n c.loop-turn.found c.loop-turn.cursor) _ c.loop-turn._turn c.loop-turn-test.false c.loop-turn.invariant in
    first_of (search rules, grind (arith, common_steps))
