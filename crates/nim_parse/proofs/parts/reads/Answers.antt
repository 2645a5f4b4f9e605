use Rattle.std.proofs.Common.{rules, arith}
use Rattle.std.proofs.lemmas.Grind.{common_steps}
use Rattle.nim_parse.specs.Grammar.{reads, reads_from}
use Rattle.nim_lex.proofs.Turns.{one_more, no_more}
use Rattle.nim_parse.proofs.parts.reads.Goals as goal

pub returns-then-eat : goal.returns-then-eat
unfolding reads_from
returns-then-eat c =
    let e = one_more (λ n. reads_from n c.loop-turn.found c.loop-turn.cursor) _ c.loop-turn._turn c.loop-turn-test.true c.loop-turn.invariant in
    first_of (search rules, grind (arith, common_steps))

pub returns-in_err-reference : goal.returns-in_err-reference
unfolding reads_from
returns-in_err-reference c =
    let e = one_more (λ n. reads_from n c.loop-turn.found c.loop-turn.cursor) _ c.loop-turn._turn c.loop-turn-test.true c.loop-turn.invariant in
    first_of (search rules, grind (arith, common_steps))

pub loop-turn-preserved : goal.loop-turn-preserved
unfolding reads_from
loop-turn-preserved c =
    let e = one_more (λ n. reads_from n c.loop-turn.found c.loop-turn.cursor) _ c.loop-turn._turn c.loop-turn-test.true c.loop-turn.invariant in
    first_of (search rules, grind (arith, common_steps))

pub returns : goal.returns
unfolding reads_from
returns c =
    let e = no_more (λ n. reads_from n c.loop-turn.found c.loop-turn.cursor) _ c.loop-turn._turn c.loop-turn-test.false c.loop-turn.invariant in
    first_of (search rules, grind (arith, common_steps))

pub loop-turn-init : goal.loop-turn-init
unfolding reads
loop-turn-init c = first_of (search rules, grind (arith, common_steps))
