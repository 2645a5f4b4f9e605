use Rattle.std.proofs.Common.{rules, arith}
use Rattle.std.proofs.lemmas.Grind.{common_steps}
use Rattle.nim_data.specs.Lines.{cells_from}
use Rattle.nim_lex.proofs.Turns.{one_more, no_more}
use Rattle.nim_data.proofs.lines.read_row.Goals as goal

pub returns-in_err-cell-clause-cells : goal.returns-in_err-cell-clause-cells
unfolding cells_from
returns-in_err-cell-clause-cells c =
    let e = one_more (λ n. cells_from n c.loop-turn.cells.items c.loop-turn.text.now) _ c.loop-turn._turn c.loop-turn-test.true c.loop-turn.invariant.cells in
    first_of (search rules, grind (arith, common_steps))

pub loop-turn-preserved : goal.loop-turn-preserved
unfolding cells_from
loop-turn-preserved c =
    let e = one_more (λ n. cells_from n c.loop-turn.cells.items c.loop-turn.text.now) _ c.loop-turn._turn c.loop-turn-test.true c.loop-turn.invariant.cells in
    first_of (search rules, grind (arith, common_steps))

pub returns-then-is_bare-clause-cells : goal.returns-then-is_bare-clause-cells
unfolding cells_from
returns-then-is_bare-clause-cells c =
    let e = no_more (λ n. cells_from n c.loop-turn.cells.items c.loop-turn.text.now) _ c.loop-turn._turn c.loop-turn-test.false c.loop-turn.invariant.cells in
    first_of (search rules, grind (arith, common_steps))

pub returns-else-is_bare-clause-cells : goal.returns-else-is_bare-clause-cells
unfolding cells_from
returns-else-is_bare-clause-cells c =
    let e = no_more (λ n. cells_from n c.loop-turn.cells.items c.loop-turn.text.now) _ c.loop-turn._turn c.loop-turn-test.false c.loop-turn.invariant.cells in
    first_of (search rules, grind (arith, common_steps))
