use Rattle.std.proofs.Common.{◌+◌, ◌<◌, length, rules, arith, ◌∙◌, ap, sym}
use Rattle.std.proofs.lemmas.Grind.{common_steps}
use Rattle.nim_lex.proofs.Counts.{last_ended, last_open}
use Rattle.nim_lex.proofs.lines.line_count.Goals as goal

pub returns-then-source-eq10 : goal.returns-then-source-eq10
returns-then-source-eq10 c =
    let some : 0 < length c.args.source.now = first_of (search rules, grind (arith, common_steps)) in
    c.newlines-ended.ensures.count ∙ sym (last_ended c.args.source.now some c.if-source-eq10.true)

pub returns-else-source-eq10 : goal.returns-else-source-eq10
returns-else-source-eq10 c =
    let some : 0 < length c.args.source.now = first_of (search rules, grind (arith, common_steps)) in
    ap (λ n. n + 1) c.newlines-ended.ensures.count ∙ sym (last_open c.args.source.now some c.if-source-eq10.false)
