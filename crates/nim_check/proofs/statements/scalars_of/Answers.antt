use Rattle.std.proofs.Common.{◌<◌, length, rules, arith}
use Rattle.std.proofs.lemmas.Grind.{common_steps}
use Rattle.nim_check.proofs.Refused.{scope_later, statements_later}
use Rattle.nim_check.proofs.statements.scalars_of.Goals as goal

pub loop-at-preserved : goal.loop-at-preserved
loop-at-preserved c =
    let tree = c.args.sections.now in
    let there : c.loop-at.at < length tree.statements = first_of (search rules, grind (arith, common_steps)) in
    record {
      places = first_of (search rules, grind (arith, common_steps, statements_later));
      scope = first_of (search rules, grind (arith, common_steps, scope_later));
      few = first_of (search rules, grind (arith, common_steps));
      depth = first_of (search rules, grind (arith, common_steps));
    }
