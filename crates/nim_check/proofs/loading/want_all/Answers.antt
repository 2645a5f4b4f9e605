use Rattle.std.proofs.Common.{rules, arith}
use Rattle.std.proofs.lemmas.Grind.{common_steps}
use Rattle.nim_check.proofs.Loads.{wants_more}
use Rattle.nim_check.proofs.loading.want_all.Goals as goal

pub loop-part-preserved : goal.loop-part-preserved
loop-part-preserved c =
    let more = wants_more c.args.v.now c.loop-part.part c.args.v.now.parts c.loop-part-test.true in
    first_of (search rules, grind (arith, common_steps))
