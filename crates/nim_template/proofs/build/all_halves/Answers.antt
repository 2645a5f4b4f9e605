use Rattle.std.proofs.lemmas.Result.{IfOk-weaker}
use Rattle.nim_template.proofs.ByWorker.{halves_made}
use Rattle.nim_template.proofs.build.all_halves.Goals as goal

pub returns : goal.returns
returns c =
    IfOk-weaker c.halves_of.result _ _ (λ halves is. halves_made c.args.workers c.args.entries.items halves.items c.in_ok-lists.lists.items is c.in_ok-lists.ensures)
    c.halves_of.ensures
