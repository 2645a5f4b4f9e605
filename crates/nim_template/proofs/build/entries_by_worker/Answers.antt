use Rattle.nim_template.proofs.ByWorker.{moved}
use Rattle.nim_template.proofs.build.entries_by_worker.Goals as goal

pub loop-worker-preserved : goal.loop-worker-preserved
loop-worker-preserved c =
    moved c.args.workers c.loop-worker.yielded c.in-Some.worker c.in-Some.entry c.loop-worker.lists.items c.push_own.new.lists.items
    c.loop-worker.invariant c.in_ok-push_own.ensures
