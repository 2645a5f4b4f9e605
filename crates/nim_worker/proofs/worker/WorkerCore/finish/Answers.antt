use Rattle.nim_worker.proofs.Finished.{outs_good}
use Rattle.nim_worker.proofs.FirstDone.{both_ok}
use Rattle.nim_worker.proofs.worker.WorkerCore.finish.Goals as goal

pub returns-clause-good : goal.returns-clause-good
returns-clause-good c = λ job history whole handed stands.
    both_ok c.end-finished.result (λ after outs gave. outs_good job c.args.self.now c.end-finished.new.self c.args.batch history outs.items whole handed after
    gave)
    (c.end-finished.ensures.stands history stands) (c.end-finished.ensures.outs history stands)
