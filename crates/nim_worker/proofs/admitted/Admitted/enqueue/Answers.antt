use Rattle.nim_order.specs.Progress.{is_one_of}
use Rattle.nim_worker.proofs.admitted.Admitted.enqueue.Goals as goal

pub returns-in-Ok-clause-queue : goal.returns-in-Ok-clause-queue
returns-in-Ok-clause-queue c = λ groups ran next stands same. c.in-Ok.ensures.ok groups (is_one_of ran) next stands same
