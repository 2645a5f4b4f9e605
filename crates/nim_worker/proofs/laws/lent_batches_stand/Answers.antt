use Rattle.nim_worker.proofs.Lent as lent
use Rattle.nim_worker.proofs.laws.lent_batches_stand.Goals as goal

pub returns : goal.returns
returns c = lent.lent_batches_stand
