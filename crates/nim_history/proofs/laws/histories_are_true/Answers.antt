use Rattle.nim_history.proofs.Law.{histories_are_true}
use Rattle.nim_history.proofs.laws.histories_are_true.Goals as goal

pub returns : goal.returns
returns c = histories_are_true
