use Rattle.nim_history.proofs.GoesOn.{history_goes_on, truth_goes_on}
use Rattle.nim_history.proofs.laws.history_goes_on.Goals as goal

pub returns-clause-history : goal.returns-clause-history
returns-clause-history c = history_goes_on

pub returns-clause-truth : goal.returns-clause-truth
returns-clause-truth c = truth_goes_on
