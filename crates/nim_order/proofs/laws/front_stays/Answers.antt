use Rattle.nim_order.proofs.Longer.{front_covered, front_stays}
use Rattle.nim_order.proofs.laws.front_stays.Goals as goal

pub returns-clause-commands : goal.returns-clause-commands
returns-clause-commands c = front_stays

pub returns-clause-covered : goal.returns-clause-covered
returns-clause-covered c = front_covered
