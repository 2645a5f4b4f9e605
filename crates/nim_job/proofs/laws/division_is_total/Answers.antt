use Rattle.nim_job.proofs.Division.{by_zero, natural, of_least}
use Rattle.nim_job.proofs.laws.division_is_total.Goals as goal

pub returns-clause-zero : goal.returns-clause-zero
returns-clause-zero c = by_zero

pub returns-clause-least : goal.returns-clause-least
returns-clause-least c = of_least

pub returns-clause-natural : goal.returns-clause-natural
returns-clause-natural c = natural
