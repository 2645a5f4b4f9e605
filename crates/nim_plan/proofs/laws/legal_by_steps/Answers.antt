use Rattle.nim_plan.proofs.Steps.{by_steps}
use Rattle.nim_plan.proofs.laws.legal_by_steps.Goals as goal

pub returns : goal.returns
returns c = by_steps
