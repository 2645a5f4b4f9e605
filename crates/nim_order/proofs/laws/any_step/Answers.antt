use Rattle.nim_order.proofs.AnyStep.{any_step}
use Rattle.nim_order.proofs.laws.any_step.Goals as goal

pub returns : goal.returns
returns g c = any_step _
