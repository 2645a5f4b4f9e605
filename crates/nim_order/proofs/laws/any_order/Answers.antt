use Rattle.nim_order.proofs.Orders.{any_order}
use Rattle.nim_order.proofs.laws.any_order.Goals as goal

pub returns : goal.returns
returns g c = any_order _
