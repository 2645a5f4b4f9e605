use Rattle.nim_order.proofs.Sessions.{orders_cover}
use Rattle.nim_order.proofs.laws.orders_cover.Goals as goal

pub returns : goal.returns
returns c = orders_cover
