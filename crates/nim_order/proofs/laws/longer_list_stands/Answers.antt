use Rattle.nim_order.proofs.Longer.{any_longer}
use Rattle.nim_order.proofs.laws.longer_list_stands.Goals as goal

pub returns : goal.returns
returns g c = any_longer _
