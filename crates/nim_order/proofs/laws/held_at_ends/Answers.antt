use Rattle.nim_order.proofs.Ends.{at_ends}
use Rattle.nim_order.proofs.laws.held_at_ends.Goals as goal

pub returns : goal.returns
returns g c = at_ends _
