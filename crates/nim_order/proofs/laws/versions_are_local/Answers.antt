use Rattle.nim_order.proofs.Versions.{versions_are_local}
use Rattle.nim_order.proofs.laws.versions_are_local.Goals as goal

pub returns : goal.returns
returns c = versions_are_local
