use Rattle.nim_order.proofs.Ends.{never_stuck}
use Rattle.nim_order.proofs.laws.never_stuck.Goals as goal

pub returns : goal.returns
returns c = never_stuck
