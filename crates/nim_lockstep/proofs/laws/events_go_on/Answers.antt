use Rattle.nim_lockstep.proofs.GoesOn.{go_on}
use Rattle.nim_lockstep.proofs.laws.events_go_on.Goals as goal

pub returns : goal.returns
returns c = go_on
