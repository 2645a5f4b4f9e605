use Rattle.nim_lockstep.proofs.Few.{are_few}
use Rattle.nim_lockstep.proofs.NodesGoOn.{nodes_go_on}
use Rattle.nim_lockstep.proofs.laws.events_are_few.Goals as goal

pub returns : goal.returns
returns c = are_few nodes_go_on
