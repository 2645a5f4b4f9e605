use Rattle.nim_lockstep.proofs.NodesGoOn.{nodes_go_on}
use Rattle.nim_lockstep.proofs.StaysInStep.{stay_in_step}
use Rattle.nim_lockstep.proofs.laws.clusters_stay_in_step.Goals as goal

pub returns : goal.returns
returns c = stay_in_step nodes_go_on
