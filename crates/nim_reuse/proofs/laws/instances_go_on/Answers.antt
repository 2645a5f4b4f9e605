use Rattle.nim_reuse.proofs.GoesOn.{instances_go_on}
use Rattle.nim_reuse.proofs.laws.instances_go_on.Goals as goal

pub returns : goal.returns
returns c = instances_go_on
