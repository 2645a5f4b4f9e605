use Rattle.nim_reuse.proofs.Short.{later_instances_are_short}
use Rattle.nim_reuse.proofs.laws.later_instances_are_short.Goals as goal

pub returns : goal.returns
returns c = later_instances_are_short
