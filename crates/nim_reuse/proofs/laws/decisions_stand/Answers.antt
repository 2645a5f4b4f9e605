use Rattle.nim_reuse.proofs.Stands.{decisions_stand}
use Rattle.nim_reuse.proofs.laws.decisions_stand.Goals as goal

pub returns : goal.returns
returns c = decisions_stand
