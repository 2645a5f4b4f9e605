use Rattle.nim_base.proofs.Rows.{count_seen}
use Rattle.nim_base.proofs.value.Value.rows.Goals as goal

pub returns : goal.returns
returns c = count_seen _ _ _ _ c.self.view_is
