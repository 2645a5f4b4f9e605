use Rattle.nim_funcs.proofs.GroupLaws.{gathers_rows}
use Rattle.nim_funcs.proofs.laws.group_gathers_all_rows.Goals as goal

pub returns : goal.returns
returns c = record { gathers = gathers_rows c.args.column c.args.summed c.args.value.now }
