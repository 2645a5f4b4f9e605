use Rattle.nim_funcs.proofs.WholeRows.{splits_rows}
use Rattle.nim_funcs.proofs.laws.split_keeps_all_rows.Goals as goal

pub returns : goal.returns
returns c = record { splits = splits_rows c.args.column c.args.pivot c.args.value.now }
