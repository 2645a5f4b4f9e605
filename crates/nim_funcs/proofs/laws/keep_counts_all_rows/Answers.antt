use Rattle.nim_funcs.proofs.WholeRows.{keep_counts}
use Rattle.nim_funcs.proofs.laws.keep_counts_all_rows.Goals as goal

pub returns : goal.returns
returns c = record { counts = keep_counts c.args.column c.args.low c.args.high c.args.value.now }
