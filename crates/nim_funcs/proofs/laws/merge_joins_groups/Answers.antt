use Rattle.nim_funcs.proofs.GroupLaws.{merge_joins, merge_keeps}
use Rattle.nim_funcs.proofs.laws.merge_joins_groups.Goals as goal

pub returns-clause-one : goal.returns-clause-one
returns-clause-one c = merge_keeps c.args.column c.args.summed c.args.value.now

pub returns-clause-all : goal.returns-clause-all
returns-clause-all c = merge_joins c.args.column c.args.summed c.args.values.now
