use Rattle.nim_funcs.proofs.AnyOrder.{sum_any_order, total_any_order}
use Rattle.nim_funcs.proofs.laws.order_is_free.Goals as goal

pub returns-clause-total : goal.returns-clause-total
returns-clause-total c = total_any_order c.args.reads.now c.args.others.now

pub returns-clause-sum : goal.returns-clause-sum
returns-clause-sum c = sum_any_order c.args.reads.now c.args.others.now
