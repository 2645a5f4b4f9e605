use Rattle.nim_control.proofs.Reused.{again_given}
use Rattle.nim_control.proofs.block.give_again.Goals as goal

pub reuse-requires-clause-may : goal.reuse-requires-clause-may
reuse-requires-clause-may c = c.requires.decided c.args.at.block

pub returns-clause-given : goal.returns-clause-given
returns-clause-given c = λ d forms is.
    again_given d c.args.at forms c.args.args.now c.args.orders.now.items c.reuse.new.orders.items c.args.sites.now c.reuse.new.self c.args.decisions.now
    c.reuse.new.decisions c.args.summary.now c.count_reused.new.self c.in_ok-reused.reused c.whole.result c.in_ok-reused.ensures.orders
    c.in_ok-reused.ensures.map c.in_ok-reused.ensures.decisions c.in_ok-reused.ensures.reused c.count_reused.ensures c.whole.ensures is
