use Rattle.std.proofs.Common.{true}
use Rattle.nim_reuse.specs.Decisions.{is_recorded}
use Rattle.nim_control.proofs.Reused.{given_by}
use Rattle.nim_control.proofs.block.give_block.Goals as goal

pub returns-then-is_recorded-clause-given : goal.returns-then-is_recorded-clause-given
returns-then-is_recorded-clause-given c =
    given_by c.give_again.result true (is_recorded c.args.decisions.now c.args.at.block) c.args.at c.args.forms.now c.args.args.now c.args.orders.now.items
    c.give_again.new.orders.items c.args.sites.now c.give_again.new.sites c.args.decisions.now c.give_again.new.decisions c.args.summary.now
    c.give_again.new.summary c.if-is_recorded.ensures
    c.give_again.ensures.given
