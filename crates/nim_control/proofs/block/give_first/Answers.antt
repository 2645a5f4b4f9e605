use Rattle.nim_control.proofs.Reused.{first_given, first_usable, to_run, usable_still}
use Rattle.nim_control.proofs.block.give_first.Goals as goal

pub returns-in_err-flight-clause-decided : goal.returns-in_err-flight-clause-decided
returns-in_err-flight-clause-decided c =
    usable_still c.args.sites.now c.give_tasks.new.sites c.args.decisions.now c.give_tasks.ensures.stay c.requires.decided

pub returns-in_err-recorded-clause-decided : goal.returns-in_err-recorded-clause-decided
returns-in_err-recorded-clause-decided c =
    usable_still c.args.sites.now c.give_tasks.new.sites c.args.decisions.now c.give_tasks.ensures.stay c.requires.decided

pub returns-clause-given : goal.returns-clause-given
returns-clause-given c = λ d is.
    let runs = to_run d c.args.at c.args.forms.now c.args.sites.now c.args.decisions.now c.args.summary.now is in
    first_given d c.args.at c.args.forms.now c.in_ok-recorded.recorded c.args.args.now c.args.orders.now.items c.give_tasks.new.orders.items
    c.args.sites.now c.give_tasks.new.sites c.args.decisions.now c.record.new.self c.args.summary.now c.count_single.new.self c.in_ok-flight.flight
    (c.in_ok-flight.ensures.given d runs) (c.in_ok-flight.ensures.flight d runs) c.in_ok-recorded.ensures c.record.ensures c.count_single.ensures is

pub returns-clause-decided : goal.returns-clause-decided
returns-clause-decided c =
    first_usable c.args.sites.now c.give_tasks.new.sites c.args.decisions.now c.record.new.self c.args.at.block c.args.args.now c.args.forms.now
    c.in_ok-recorded.recorded c.give_tasks.ensures.stay c.requires.decided c.requires.few c.requires.fit c.in_ok-recorded.ensures c.record.ensures
