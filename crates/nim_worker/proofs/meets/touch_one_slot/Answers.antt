use Rattle.std.proofs.Common.{◌∙◌, Some, ap, sym}
use Rattle.std.specs.Option.{option_copied}
use Rattle.nim_worker.proofs.Meeting.{touch_is}
use Rattle.nim_worker.proofs.meets.touch_one_slot.Goals as goal

pub returns-in-Some-Some : goal.returns-in-Some-Some
returns-in-Some-Some c = λ groups ran place admitted is one other.
    c.do_share.ensures
    ∙ touch_is groups ran c.args.one place (Some c.in-Some-Some.one.now) (Some c.in-Some-Some.other.now)
    (c.in-Some-Some.ensures groups ran admitted) (sym (ap option_copied c.in-Some-Some.is-1) ∙ is) one other
