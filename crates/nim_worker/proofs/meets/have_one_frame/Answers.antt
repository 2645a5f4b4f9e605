use Rattle.std.proofs.Common.{◌∙◌, Some, sym}
use Rattle.nim_worker.proofs.Meeting.{frame_is, no_frame}
use Rattle.nim_worker.proofs.meets.have_one_frame.Goals as goal

pub returns-in-Some : goal.returns-in-Some
returns-in-Some c = λ groups ran other admitted is here.
    c.receives.ensures groups ran admitted here ∙ frame_is groups c.args.one other (Some c.in-Some.key) (sym c.in-Some.is ∙ is)

pub returns-in-None : goal.returns-in-None
returns-in-None c = λ groups ran other admitted is here. no_frame groups c.args.one other (sym c.in-None.is ∙ is)
