use Rattle.std.proofs.Common.{◌∙◌, sym}
use Rattle.nim_order.specs.Progress.{is_one_of}
use Rattle.nim_worker.proofs.Opened.{head_there}
use Rattle.nim_worker.proofs.admitted.Admitted.head.Goals as goal

pub returns-in-Some : goal.returns-in-Some
returns-in-Some c = λ groups ran is.
    c.head_in.ensures
    ∙ head_there c.args.self.now groups ran c.args.ticket c.in-Some.number is (sym (c.group.ensures groups (is_one_of ran) is.queue) ∙ c.in-Some.is)
