use Rattle.std.proofs.Common.{◌∙◌, Bool, ap, refl, sym}
use Rattle.std.specs.Prelude.{◌==◌, ◌&&◌}
use Rattle.nim_command.specs.Waits.{Member}
use Rattle.nim_order.specs.Progress.{is_one_of}
use Rattle.nim_worker.proofs.Opened.{completed_stands, ended_is, is_counted, is_there}
use Rattle.nim_worker.proofs.admitted.Admitted.complete.Goals as goal
use Rattle.nim_worker.proofs.admitted.Admitted.complete.Goals.{then-group, else-group, in_default-via-in-Some+in_default, in_default-via-in_default}

pub returns-after-group-clause-ended : goal.returns-after-group-clause-ended
returns-after-group-clause-ended c = λ groups ran is within waiting.
    ended_is c.args.self.now groups ran c.args.ticket c.in-Some-Some.number c.in-Some-Some.command c.in-Some.group c.if-group.result is
    (sym (c.group.ensures groups (is_one_of ran) is.queue) ∙ c.in-Some-Some.is-0)
    (sym (c.complete.ensures.command groups (is_one_of ran) is.queue) ∙ c.in-Some-Some.is-1)
    (sym c.count_down.ensures.group ∙ c.in-Some.is)
    (elim c.if-group.branch [
      | then-group w ↦ w.result-is ∙ sym (ap (λ (b : Bool). b && (c.in-Some.group.left == 0)) w.if-group.true)
      | else-group w ↦ w.result-is ∙ w.if-group.false ∙ sym (ap (λ (b : Bool). b && (c.in-Some.group.left == 0)) w.if-group.false)
    ])

pub returns-after-group-clause-stands : goal.returns-after-group-clause-stands
returns-after-group-clause-stands c = λ groups ran is within waiting.
    completed_stands c.args.self.now _ groups ran c.args.ticket c.in-Some-Some.number is
    (sym (c.group.ensures groups (is_one_of ran) is.queue) ∙ c.in-Some-Some.is-0)
    (c.complete.ensures.stands groups (is_one_of ran) is.queue) refl c.count_down.ensures.table

pub returns-in-None-clause-ended : goal.returns-in-None-clause-ended
returns-in-None-clause-ended c = λ groups ran is within waiting.
    is_counted c.args.self.now groups ran c.args.ticket c.in-Some-Some.number _ is
    (sym (c.group.ensures groups (is_one_of ran) is.queue) ∙ c.in-Some-Some.is-0) (sym c.count_down.ensures.group ∙ c.in-None.is)

pub returns-in-None-clause-stands : goal.returns-in-None-clause-stands
returns-in-None-clause-stands c = λ groups ran is within waiting.
    is_counted c.args.self.now groups ran c.args.ticket c.in-Some-Some.number _ is
    (sym (c.group.ensures groups (is_one_of ran) is.queue) ∙ c.in-Some-Some.is-0) (sym c.count_down.ensures.group ∙ c.in-None.is)

pub returns-in_default-clause-stands : goal.returns-in_default-clause-stands
returns-in_default-clause-stands c = λ groups ran is within waiting.
    elim c.in_default.branch [
      | in_default-via-in-Some+in_default w ↦
          is_there (λ (m : Member). m.command) groups ran c.args.ticket _ within waiting
          (sym (c.complete.ensures.command groups (is_one_of ran) is.queue) ∙ w.in_default.is-1)
      | in_default-via-in_default w ↦
          is_there (λ (m : Member). m.group) groups ran c.args.ticket _ within waiting
          (sym (c.group.ensures groups (is_one_of ran) is.queue) ∙ w.in_default.is-0)
    ]
