use Rattle.std.proofs.Common.{◌∙◌, ◌++◌, ◌∷◌, [], Bool, true, ap, ap₂, sym}
use Rattle.nim_schedule.specs.declared.event.Event.{Event}
use Rattle.nim_lockstep.specs.Events.{noted}
use Rattle.nim_cluster.proofs.Events.{noted_stands, step_done, step_passed}
use Rattle.nim_cluster.proofs.cluster.Cluster.give.Goals as goal

pub returns-in_ok-pass-clause-step : goal.returns-in_ok-pass-clause-step
returns-in_ok-pass-clause-step c = λ s stands.
    let old = c.args.self.now in
    let event = c.args.event.now in
    let enabled = c.is_enabled-done.ensures s stands in
    let given = c.in_ok-push.ensures.items
    ∙ ap₂ (λ (e : Event) (d : Bool). old.given.items ++ record { event = e; done = d } ∷ []) c.in_ok-copy.ensures c.if-done.true in
    let has = c.in_ok-pass.ensures.passed (noted event true s) (noted_stands old c.push.new.self s event true stands given) (sym enabled ∙ c.if-done.true) in
    (has.after, (step_done s has.after event c.is_enabled-done.result enabled c.if-done.true has.passed, has.stands))

pub returns-else-done-clause-step : goal.returns-else-done-clause-step
returns-else-done-clause-step c = λ s stands.
    let old = c.args.self.now in
    let event = c.args.event.now in
    let done = c.is_enabled-done.result in
    let given = c.in_ok-push.ensures.items ∙ ap (λ (e : Event). old.given.items ++ record { event = e; done = done } ∷ []) c.in_ok-copy.ensures in (
      noted event done s,
      (
        step_passed s event done (c.is_enabled-done.ensures s stands) c.if-done.false,
        noted_stands old c.push.new.self s event done stands given,
      ),
    )
