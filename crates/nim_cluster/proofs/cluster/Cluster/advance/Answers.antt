use Rattle.std.proofs.Common.{◌≡◌, ◌∙◌, Bool, Some, length, subst, sym}
use Rattle.nim_lockstep.specs.Events.{IsStep, is_enabled}
use Rattle.nim_lockstep.specs.Schedules.{in_order, next_of}
use Rattle.nim_cluster.proofs.Schedules.{found_passes}
use Rattle.nim_cluster.proofs.cluster.Cluster.advance.Goals as goal

pub returns-in_ok-step-in-Some-clause-advance : goal.returns-in_ok-step-in-Some-clause-advance
returns-in_ok-step-in-Some-clause-advance c = λ s stands.
    let event = c.in-Some.event in
    let next : next_of s ≡ Some event = sym (c.next_event.ensures s stands) ∙ c.in-Some.is in
    let step = c.in_ok-step-in-Some.ensures.step s stands in
    let does = step.1.0.enabled ∙ found_passes (is_enabled s) (in_order (length s.nodes)) event next in
    (step.0, ((event, (next, subst (λ (done : Bool). IsStep s event done step.0) does step.1.0)), step.1.1))
