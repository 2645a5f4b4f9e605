use Rattle.std.proofs.Common.{◌∙◌, ◌<◌, ℕ, ap, arith, sym}
use Rattle.nim_schedule.specs.declared.event.Event.TheVariants.{Data}
use Rattle.nim_course.specs.declared.setup.Setup.{Setup}
use Rattle.nim_lockstep.specs.Events.{is_enabled}
use Rattle.nim_cluster.proofs.Schedules.{first_here, first_later}
use Rattle.nim_cluster.proofs.cluster.Cluster.first_frame_from.Goals as goal

pub returns-then-may_pass : goal.returns-then-may_pass
returns-then-may_pass c = λ s stands.
    let same = ap (λ (setup : Setup). setup.workers) stands.setup in
    let below : c.loop-to.to < s.setup.workers = omega (arith, c.loop-to-test.true, c.from-to-end.ensures, same) in
    sym (c.loop-to.invariant s stands
    ∙ first_here (is_enabled s) (λ (to : ℕ). Data c.args.from to) c.loop-to.to s.setup.workers below (sym (c.may_pass.ensures s stands) ∙ c.if-may_pass.true))

pub loop-to-preserved : goal.loop-to-preserved
loop-to-preserved c = λ s stands.
    let same = ap (λ (setup : Setup). setup.workers) stands.setup in
    let below : c.loop-to.to < s.setup.workers = omega (arith, c.loop-to-test.true, c.from-to-end.ensures, same) in
    c.loop-to.invariant s stands
    ∙ first_later (is_enabled s) (λ (to : ℕ). Data c.args.from to) c.loop-to.to s.setup.workers below (sym (c.may_pass.ensures s stands) ∙ c.if-may_pass.false)
