use Rattle.std.proofs.Common.{◌∙◌, ◌<◌, ap, arith, sym}
use Rattle.nim_course.specs.declared.setup.Setup.{Setup}
use Rattle.nim_lockstep.specs.Events.{is_enabled}
use Rattle.nim_lockstep.specs.Schedules.{frames_of}
use Rattle.nim_cluster.proofs.Schedules.{frame_here, frame_later}
use Rattle.nim_cluster.proofs.cluster.Cluster.first_waiting_frame.Goals as goal

pub returns-in-Some : goal.returns-in-Some
returns-in-Some c = λ s stands.
    let same = ap (λ (setup : Setup). setup.workers) stands.setup in
    let below : c.loop-from.from < s.setup.workers = omega (arith, c.loop-from-test.true, c.from-from-end.ensures, same) in
    sym (c.loop-from.invariant s stands
    ∙ frame_here (is_enabled s) (frames_of s.setup.workers) c.loop-from.from s.setup.workers c.in-Some.event below
    (sym (c.first_frame_from.ensures s stands) ∙ c.in-Some.is))

pub loop-from-preserved : goal.loop-from-preserved
loop-from-preserved c = λ s stands.
    let same = ap (λ (setup : Setup). setup.workers) stands.setup in
    let below : c.loop-from.from < s.setup.workers = omega (arith, c.loop-from-test.true, c.from-from-end.ensures, same) in
    c.loop-from.invariant s stands
    ∙ frame_later (is_enabled s) (frames_of s.setup.workers) c.loop-from.from s.setup.workers below
    (sym (c.first_frame_from.ensures s stands) ∙ c.in_default.is)
