use Rattle.std.proofs.Common.{◌∙◌, ◌<◌, Some, ap, arith, sym}
use Rattle.nim_course.specs.declared.setup.Setup.{Setup}
use Rattle.nim_lockstep.specs.Events.{is_enabled}
use Rattle.nim_cluster.specs.Runs.{event_of}
use Rattle.nim_cluster.proofs.Schedules.{first_here, first_later}
use Rattle.nim_cluster.proofs.cluster.Cluster.first_of.Goals as goal

pub returns-then-may_move : goal.returns-then-may_move
returns-then-may_move c = λ s stands.
    let k = c.loop-worker.worker in
    let same = ap (λ (setup : Setup). setup.workers) stands.setup in
    let below : k < s.setup.workers = omega (arith, c.loop-worker-test.true, c.from-worker-end.ensures, same) in
    let does = sym (c.may_move.ensures s stands) ∙ c.if-may_move.true in
    ap Some c.event.ensures
    ∙ sym (c.loop-worker.invariant s stands ∙ first_here (is_enabled s) (event_of c.args.kind) k s.setup.workers below does)

pub loop-worker-preserved : goal.loop-worker-preserved
loop-worker-preserved c = λ s stands.
    let k = c.loop-worker.worker in
    let same = ap (λ (setup : Setup). setup.workers) stands.setup in
    let below : k < s.setup.workers = omega (arith, c.loop-worker-test.true, c.from-worker-end.ensures, same) in
    let not = sym (c.may_move.ensures s stands) ∙ c.if-may_move.false in
    c.loop-worker.invariant s stands ∙ first_later (is_enabled s) (event_of c.args.kind) k s.setup.workers below not
