use Rattle.std.proofs.Common.{List, arith, subst, sym, take}
use Rattle.nim_schedule.specs.declared.event.Line.{Line}
use Rattle.nim_lockstep.specs.Schedules.{AreLines}
use Rattle.nim_cluster.proofs.Schedules.{lines_more, take_more}
use Rattle.nim_cluster.proofs.cluster.Cluster.follow.Goals as goal

pub loop-line-preserved : goal.loop-line-preserved
loop-line-preserved c = λ s stands.
    let so_far = c.loop-line.invariant s stands in
    let next = c.in_ok-take_line.ensures so_far.0 so_far.1.1 in
    let lines = take c.loop-line.line-index c.args.schedule.now in (
      next.0,
      (
        subst (λ (all : List Line). AreLines all s next.0)
            (sym (take_more c.args.schedule.now c.loop-line.line-index c.line-item.result (omega (arith, c.loop-line-test.true)) c.line-item.is))
            (lines_more lines c.line-item.result s so_far.0 next.0 so_far.1.0 next.1.0),
        next.1.1,
      ),
    )
