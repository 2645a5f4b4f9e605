use Rattle.std.proofs.Common.{◌≡◌, None, Some, true, refl, rules}
use Rattle.nim_course.specs.declared.outcome.Outcome.TheVariants as came
use Rattle.nim_lockstep.specs.Law.{HasFollowed}
use Rattle.nim_top.specs.Answer.{came_to, has_run, is_summary_told, status_of}
use Rattle.nim_top.specs.Parts.{SumsUpState}
use Rattle.nim_top.proofs.Followed.{finishes_done, finishes_limit, finishes_stalled}
use Rattle.nim_top.proofs.Left.{came_done, left_run}
use Rattle.nim_top.proofs.Summed.{sums_up_kept}
use Rattle.nim_top.proofs.replay.follow.Goals as goal
use Rattle.nim_top.proofs.replay.follow.Goals.{in-Done, in-Limit, in-Stalled}

pub returns-clause-ends : goal.returns-clause-ends
returns-clause-ends g c =
    let run = c.in-Ok.ensures.run in
    let sound = run.1.1.0 in
    let job = c.args.plan.job in
    let old = g.K.Sink.written c.args.out.now in
    let faults = g.K.Sink.faults c.args.out.now in
    let followed : HasFollowed job c.args.setup run.0 =
    c.events_go_on.ensures.run job c.args.setup c.as_slice.result.now run.0 c.requires.whole c.requires.least c.requires.most run.1.0 in
    elim c.match-end.branch [
      | in-Done w ↦
          let done : run.0.control.outcome ≡ Some came.Done = search rules in
          rw (w.replayed-is, w.out-is)
          (finishes_done job run.0 old (g.K.Sink.written w.done-replayed.new.out) faults (g.K.Sink.faults w.done-replayed.new.out)
          w.done-replayed.result.outcome followed.is_job sound.in_step done (w.done-replayed.ensures.prints run.0 sound.stands))
      | in-Limit w ↦
          let limit : run.0.control.outcome ≡ Some came.Limit = search rules in
          rw (w.replayed-is, w.without_summary-replayed.ensures, w.out-is) (finishes_limit job run.0 old faults followed.is_job sound.in_step limit)
      | in-Stalled w ↦ rw (w.replayed-is, w.without_summary-replayed-in-Stalled.ensures, w.out-is) (finishes_stalled job old faults)
    ]

pub returns-clause-kept : goal.returns-clause-kept
returns-clause-kept g c =
    let run = c.in-Ok.ensures.run in
    let sound = run.1.1.0 in
    let status = status_of c.match-end.replayed.outcome in
    let ended : has_run status ≡ true → run.0.control.outcome ≡ came_to status =
    elim c.match-end.branch [
      | in-Done w ↦
          let done : run.0.control.outcome ≡ Some came.Done = search rules in
          rw (w.replayed-is)
          (came_done run.0.control.outcome run.0.control.machine.driver.output (g.K.Sink.written c.args.out.now) (g.K.Sink.written w.done-replayed.new.out)
          (g.K.Sink.faults c.args.out.now) (g.K.Sink.faults w.done-replayed.new.out) w.done-replayed.result.outcome done
          (w.done-replayed.ensures.prints run.0 sound.stands))
      | in-Limit w ↦
          let limit : run.0.control.outcome ≡ Some came.Limit = search rules in
          rw (w.replayed-is, w.without_summary-replayed.ensures) (λ _. limit)
      | in-Stalled w ↦
          let stalled : run.0.control.outcome ≡ None = search rules in
          rw (w.replayed-is, w.without_summary-replayed-in-Stalled.ensures) (λ _. stalled)
    ] in
    rw (c.keep.ensures, c.has_run.ensures)
    (left_run c.args.plan c.args.setup status run.0 c.in-Ok.end.cluster c.args.kept.now (rw (← c.as_slice.ensures.value) run.1.0)
    sound.stands sound.in_step ended)

pub returns-clause-summary : goal.returns-clause-summary
returns-clause-summary g c =
    let run = c.in-Ok.ensures.run in
    let sound = run.1.1.0 in
    let replayed = c.match-end.replayed in
    let state : SumsUpState (is_summary_told c.args.is_asked replayed.outcome) replayed.summary run.0 =
    elim c.match-end.branch [
      | in-Done w ↦ rw (w.replayed-is) (w.done-replayed.ensures.summary run.0 sound.stands)
      | in-Limit w ↦ rw (w.replayed-is, w.without_summary-replayed.ensures) refl
      | in-Stalled w ↦ rw (w.replayed-is, w.without_summary-replayed-in-Stalled.ensures) refl
    ] in
    rw (c.keep.ensures, c.has_run.ensures)
    (sums_up_kept c.args.is_asked replayed.outcome replayed.summary run.0 c.in-Ok.end.cluster c.args.kept.now sound.stands state)
