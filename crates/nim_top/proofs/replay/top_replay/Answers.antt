use Rattle.std.proofs.Common.{◌≡◌, ◌∙◌, ℕ, List, rules, subst}
use Rattle.nim_top.specs.Answer.{WritesText, is_summed}
use Rattle.nim_top.specs.Words.{sums_up, texts_of}
use Rattle.nim_top.specs.declared.verb.Verb.TheVariants.{Replay}
use Rattle.nim_top.proofs.Summed.{tells_summary, told_plain}
use Rattle.nim_top.proofs.replay.top_replay.Goals as goal

pub returns-clause-answers : goal.returns-clause-answers
returns-clause-answers g c =
    let replayed = c.replay-replayed.result in
    let sums = c.replay-replayed.ensures.summary in
    let asked = is_summed Replay (texts_of c.args.words.now) replayed.outcome in
    let IsTold : List ℕ → Type 0 =
    WritesText (g.K.Sink.written c.args.err.now) (g.K.Sink.written c.tell.new.err) (g.K.Sink.faults c.args.err.now) (g.K.Sink.faults c.tell.new.err) in (
      replayed.outcome,
      c.status.ensures,
      c.replay-replayed.ensures.ends,
      λ unasked. subst IsTold
          (c.told.ensures ∙ told_plain asked replayed.outcome replayed.summary c.replay-replayed.new.kept sums unasked) c.tell.ensures,
    )

pub returns-clause-summary : goal.returns-clause-summary
returns-clause-summary g c = λ done asked.
    let replayed = c.replay-replayed.result in
    let IsTold : List ℕ → Type 0 =
    WritesText (g.K.Sink.written c.args.err.now) (g.K.Sink.written c.tell.new.err) (g.K.Sink.faults c.args.err.now) (g.K.Sink.faults c.tell.new.err) in
    tells_summary (sums_up Replay (texts_of c.args.words.now)) replayed.outcome replayed.summary c.replay-replayed.new.kept IsTold
    c.replay-replayed.ensures.summary (subst IsTold c.told.ensures c.tell.ensures) (search rules) asked
