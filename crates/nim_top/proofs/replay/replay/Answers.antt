use Rattle.std.proofs.Common.{Bool, ap, refl, subst, sym}
use Rattle.std.specs.Prelude.{Err}
use Rattle.nim_job.specs.Serial.{serial_of}
use Rattle.nim_top.specs.Answer.{status_of}
use Rattle.nim_top.specs.Parts.{IsPlanOf, ReadsPlan, SumsUp}
use Rattle.nim_top.specs.Texts.{AreOf}
use Rattle.nim_top.specs.Words.{texts_of}
use Rattle.nim_top.specs.declared.verb.Verb.TheVariants.{Replay}
use Rattle.nim_top.proofs.Ended.{EndsAs, ends_finished, ends_refused}
use Rattle.nim_top.proofs.Kept.{keeps_left}
use Rattle.nim_top.proofs.NamedFiles.{texts_more}
use Rattle.nim_top.proofs.replay.replay.Goals as goal

pub returns-in-Ok-read-clause-ends : goal.returns-in-Ok-read-clause-ends
returns-in-Ok-read-clause-ends g c =
    let told = g.L.Files.told c.args.files.now in
    let words = texts_of c.args.words.now in
    let ending = serial_of c.in-Ok-read.plan.job in
    ends_finished Replay words told (g.L.Files.told c.load.new.files)
    (g.L.Files.faults c.args.files.now) (g.L.Files.faults c.load.new.files) (g.K.Sink.written c.args.out.now) (g.K.Sink.written c.follow.new.out)
    (g.K.Sink.faults c.args.out.now) (g.K.Sink.faults c.follow.new.out) ending c.follow.result.outcome refl c.in-Ok.ensures.accepted c.in-Ok.ensures.quiet
    (texts_more told Replay words (AreOf c.in-Ok.inputs) (EndsAs Replay ending)
    (λ t is. let read = c.in-Ok-read.ensures.reads t is in (read.0, ap serial_of (sym read.1.job))) c.in-Ok.ensures.inputs) c.follow.ensures.ends

pub returns-in-Ok-read-clause-kept : goal.returns-in-Ok-read-clause-kept
returns-in-Ok-read-clause-kept g c =
    let told = g.L.Files.told c.args.files.now in
    let words = texts_of c.args.words.now in
    keeps_left told words c.in-Ok-read.plan c.in-Ok.inputs.setup (status_of c.follow.result.outcome) c.args.kept.now c.follow.new.kept
    (texts_more told Replay words (AreOf c.in-Ok.inputs) (λ t. IsPlanOf t c.in-Ok-read.plan)
    (λ t is. (c.in-Ok-read.ensures.reads t is).1) c.in-Ok.ensures.inputs)
    c.in-Ok.ensures.setup c.follow.ensures.kept

pub returns-in-Ok-read-clause-summary : goal.returns-in-Ok-read-clause-summary
returns-in-Ok-read-clause-summary g c =
    subst (λ (asked : Bool). SumsUp asked c.follow.result c.follow.new.kept) c.in-Ok.ensures.summary c.follow.ensures.summary

pub returns-clause-ends : goal.returns-clause-ends
returns-clause-ends g c =
    let told = g.L.Files.told c.args.files.now in
    let words = texts_of c.args.words.now in
    rw (c.without_summary-in-Err-read.ensures)
    (ends_refused Replay words told (g.L.Files.told c.load.new.files)
    (g.L.Files.faults c.args.files.now) (g.L.Files.faults c.load.new.files) (g.K.Sink.written c.args.out.now) (g.K.Sink.faults c.args.out.now)
    c.in-Err-read.fault c.refused.result c.in-Ok.ensures.accepted c.in-Ok.ensures.quiet
    (texts_more told Replay words (AreOf c.in-Ok.inputs) (λ t. ReadsPlan t (Err c.in-Err-read.fault)) c.in-Err-read.ensures.reads
    c.in-Ok.ensures.inputs) c.refused.ensures)
