use Rattle.std.proofs.Common.{codes, refl}
use Rattle.std.specs.Prelude.{Err}
use Rattle.nim_top.specs.Answer.{with_newline}
use Rattle.nim_top.specs.Parts.{ReadsPlan}
use Rattle.nim_top.specs.Texts.{AreOf}
use Rattle.nim_top.specs.Words.{texts_of}
use Rattle.nim_top.specs.declared.verb.Verb.TheVariants.{Check}
use Rattle.nim_top.proofs.Ended.{EndsAs, ends_printed, ends_refused}
use Rattle.nim_top.proofs.NamedFiles.{texts_more}
use Rattle.nim_top.proofs.check.check.Goals as goal

pub returns-in-Ok-read : goal.returns-in-Ok-read
returns-in-Ok-read g c =
    let told = g.L.Files.told c.args.files.now in
    let words = texts_of c.args.words.now in
    ends_printed Check words told (g.L.Files.told c.load.new.files)
    (g.L.Files.faults c.args.files.now) (g.L.Files.faults c.load.new.files) (g.K.Sink.written c.args.out.now) (g.K.Sink.written c.print.new.out)
    (g.K.Sink.faults c.args.out.now) (g.K.Sink.faults c.print.new.out) (with_newline (codes "accepted")) c.print.result
    c.in-Ok.ensures.accepted c.in-Ok.ensures.quiet
    (texts_more told Check words (AreOf c.in-Ok.inputs) (EndsAs Check (record { status = 0; bytes = with_newline (codes "accepted") }))
    (λ t is. ((c.in-Ok-read.ensures.reads t is).0, refl)) c.in-Ok.ensures.inputs) c.print.ensures

pub returns : goal.returns
returns g c =
    let told = g.L.Files.told c.args.files.now in
    let words = texts_of c.args.words.now in
    ends_refused Check words told (g.L.Files.told c.load.new.files)
    (g.L.Files.faults c.args.files.now) (g.L.Files.faults c.load.new.files) (g.K.Sink.written c.args.out.now) (g.K.Sink.faults c.args.out.now)
    c.in-Err-read.fault c.refused.result c.in-Ok.ensures.accepted c.in-Ok.ensures.quiet
    (texts_more told Check words (AreOf c.in-Ok.inputs) (λ t. ReadsPlan t (Err c.in-Err-read.fault)) c.in-Err-read.ensures.reads
    c.in-Ok.ensures.inputs) c.refused.ensures
