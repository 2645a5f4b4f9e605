use Rattle.std.proofs.Common.{rules, refl}
use Rattle.std.specs.Prelude.{codes}
use Rattle.std.proofs.lemmas.Slice.Eq.{text_from_reads}
use Rattle.nim_schedule.specs.Lines.{line_kind}
use Rattle.nim_schedule.proofs.kind.LineKind.of.Goals as goal

pub returns-in-order : goal.returns-in-order
unfolding line_kind
returns-in-order c = rw (text_from_reads c.args.word.now (codes "order") (search rules) (search rules)) refl

pub returns-in-report : goal.returns-in-report
unfolding line_kind
returns-in-report c = rw (text_from_reads c.args.word.now (codes "report") (search rules) (search rules)) refl

pub returns-in-data : goal.returns-in-data
unfolding line_kind
returns-in-data c = rw (text_from_reads c.args.word.now (codes "data") (search rules) (search rules)) refl

pub returns-in-begin : goal.returns-in-begin
unfolding line_kind
returns-in-begin c = rw (text_from_reads c.args.word.now (codes "begin") (search rules) (search rules)) refl

pub returns-in-finish : goal.returns-in-finish
unfolding line_kind
returns-in-finish c = rw (text_from_reads c.args.word.now (codes "finish") (search rules) (search rules)) refl

pub returns-in-lose : goal.returns-in-lose
unfolding line_kind
returns-in-lose c = rw (text_from_reads c.args.word.now (codes "lose") (search rules) (search rules)) refl

pub returns-in-propose : goal.returns-in-propose
unfolding line_kind
returns-in-propose c = rw (text_from_reads c.args.word.now (codes "propose") (search rules) (search rules)) refl

pub returns-in-auto : goal.returns-in-auto
unfolding line_kind
returns-in-auto c = rw (text_from_reads c.args.word.now (codes "auto") (search rules) (search rules)) refl
