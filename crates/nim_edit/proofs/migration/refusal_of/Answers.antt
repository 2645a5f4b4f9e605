use Rattle.std.proofs.Common.{ℕ, rules, arith, length, ap, sym, ◌∙◌}
use Rattle.std.proofs.lemmas.Bool.{lt-leb}
use Rattle.nim_edit.specs.Refusals.{are_too_many}
use Rattle.nim_edit.proofs.Forms.{not_refused}
use Rattle.nim_edit.proofs.migration.refusal_of.Goals as goal

pub returns : goal.returns
returns c =
    not_refused c.args.template.now c.args.task c.args.to c.args.live.now (lt-leb (length c.args.template.now.forms) c.args.task (omega arith)) (search rules)
    (search rules)
    (ap (λ (task : ℕ). are_too_many c.args.template.now task c.args.to) (sym c.from-place.ensures) ∙ sym c.are_too_many.ensures ∙ c.if-are_too_many.false)
