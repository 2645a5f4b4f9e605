use Rattle.std.proofs.Common.{ap, sym, ◌∙◌}
use Rattle.std.proofs.lemmas.Bool.{eq-eqb}
use Rattle.nim_job.proofs.Lists.{any_mapped}
use Rattle.nim_base.specs.declared.number.Object.{Object}
use Rattle.std.specs.Prelude.{◌==◌}
use Rattle.nim_job.specs.Tasks.{object_meant}
use Rattle.nim_job.proofs.wholeness.blocks.means_any.Goals as goal

pub returns-then-object-sought : goal.returns-then-object-sought
returns-then-object-sought c = any_mapped (λ (o : Object). o.0 == c.args.sought.0) (object_meant c.args.vars.now c.args.index) c.args.refs.now
    c.loop-reference.reference-index _ c.loop-reference-test.true
    (eq-eqb _ c.args.sought.0 (ap (λ (o : Object). o.0) (sym c.object.ensures) ∙ c.if-object-sought.true))
