use Rattle.std.proofs.Common.{◌≡◌, ◌∙◌, ◌++◌, ap, sym, replicate, arith, length, All, ◌≤◌, subst, List}
use Rattle.std.proofs.lemmas.List.{take_all}
use Rattle.nim_base.specs.declared.number.Shape.{Shape}
use Rattle.nim_job.specs.Objects.{shapes_of}
use Rattle.nim_job.specs.declared.job.Var.{Var}
use Rattle.nim_job.proofs.Lists.{flat_map_step}
use Rattle.nim_job.proofs.Whole.{whole_vars, vars_sizes, length_shapes, widths}
use Rattle.nim_job.proofs.objects.shapes.Goals as goal

pub loop-var-preserved : goal.loop-var-preserved
loop-var-preserved c =
    c.in_ok-push_times.ensures ∙ ap (λ (shapes : List Shape). shapes ++ replicate c.var-item.result.parts c.var-item.result.shape) c.loop-var.invariant
    ∙ sym (flat_map_step (λ (v : Var). replicate v.parts v.shape) c.as_slice-var-items.result.now c.loop-var.var-index c.var-item.result c.loop-var-test.true
    c.var-item.is)

pub returns-clause-fits : goal.returns-clause-fits
returns-clause-fits c =
    let all : c.loop-var.shapes.items ≡ shapes_of c.args.job.now.vars = c.loop-var.invariant
    ∙ ap shapes_of (take_all c.loop-var.var-index c.as_slice-var-items.result.now (omega arith)) ∙ ap shapes_of c.as_slice-var-items.ensures in
    let sizes = (vars_sizes c.args.job.now.vars (whole_vars c.args.job.now c.requires.whole)).1 in
    (ap length all ∙ length_shapes c.args.job.now.vars, subst (λ shapes. All (λ (s : Shape). 1 ≤ s.width) shapes) (sym all) (widths c.args.job.now.vars sizes))
