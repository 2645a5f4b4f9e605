use Rattle.std.proofs.Common.{◌∙◌, ap, subst, arith, take}
use Rattle.std.proofs.lemmas.List.{take_all}
use Rattle.nim_base.specs.Functions.{read_values, sum_of}
use Rattle.nim_funcs.specs.Sums.{IsSumOf}
use Rattle.nim_funcs.proofs.SoFar.{read_added}
use Rattle.nim_funcs.proofs.Sums.{sums_are}
use Rattle.nim_funcs.proofs.sum.sum.Goals as goal

pub loop-at-init : goal.loop-at-init
loop-at-init c =
    subst (λ grids. IsSumOf grids c.in_ok-sums.sums)
    (read_added c.args.values.now c.args.reads.now 0 c.index-values-reads.result c.requires.inside (omega (arith, c.requires.some)) c.index-values-reads.is)
    c.in_ok-sums.ensures

pub loop-at-preserved : goal.loop-at-preserved
loop-at-preserved c =
    let reads = c.args.reads.now in
    subst (λ grids. IsSumOf grids c.in_ok-sums-2.sums)
    (read_added c.args.values.now reads c.loop-at.at c.index-values-reads-in-loop-at.result c.requires.inside c.loop-at-test.true
    c.index-values-reads-in-loop-at.is)
    (c.in_ok-sums-2.ensures (read_values c.args.values.now (take c.loop-at.at reads)) c.loop-at.invariant)

pub returns : goal.returns
returns c =
    let values = c.args.values.now in
    let reads = c.args.reads.now in
    sums_are (read_values values (take c.loop-at.at reads)) c.loop-at.sums c.loop-at.invariant
    ∙ ap (λ some. sum_of (read_values values some)) (take_all c.loop-at.at reads c.loop-at-test.false)
