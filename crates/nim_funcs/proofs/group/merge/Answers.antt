use Rattle.std.proofs.Common.{◌≡◌, ◌∙◌, ap, subst, pos, take, arith, IfOk}
use Rattle.std.specs.List.{flat_map}
use Rattle.std.proofs.lemmas.List.{take_all}
use Rattle.nim_base.specs.Value.{Grid}
use Rattle.nim_base.specs.Functions.{merge_of, read_values}
use Rattle.nim_funcs.specs.Groups.{sums_grid}
use Rattle.nim_funcs.proofs.Grouping.{groups}
use Rattle.nim_funcs.proofs.group.merge.Goals as goal

pub returns : goal.returns
returns c =
    let values = c.args.values.now in
    let reads = c.args.reads.now in
    let made : sums_grid c.loop-index.sums.entries ≡ merge_of (read_values values reads) =
    ap sums_grid c.loop-index.invariant
    ∙ groups (pos 0) (pos 1) (flat_map (λ (grid : Grid). grid.rows) (read_values values (take c.loop-index.index-index reads)))
    ∙ ap (λ some. merge_of (read_values values some)) (take_all c.loop-index.index-index reads (omega arith)) in
    subst (λ (grid : Grid). IfOk c.rows_of_sums.result (λ rows. rows ≡ grid)) made c.rows_of_sums.ensures
