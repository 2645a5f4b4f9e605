use Rattle.std.proofs.Common.{◌≡◌, ◌∙◌, ap, subst, IfOk}
use Rattle.std.proofs.lemmas.Int.{to_z-of_z}
use Rattle.nim_base.specs.Value.{Grid}
use Rattle.nim_base.specs.Functions.{group_of}
use Rattle.nim_funcs.specs.Groups.{sums_grid, with_rows}
use Rattle.nim_funcs.proofs.Grouping.{groups}
use Rattle.nim_funcs.proofs.group.group.Goals as goal

pub returns : goal.returns
returns c =
    let column = c.ranges.column in
    let summed = c.ranges.summed in
    let all : c.add_rows.new.sums.entries ≡ with_rows c.args.column c.args.summed c.new-sums.result.entries c.args.value.now.rows =
    simp to_z-of_z at c.in_ok-add_rows.ensures in
    let made : sums_grid c.add_rows.new.sums.entries ≡ group_of c.args.column c.args.summed c.args.value.now =
    ap sums_grid all
    ∙ ap (λ sums. sums_grid (with_rows c.args.column c.args.summed sums c.args.value.now.rows)) c.new-sums.ensures.empty
    ∙ groups c.args.column c.args.summed c.args.value.now.rows in
    subst (λ (grid : Grid). IfOk c.rows_of_sums.result (λ rows. rows ≡ grid)) made c.rows_of_sums.ensures
