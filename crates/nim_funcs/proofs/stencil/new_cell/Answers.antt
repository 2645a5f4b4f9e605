use Rattle.std.proofs.Common.{◌∙◌, ap}
use mir.Syntax.{w64}
use Rattle.std.specs.Int.{int_wrapping_mul}
use Rattle.std.proofs.lemmas.Int.{to_z-of_z}
use Rattle.nim_base.specs.Functions.{cell_at, left_of, plus, quotient}
use Rattle.nim_funcs.proofs.Wraps.{weighed}
use Rattle.nim_funcs.proofs.stencil.new_cell.Goals as goal

pub returns : goal.returns
returns c =
    let divisor = c.args.divisor in
    let here = int_wrapping_mul w64 c.args.factor (cell_at c.args.row.now c.args.column) in
    let up = c.cell_or_zero.ensures in
    let down = c.cell_or_zero-2.ensures in
    let left = c.left_cell.ensures in
    let right = c.cell_or_zero-3.ensures in
    to_z-of_z w64 c.divided.result (record { sfits = c.divided.type_inv })
    ∙ weighed c.args.factor divisor (cell_at c.args.row.now c.args.column) c.cell_or_zero.result c.cell_or_zero-2.result c.left_cell.result
    c.cell_or_zero-3.result c.divided.result c.ranges.divisor c.divided.ensures
    ∙ ap (λ x. quotient (plus (plus (plus (plus here x) c.cell_or_zero-2.result) c.left_cell.result) c.cell_or_zero-3.result) divisor) up
    ∙ ap (λ x. quotient (plus (plus (plus (plus here (cell_at c.args.up.now c.args.column)) x) c.left_cell.result) c.cell_or_zero-3.result) divisor) down
    ∙ ap (λ x. quotient (plus (plus (plus (plus here (cell_at c.args.up.now c.args.column)) (cell_at c.args.down.now c.args.column)) x) c.cell_or_zero-3.result)
    divisor) left
    ∙ ap (λ x. quotient (plus (plus (plus (plus here (cell_at c.args.up.now c.args.column)) (cell_at c.args.down.now c.args.column))
    (left_of c.args.row.now c.args.column)) x) divisor) right
