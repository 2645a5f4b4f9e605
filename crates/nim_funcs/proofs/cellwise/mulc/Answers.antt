use Rattle.std.proofs.Common.{rules, ◌≡◌, ◌∙◌, ap, map, ℤ, List, length}
use Rattle.std.specs.Int.{int_wrapping_mul, w64}
use Rattle.std.proofs.lemmas.Int.{to_z-of_z}
use Rattle.nim_base.specs.Value.{rows_of}
use Rattle.nim_funcs.proofs.CellRows.{mapped}
use Rattle.nim_funcs.proofs.cellwise.mulc.Goals as goal

pub returns : goal.returns
returns c =
    let value = c.args.value.now in
    let fits = c.ranges.number in
    let plus = λ (cell : ℤ). int_wrapping_mul w64 cell c.args.number in
    let products : c.in_ok-products.products.items ≡ map plus c.cells.result.now = simp to_z-of_z at c.in_ok-products.ensures in
    let made : c.from_cells.result ≡ record { width = value.width; rows = rows_of (length value.rows) value.width c.in_ok-products.products.items } =
    search rules in
    made ∙ ap (λ (rows : List (List ℤ)). record value { rows = rows }) (mapped plus value _ _ c.cells.ensures.rows products)
