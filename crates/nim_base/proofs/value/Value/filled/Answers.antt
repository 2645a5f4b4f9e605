use Rattle.std.proofs.Common.{◌≡◌, ◌*◌, ◌∙◌, ap, replicate, rules, List, ℤ}
use Rattle.nim_base.specs.Value.{rows_of}
use Rattle.nim_base.proofs.Rows.{rows_of-replicate}
use Rattle.nim_base.proofs.value.Value.filled.Goals as goal

pub returns : goal.returns
returns c =
    let cells : c.in_ok-cells.cells.items ≡ replicate (c.args.shape.rows * c.args.shape.width) c.args.number = search rules in
    ap (λ (rows : List (List ℤ)). record { width = c.args.shape.width; rows = rows })
    (ap (rows_of c.args.shape.rows c.args.shape.width) cells ∙ rows_of-replicate c.args.shape.rows c.args.shape.width c.args.number)
