use Rattle.std.proofs.Common.{◌≡◌, ◌*◌, ◌∙◌, ap, length, List, ℤ}
use Rattle.std.proofs.lemmas.Int.{to_z-of_z}
use Rattle.nim_base.specs.Value.{Grid, rows_of, counting_up}
use Rattle.nim_base.proofs.CountingUp.{length-counted}
use Rattle.nim_base.proofs.value.Value.iota.Goals as goal

pub from_cells-requires-clause-whole : goal.from_cells-requires-clause-whole
from_cells-requires-clause-whole c = ap length c.in_ok-cells.ensures ∙ length-counted _ _

pub returns : goal.returns
returns c =
    let fits = c.ranges.first in
    let cells : c.in_ok-cells.cells.items ≡ counting_up (c.args.shape.rows * c.args.shape.width) c.args.first =
    rw to_z-of_z at c.in_ok-cells.ensures in
    let whole : List (List ℤ) → Grid = λ rows. record { width = c.args.shape.width; rows = rows } in
    c.from_cells.ensures ∙ ap whole (ap (rows_of c.args.shape.rows c.args.shape.width) cells)
