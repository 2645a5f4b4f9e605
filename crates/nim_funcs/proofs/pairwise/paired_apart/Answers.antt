use Rattle.std.proofs.Common.{◌∙◌, ap₂, arith, max}
use Rattle.nim_base.specs.Value.{cell_of}
use Rattle.nim_funcs.proofs.CellRows.{made_length, made_grid}
use Rattle.nim_funcs.proofs.pairwise.paired_apart.Goals as goal

pub from_cells-requires-clause-whole : goal.from_cells-requires-clause-whole
from_cells-requires-clause-whole g c =
    made_length c.loop-row.row c.max-rows.result c.max-width.result
    (λ row column. g.P.Pairing.pair (cell_of c.args.first.now row column) (cell_of c.args.second.now row column))
    c.loop-row.cells.items (omega arith) c.loop-row.invariant

pub returns : goal.returns
returns g c =
    made_grid c.loop-row.row c.max-rows.result c.max-width.result _ _
    (λ row column. g.P.Pairing.pair (cell_of c.args.first.now row column) (cell_of c.args.second.now row column))
    c.loop-row.cells.items c.from_cells.result (omega arith) c.loop-row.invariant
    (c.max-rows.ensures ∙ ap₂ max c.rows.ensures c.rows-2.ensures)
    (c.max-width.ensures ∙ ap₂ max c.width_of.ensures.width c.width_of-2.ensures.width)
    c.from_cells.ensures
