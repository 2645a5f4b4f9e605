use Rattle.std.proofs.Common.{sym, ◌∙◌, ◌*◌, ap₂, arith}
use Rattle.nim_base.specs.Value.{rows_of}
use Rattle.nim_funcs.proofs.SameShape.{made_alike, made_length}
use Rattle.nim_funcs.proofs.pairwise.paired_alike.Goals as goal

pub from_cells-requires-clause-wide : goal.from_cells-requires-clause-wide
from_cells-requires-clause-wide g c = omega (arith, c.width.ensures, c.cells.ensures.shaped.wide)

pub from_cells-requires-clause-whole : goal.from_cells-requires-clause-whole
from_cells-requires-clause-whole g c =
    made_length g.P.Pairing.pair c.args.first.now c.args.second.now c.cells.result.now c.cells-2.result.now c.in_ok-cells.cells.items
    c.cells.ensures.length c.cells-2.ensures.length c.requires.rows c.requires.width c.in_ok-cells.ensures
    ∙ sym (ap₂ (λ n w. n * w) c.rows.ensures c.width.ensures)

pub returns : goal.returns
returns g c =
    made_alike g.P.Pairing.pair c.args.first.now c.args.second.now c.from_cells.result c.cells.result.now c.cells-2.result.now c.in_ok-cells.cells.items
    c.cells.ensures.rows c.cells-2.ensures.rows c.cells.ensures.length c.cells-2.ensures.length c.requires.rows c.requires.width c.in_ok-cells.ensures
    (c.from_cells.ensures ∙ ap₂ (λ n w. record { width = w; rows = rows_of n w c.in_ok-cells.cells.items }) c.rows.ensures c.width.ensures)
