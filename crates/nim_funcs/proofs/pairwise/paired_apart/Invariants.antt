use Rattle.std.proofs.Common.{◌≡◌}
use Rattle.nim_base.specs.Value.{cell_of, cells_of}
use Rattle.nim_base.specs.Functions.{grid_by}
use Rattle.nim_funcs.proofs.pairwise.paired_apart.Given as goal

-- the rows so far
abbrev pub invariant-loop-row : goal.invariant-loop-row
invariant-loop-row g l =
    l.cells.items ≡ cells_of (grid_by l.row l.width (λ row column. g.P.Pairing.pair (cell_of l.first row column) (cell_of l.second row column))).rows
