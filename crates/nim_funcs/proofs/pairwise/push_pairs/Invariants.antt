use Rattle.std.proofs.Common.{◌≡◌, ◌++◌}
use Rattle.nim_base.specs.Functions.{row_by, cell_at}
use Rattle.nim_funcs.proofs.pairwise.push_pairs.Given as goal

-- the cells of the columns so far
abbrev pub invariant-loop-column : goal.invariant-loop-column
invariant-loop-column g l =
    l.cells.items ≡ l.initial.cells.items ++ row_by l.column (λ column. g.P.Pairing.pair (cell_at l.first column) (cell_at l.second column))
