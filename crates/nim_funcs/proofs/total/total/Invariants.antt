use Rattle.std.proofs.Common.{◌≡◌, take}
use Rattle.std.specs.List.{flat_map}
use Rattle.nim_base.specs.Value.{cells_of}
use Rattle.nim_base.specs.Functions.{read_values, sum_of_cells}
use Rattle.nim_funcs.proofs.total.total.Given as goal

-- the sum of the reads so far
abbrev pub invariant-loop-index : goal.invariant-loop-index
invariant-loop-index l = l.sum ≡ sum_of_cells (flat_map (λ grid. cells_of grid.rows) (read_values l.values (take l.index-index l.reads)))
