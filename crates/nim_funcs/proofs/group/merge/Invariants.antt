use Rattle.std.proofs.Common.{◌≡◌, pos, take, []}
use Rattle.std.specs.List.{flat_map}
use Rattle.nim_base.specs.Functions.{read_values}
use Rattle.nim_funcs.specs.Groups.{with_rows}
use Rattle.nim_funcs.proofs.group.merge.Given as goal

-- the rows of the reads so far
abbrev pub invariant-loop-index : goal.invariant-loop-index
invariant-loop-index l =
    l.sums.entries ≡ with_rows (pos 0) (pos 1) [] (flat_map (λ grid. grid.rows) (read_values l.values (take l.index-index l.reads)))
