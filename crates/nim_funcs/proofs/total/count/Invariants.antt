use Rattle.std.proofs.Common.{◌≡◌, ◌≤◌, ◌*◌, ◌^◌, length, take, sum_by}
use Rattle.nim_base.specs.Functions.{read_values}
use Rattle.nim_funcs.proofs.total.count.Given as goal

-- the rows of the reads so far
abbrev pub invariant-loop-index : goal.invariant-loop-index
invariant-loop-index l = record {
  counted : l.rows ≡ sum_by (λ grid. length grid.rows) (read_values l.values (take l.index-index l.reads));
  small : l.rows ≤ l.index-index * 2 ^ 32;
}
