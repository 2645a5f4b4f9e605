use Rattle.std.proofs.Common.{◌≡◌, take}
use Rattle.nim_funcs.specs.Groups.{with_rows}
use Rattle.nim_funcs.proofs.group.add_rows.Given as goal

-- the rows so far
abbrev pub invariant-loop-at : goal.invariant-loop-at
invariant-loop-at l = l.sums.entries ≡ with_rows l.column l.summed l.initial.sums.entries (take l.at l.value.rows)
