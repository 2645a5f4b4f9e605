-- the numbers so far, and those that are left, are all numbers
use Rattle.std.proofs.Common.{◌≡◌, ◌++◌, ◌-◌}
use Rattle.nim_base.specs.Value.{counting_up}
use Rattle.nim_base.proofs.counting.count_up.Given as goal

abbrev pub invariant-loop : goal.invariant-loop
invariant-loop l = l.cells.items ++ counting_up (l.count - l.counter) l.next ≡ counting_up l.count l.first
