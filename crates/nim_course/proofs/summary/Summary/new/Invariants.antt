-- a line for each of the workers so far
use Rattle.std.proofs.Common.{◌≡◌, true, replicate}
use Rattle.nim_course.proofs.summary.Summary.new.Given as goal

abbrev pub invariant-loop : goal.invariant-loop
invariant-loop l = l.lines ≡ replicate l.counter (record { live = true; tasks = 0; orders = 0 })
