-- what is appended so far
use Rattle.std.proofs.Common.{◌≡◌, ◌++◌, replicate}
use Rattle.nim_job.proofs.objects.push_times.Given as goal

abbrev pub invariant-loop : goal.invariant-loop
invariant-loop l = l.shapes.items ≡ l.initial.shapes.items ++ replicate l.counter l.shape
