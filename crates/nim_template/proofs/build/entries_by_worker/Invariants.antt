-- the entries so far are with their workers
use Rattle.std.proofs.Common.{◌≡◌}
use Rattle.nim_template.specs.Built.{entries_by_worker}
use Rattle.nim_template.proofs.build.entries_by_worker.Given as goal

abbrev pub invariant-loop-worker : goal.invariant-loop-worker
invariant-loop-worker l = l.lists.items ≡ entries_by_worker l.workers l.yielded
