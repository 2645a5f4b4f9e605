-- the tasks of the entries so far, which are no more than these
use Rattle.std.proofs.Common.{◌≡◌, ◌≤◌, take}
use Rattle.nim_reuse.specs.HalfTasks.{tasks_in}
use Rattle.nim_reuse.proofs.ready.tasks_in.Given as goal

abbrev pub invariant-loop-entry : goal.invariant-loop-entry
invariant-loop-entry l = (l.tasks ≡ tasks_in (take l.entry-index l.half)) × (l.tasks ≤ l.entry-index)
