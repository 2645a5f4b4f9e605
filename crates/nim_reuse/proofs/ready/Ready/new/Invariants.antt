-- what the halves so far receive, and how many tasks they run
use Rattle.std.proofs.Common.{◌≡◌, map, take}
use Rattle.nim_reuse.specs.HalfTasks.{tasks_in}
use Rattle.nim_reuse.specs.Received.{received_in}
use Rattle.nim_reuse.proofs.ready.Ready.new.Given as goal

abbrev pub invariant-loop-half : goal.invariant-loop-half
invariant-loop-half l =
    (map (λ objects. objects.items) l.received.items ≡ map received_in (take l.half-index l.half-items))
    × (l.tasks.items ≡ map tasks_in (take l.half-index l.half-items))
