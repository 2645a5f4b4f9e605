-- How much a core has still to do.
use Rattle.std.specs.Prelude.{ℕ}
use Rattle.nim_queue.specs.Stands.{waiting_count}
use Rattle.nim_worker.specs.declared.worker.WorkerCore.{WorkerCore}

-- how many of the commands that a core was asked for aren't complete
abbrev pub left_in : WorkerCore → ℕ
left_in core = waiting_count core.admitted.queue
