-- How much a core has still to do, by what has happened at it.
use Rattle.std.proofs.Common.{◌≡◌, List, length}
use Rattle.std.specs.Prelude.{Option, not}
use Rattle.std.specs.List.{filter, range_with_len}
use Rattle.nim_command.specs.Waits.{members_of}
use Rattle.nim_order.specs.Progress.{is_one_of}
use Rattle.nim_queue.proofs.Counting.{count_is}
use Rattle.nim_history.specs.History.{Happening, state_of}
use Rattle.nim_worker.specs.declared.batch.Batch.{Batch}
use Rattle.nim_worker.specs.declared.worker.WorkerCore.{WorkerCore}
use Rattle.nim_worker.specs.Left.{left_in}
use Rattle.nim_worker.specs.Stands.{CoreStands}

-- as much as commands aren't complete
pub left_is : (core : WorkerCore) (out : Option Batch) (history : List Happening) → CoreStands core out history
    → left_in core
    ≡ length (filter (λ place. not (is_one_of (state_of history).ran place)) (range_with_len 0 (length (members_of (state_of history).session.groups))))
left_is core out history stands = count_is core.admitted.queue (state_of history).session.groups (is_one_of (state_of history).ran) stands.at.has.admitted.queue
