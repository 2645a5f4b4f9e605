-- How many events a cluster has been given that were done.
use Rattle.std.specs.Prelude.{ℕ, ◌+◌, ◌*◌, ◌≤◌, List, length}
use Rattle.std.specs.List.{count_by, range_with_len, sum_by}
use Rattle.nim_command.specs.Waits.{commands_of}
use Rattle.nim_message.specs.Orders.{session_of}
use Rattle.nim_place.specs.Directed.{Directed, orders_to}
use Rattle.nim_lockstep.specs.declared.given.Given.{Given}
use Rattle.nim_lockstep.specs.Cluster.{ClusterState}
use Rattle.nim_lockstep.specs.InStep.{IsReached}

-- how many of the given events were done
abbrev pub done_in : List Given → ℕ
done_in given = count_by (λ (g : Given). g.done) given

-- how many commands a worker is asked for
abbrev pub commands_to : List Directed → ℕ → ℕ
commands_to put number = length (commands_of (session_of (orders_to number put)).groups)

-- how many so many workers are asked for
abbrev pub commands_put : ℕ → List Directed → ℕ
commands_put workers put = sum_by (commands_to put) (range_with_len 0 workers)

-- Each order, report and frame is taken once, and each command is completed once, by a batch that is begun and finished
-- once; a command gives at most two messages. So no more events are done than these come to.
abbrev pub HasFewDone : ClusterState → Type 0
HasFewDone s = done_in s.given ≤ length s.put + 4 * commands_put s.setup.workers s.put + s.setup.workers

-- So it is of each cluster that events lead to.
abbrev pub EventsAreFew : Type 0
EventsAreFew = (s : ClusterState) → IsReached s → HasFewDone s
