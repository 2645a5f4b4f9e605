-- What an event does to a cluster.
use Rattle.std.specs.Prelude.{◌≡◌, ℕ, Bool, true, false, not, ◌&&◌, List, [], ◌∷◌, ◌++◌, slice_get, slice_set}
use Rattle.std.specs.List.{fold}
use Rattle.std.specs.Option.{option_map_or}
use Rattle.nim_message.specs.declared.report.FromWorker.{FromWorker}
use Rattle.nim_schedule.specs.declared.event.Event.{Event}
use Rattle.nim_schedule.specs.declared.event.Event.TheVariants.{Order, Report, Data, Begin, Finish, Lose, Propose}
use Rattle.nim_job.specs.declared.job.Job.{Job}
use Rattle.nim_place.specs.Extends.{is_live, worker_of}
use Rattle.nim_course.specs.declared.setup.Setup.{Setup}
use Rattle.nim_course.specs.Controller.{Controller}
use Rattle.nim_place.specs.Directed.{Directed}
use Rattle.nim_course.specs.Moves.{IsTurned}
use Rattle.nim_course.specs.Reports.{after_report}
use Rattle.nim_history.specs.declared.out.Out.{Out}
use Rattle.nim_lockstep.specs.Cluster.{Batched, ClusterState, Node, has_ended, unbegun}
use Rattle.nim_lockstep.specs.Nodes.{batch_begun, finished, frame_sent, frame_taken, frames_from, may_begin, may_finish, may_frame, may_order, may_report, order_taken, outs_by, runs_by}

-- ---- which events are enabled

-- whether this may be of a live worker
abbrev pub of_live : ClusterState → (Node → Bool) → ℕ → Bool
of_live s may number = is_live s.control.live (worker_of number) && option_map_or may (slice_get s.nodes number) false

-- whether an event may come before the job has ended; no worker is lost and no edit is proposed yet
abbrev pub may_come : ClusterState → Event → Bool
may_come s (Order worker) = of_live s may_order worker
may_come s (Report worker) = of_live s may_report worker
may_come s (Data from to) = of_live s (may_frame from) to
may_come s (Begin worker most) = of_live s (may_begin most) worker
may_come s (Finish worker) = of_live s may_finish worker
may_come s (Lose worker) = false
may_come s (Propose block task to) = false

-- No event is enabled once the job has ended.
abbrev pub is_enabled : ClusterState → Event → Bool
is_enabled s event = not (has_ended s) && may_come s event

-- ---- what a controller gives

-- something changes at a worker, where it is there
abbrev pub at_node : (Node → Node) → ℕ → ClusterState → ClusterState
at_node change number s =
    option_map_or (λ (node : Node). record s { nodes = slice_set s.nodes number (change node) })
    (slice_get s.nodes number)
    s

-- an order waits for its worker
abbrev pub order_sent : ClusterState → Directed → ClusterState
order_sent s given = at_node (λ (node : Node). record node { orders = node.orders ++ given.1 ∷ [] }) given.0.0 s

-- orders were given, and wait for their workers
abbrev pub with_orders : List Directed → ClusterState → ClusterState
with_orders orders s = fold order_sent (record s { put = s.put ++ orders }) orders

-- The controller took a turn, and its orders wait for their workers.
pub record HasTurned (before after : ClusterState) : Type 0 where
  pub control : Controller
  pub orders : List Directed
  pub turned : IsTurned before.control orders control
  pub state : after ≡ with_orders orders (record before { control = control })

-- A cluster that was just made: its controller took its first turn.
abbrev pub IsNew : Job → Setup → ClusterState → Type 0
IsNew job setup s = HasTurned (unbegun job setup) s

-- ---- what an event does

-- what a worker gave waits for whom it is for; a frame for a worker that isn't there is dropped
abbrev pub out_sent : ℕ → ClusterState → Out → ClusterState
out_sent from s (Out.Report report) =
    at_node (λ (node : Node). record node { reports = node.reports ++ report ∷ [] }) from s
out_sent from s (Out.Data peer frame) = at_node (frame_sent from frame) peer.0 s

-- a worker finished its batch: what it gave is sent, and its runs are behind the trace
abbrev pub batch_finished : ℕ → Node → ClusterState → Batched → ClusterState
batch_finished worker node s b =
    fold (out_sent worker)
    (record s { nodes = slice_set s.nodes worker (finished b node); trace = s.trace ++ runs_by b })
    (outs_by b node)

-- the controller takes the first of these reports of a worker
abbrev pub report_taken : ℕ → Node → List FromWorker → ClusterState → ClusterState
report_taken worker node [] s = s
report_taken worker node (report ∷ rest) s = record s {
  nodes = slice_set s.nodes worker (record node { reports = rest });
  control = after_report s.control (worker_of worker) report;
}

-- what an enabled event does, before the controller takes a turn
abbrev pub passed : ClusterState → Event → ClusterState
passed s (Order worker) = at_node (λ (node : Node). order_taken node.orders node) worker s
passed s (Report worker) =
    option_map_or (λ (node : Node). report_taken worker node node.reports s) (slice_get s.nodes worker) s
passed s (Data from to) = at_node (λ (node : Node). frame_taken from (frames_from from node) node) to s
passed s (Begin worker most) = at_node (batch_begun (worker_of worker) most) worker s
passed s (Finish worker) =
    option_map_or
    (λ (node : Node). option_map_or (λ (b : Batched). batch_finished worker node s b) node.batch s)
    (slice_get s.nodes worker)
    s
passed s event = s

-- the controller takes its turn behind a report, in the same event
abbrev pub IsPassed : ClusterState → Event → ClusterState → Type 0
IsPassed before (Report worker) after = HasTurned (passed before (Report worker)) after
IsPassed before event after = after ≡ passed before event

-- an event was given
abbrev pub noted : Event → Bool → ClusterState → ClusterState
noted event done s = record s { given = s.given ++ record { event = event; done = done } ∷ [] }

-- A cluster was given an event: it is done where it is enabled; where it isn't it changes nothing but the given events.
pub record IsStep (before : ClusterState) (event : Event) (done : Bool) (after : ClusterState) : Type 0 where
  pub enabled : done ≡ is_enabled before event
  pub passed : done ≡ true → IsPassed (noted event true before) event after
  pub passed_over : done ≡ false → after ≡ noted event false before
