-- A cluster that is under way: what is true of it from event to event, from which it follows that it is in step.
use Rattle.std.specs.Prelude.{◌≡◌, ◌≢◌, ℕ, ◌-◌, ◌≤◌, ◌<◌, ◌==◌, nat_le, if◌then◌else◌, Bool, true, false, ◌&&◌, ◌||◌, List, [], ◌∷◌, ◌++◌, length, map, replicate, All, Option, Some, IfSome, IsSomeAnd, slice_get}
use Rattle.std.specs.List.{flat_map, list_any}
use Rattle.std.specs.Option.{is_some, option_map_or}
use Rattle.nim_base.specs.declared.number.Worker.{Worker}
use Rattle.nim_command.specs.Waits.{Group, Source, FromInstance}
use Rattle.nim_message.specs.declared.order.ToWorker.{ToWorker}
use Rattle.nim_message.specs.declared.report.FromWorker.{FromWorker}
use Rattle.nim_message.specs.declared.report.FromWorker.TheVariants.{Ran, Through}
use Rattle.nim_message.specs.Orders.{session_of}
use Rattle.nim_order.specs.Progress.{is_one_of}
use Rattle.nim_schedule.specs.declared.event.Event.{Event}
use Rattle.nim_job.specs.declared.job.Job.{Job}
use Rattle.nim_job.specs.Whole.{is_whole}
use Rattle.nim_course.specs.declared.outcome.Outcome.TheVariants.{Done, NoWorker}
use Rattle.nim_course.specs.declared.pending.Pending.{Pending}
use Rattle.nim_course.specs.declared.pending.Pending.TheVariants.{Begin}
use Rattle.nim_course.specs.declared.setup.Setup.{Setup}
use Rattle.nim_course.specs.Controller.{Flight}
use Rattle.nim_place.specs.Directed.{Directed, orders_to}
use Rattle.nim_course.specs.Leads.{Leads}
use Rattle.nim_place.specs.TaskRuns.{position_run}
use Rattle.nim_history.specs.History.{Asked, IsHistory, WorkerState, asked_at, orders_in, state_of}
use Rattle.nim_history.specs.InTurn.{MayAllComplete, is_reset}
use Rattle.nim_history.specs.Truth.{IsHandedTruth}
use Rattle.nim_lockstep.specs.declared.ran.Ran.{Ran as ran_type}
use Rattle.nim_lockstep.specs.Cluster.{Batched, ClusterState, Node, unbegun}
use Rattle.nim_lockstep.specs.Events.{HasTurned, is_enabled, passed}
use Rattle.nim_lockstep.specs.InStep.{AreOnce, HasTruth, ReadsByOrder, was_run}

-- ---- runs and their places

-- the position of the task that the command at a place of a worker's session runs, if it runs one
abbrev pub position_at : WorkerState → ℕ → List ℕ
position_at state place =
    option_map_or (λ (asked : Asked). position_run asked.command.kind) (asked_at state.session.groups place) []

-- the same of orders
abbrev pub run_placed : List ToWorker → ℕ → List ℕ
run_placed orders place =
    option_map_or (λ (asked : Asked). position_run asked.command.kind) (asked_at (session_of orders).groups place) []

-- the positions of runs, in order
abbrev pub positions_of : List ran_type → List ℕ
positions_of runs = map (λ (ran : ran_type). ran.position) runs

-- ---- one worker

-- A batch that is out: no Reset came since, it has some commands, and they may be completed in turn; its runs are theirs,
-- in order, and each of them read what program order names.
pub record IsBatchRight (job : Job) (number : ℕ) (state : WorkerState) (b : Batched) : Type 0 where
  pub fresh : b.stale ≡ false
  pub some : b.places ≢ []
  pub may : MayAllComplete state b.places
  pub runs : positions_of b.runs ≡ flat_map (position_at state) b.places
  pub workers : All (λ (ran : ran_type). ran.worker.0 ≡ number) b.runs
  pub epochs : All (λ (ran : ran_type). ran.epoch ≡ 0) b.runs
  pub reads : All (ReadsByOrder job) b.runs

-- whether a group is an instance of a block
abbrev pub is_from_instance : Source → Bool
is_from_instance (FromInstance base) = true
is_from_instance source = false

-- One of these groups is of an instance, and all its Runs were performed.
pub record IsThroughOf (groups : List Group) (trace : List ran_type) (instance : ℕ) : Type 0 where
  pub number : ℕ
  pub group : Group
  pub there : slice_get groups number ≡ Some group
  pub is : group.instance ≡ instance
  pub whole : is_from_instance group.source ≡ true
  pub all : (place : ℕ) (asked : Asked) (position : ℕ) → asked_at groups place ≡ Some asked → asked.number ≡ number
      → position_run asked.command.kind ≡ position ∷ [] → was_run trace position ≡ true

-- the same of a worker that was sent these orders
abbrev pub IsThrough : List ToWorker → List ran_type → ℕ → Type 0
IsThrough sent trace instance = IsThroughOf (session_of sent).groups trace instance

-- a Run that a worker reports was performed, and so were those of an instance that is through
abbrev pub IsTold : List ToWorker → List ran_type → FromWorker → Type 0
IsTold sent trace (Ran epoch position reads) = was_run trace position ≡ true
IsTold sent trace (Through epoch instance) = IsThrough sent trace instance
IsTold sent trace report = Unit {0}

-- each Run that a worker completed stands in the trace
abbrev pub AreTraced : List ran_type → WorkerState → Type 0
AreTraced trace state =
    (place position : ℕ) → is_one_of state.ran place ≡ true → position_at state place ≡ position ∷ [] → was_run trace position ≡ true

-- A worker is under way behind these orders: it took the front of them and the rest waits, it was handed what is true of
-- the job, and so is what it gave; each Run that it completed stands in the trace, and so does each that it reports.
pub record IsNodeUnderWay (job : Job) (workers number : ℕ) (trace : List ran_type) (sent : List ToWorker) (node : Node) : Type 0 where
  pub link : orders_in node.happened ++ node.orders ≡ sent
  pub history : IsHistory node.happened
  pub handed : IsHandedTruth job node.happened
  pub senders : length node.frames ≡ workers
  pub waiting : HasTruth job node
  pub ran : AreTraced trace (state_of node.happened)
  pub told : All (IsTold sent trace) node.reports
  pub batch : IfSome node.batch (IsBatchRight job number (state_of node.happened))

-- all workers are under way
pub record AreUnderWay (s : ClusterState) : Type 0 where
  pub nodes : length s.nodes ≡ s.setup.workers
  pub each : (number : ℕ) (node : Node) → slice_get s.nodes number ≡ Some node
      → IsNodeUnderWay s.job s.setup.workers number s.trace (orders_to number s.put) node

-- a Run of the trace is one of a command that its worker completed, in epoch 0
pub record IsDoneBy (ran : ran_type) (node : Node) : Type 0 where
  pub place : ℕ
  pub complete : is_one_of (state_of node.happened).ran place ≡ true
  pub runs : position_at (state_of node.happened) place ≡ ran.position ∷ []

pub record IsDone (nodes : List Node) (ran : ran_type) : Type 0 where
  pub epoch : ran.epoch ≡ 0
  pub by : IsSomeAnd (slice_get nodes ran.worker.0) (IsDoneBy ran)

-- ---- the controller

-- orders begin one epoch: the first is its Reset, and there is no other; before it is begun there are none
abbrev pub BeginOnce : Pending → List ToWorker → Type 0
BeginOnce Begin orders = orders ≡ []
BeginOnce pending [] = ⊥
BeginOnce pending (order ∷ orders) = (is_reset order ≡ true) × All (λ order. is_reset order ≡ false) orders

-- whether the run of the task at a position is awaited by an instance in flight
abbrev pub is_awaited_in : ℕ → Flight → Bool
is_awaited_in position flight =
    nat_le flight.base position
    && option_map_or (λ (run : Option Worker). is_some run) (slice_get flight.runs (position - flight.base)) false

-- whether a worker is to report that it is through with an instance
abbrev pub awaits_through : ℕ → ℕ → Flight → Bool
awaits_through number instance flight =
    (flight.instance == instance) && list_any (λ (worker : Worker). worker.0 == number) flight.through

-- whether a run is awaited that a worker is asked for in this group: the instance's end, or the run itself
abbrev pub is_awaited_by : List Flight → ℕ → Group → ℕ → Bool
is_awaited_by flights number group position =
    if is_from_instance group.source then list_any (awaits_through number group.instance) flights
    else list_any (is_awaited_in position) flights

-- the run of this position that a worker is asked for is awaited or was performed
abbrev pub IsAccounted : List Flight → List ran_type → ℕ → Asked → Type 0
IsAccounted flights trace number asked =
    (position : ℕ) → position_run asked.command.kind ≡ position ∷ []
    → (is_awaited_by flights number asked.group position || was_run trace position) ≡ true

-- each run that so many workers are asked for is awaited or was performed
abbrev pub AreAccounted : List Flight → ℕ → List Directed → List ran_type → Type 0
AreAccounted flights workers put trace =
    (number : ℕ) → number < workers → (place : ℕ) (asked : Asked)
    → asked_at (session_of (orders_to number put)).groups place ≡ Some asked → IsAccounted flights trace number asked

-- groups that came from instances are of instances before this one, no two of the same
pub record AreSeparate (instance : ℕ) (groups : List Group) : Type 0 where
  pub before : (number : ℕ) (group : Group) → slice_get groups number ≡ Some group
      → is_from_instance group.source ≡ true → group.instance < instance
  pub apart : (one other : ℕ) (first second : Group) → slice_get groups one ≡ Some first
      → slice_get groups other ≡ Some second → is_from_instance first.source ≡ true
      → is_from_instance second.source ≡ true → first.instance ≡ second.instance → one ≡ other

-- so they are at each of so many workers
abbrev pub AreAllSeparate : ℕ → ℕ → List Directed → Type 0
AreAllSeparate instance workers put =
    (number : ℕ) → number < workers → AreSeparate instance (session_of (orders_to number put)).groups

-- A controller is in its first epoch, and all its workers are live.
pub record IsOnCourse (s : ClusterState) : Type 0 where
  pub live : s.control.live ≡ replicate s.setup.workers true
  pub place : s.control.place ≡ s.setup.place
  pub epoch : s.control.epoch ≡ 0
  pub once : (number : ℕ) → number < s.setup.workers → BeginOnce s.control.pending (orders_to number s.put)

-- A cluster is under way.
pub record IsUnderWay (s : ClusterState) : Type 0 where
  pub least : 1 ≤ s.setup.workers
  pub most : s.setup.workers ≤ 16
  pub leads : Leads s.job s.control s.put
  pub course : IsOnCourse s
  pub nodes : AreUnderWay s
  pub accounted : AreAccounted s.control.flight s.setup.workers s.put s.trace
  pub separate : AreAllSeparate s.control.instance s.setup.workers s.put
  pub settled : s.control.outcome ≡ Some Done → s.control.flight ≡ []
  pub some : s.control.outcome ≢ Some NoWorker
  pub done : All (IsDone s.nodes) s.trace
  pub reads : All (ReadsByOrder s.job) s.trace
  pub once : AreOnce s.trace

-- ---- what the two halves of the proof give each other

-- No position stands at two places: of commands that two workers are asked for, or one at two places.
abbrev pub AreApart : ClusterState → Type 0
AreApart s =
    (one other : ℕ) → one < s.setup.workers → other < s.setup.workers → (place there position : ℕ)
    → run_placed (orders_to one s.put) place ≡ position ∷ []
    → run_placed (orders_to other s.put) there ≡ position ∷ []
    → (one ≡ other) × (place ≡ there)

-- Workers and their links from event to event.
pub record NodesGoOn : Type 0 where
  -- they are under way at first
  pub starts : (job : Job) (setup : Setup) → is_whole job ≡ true → AreUnderWay (unbegun job setup)
  -- and behind a turn of the controller, where its orders begin one epoch
  pub turned : (before after : ClusterState) (turn : HasTurned before after) → AreUnderWay before
      → ((number : ℕ) → number < before.setup.workers
      → BeginOnce turn.control.pending (orders_to number (before.put ++ turn.orders)))
      → AreUnderWay after
  pub done_turned : (before after : ClusterState) → HasTurned before after → All (IsDone before.nodes) before.trace
      → All (IsDone after.nodes) after.trace
  -- and behind what an enabled event does before the turn
  pub moved : (s : ClusterState) (event : Event) → IsUnderWay s → is_enabled s event ≡ true
      → AreUnderWay (passed s event)
  pub done : (s : ClusterState) (event : Event) → IsUnderWay s → is_enabled s event ≡ true
      → All (IsDone (passed s event).nodes) (passed s event).trace
  pub reads : (s : ClusterState) (event : Event) → IsUnderWay s → is_enabled s event ≡ true
      → All (ReadsByOrder s.job) (passed s event).trace
  -- a run that a worker was asked for so far stands at the same place in all orders
  pub placed : (s : ClusterState) (number : ℕ) (node : Node) → IsUnderWay s → slice_get s.nodes number ≡ Some node
      → (place position : ℕ) → position_at (state_of node.happened) place ≡ position ∷ []
      → run_placed (orders_to number s.put) place ≡ position ∷ []
