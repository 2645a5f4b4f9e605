-- What an event does to the worker that it names.
use Rattle.std.specs.Prelude.{◌≡◌, ◌<◌, ℕ, Bool, false, List, [], ◌∷◌, ◌++◌, Option, None, Some, slice_get}
use Rattle.nim_schedule.specs.declared.event.Event.{Event}
use Rattle.nim_schedule.specs.declared.event.Event.TheVariants.{Order, Report, Data, Begin, Finish, Lose, Propose}
use Rattle.nim_history.specs.declared.out.Out.{Out}
use Rattle.nim_lockstep.specs.declared.ran.Ran.{Ran}
use Rattle.nim_lockstep.specs.Cluster.{Batched, ClusterState, Node}
use Rattle.nim_lockstep.specs.Events.{IsPassed}
use Rattle.nim_lockstep.specs.Nodes.{finished, may_begin, may_finish, may_frame, may_order, may_report, outs_by, runs_by}
use Rattle.nim_cluster.specs.declared.cluster.Cluster.{Cluster}
use Rattle.nim_cluster.specs.declared.node.Node.{Node as kept_node}
use Rattle.nim_cluster.specs.Stands.{IsNodeIdle, IsNode, ClusterStands}

-- the worker that takes, begins or finishes something by an event
abbrev pub number_in : Event → ℕ
number_in (Order worker) = worker
number_in (Report worker) = worker
number_in (Data from to) = to
number_in (Begin worker most) = worker
number_in (Finish worker) = worker
number_in (Lose worker) = worker
number_in (Propose block task to) = to

-- whether it may
abbrev pub may_take : Event → Node → Bool
may_take (Order worker) node = may_order node
may_take (Report worker) node = may_report node
may_take (Data from to) node = may_frame from node
may_take (Begin worker most) node = may_begin most node
may_take (Finish worker) node = may_finish node
may_take (Lose worker) node = false
may_take (Propose block task to) node = false

-- none waits at the first so many workers
abbrev pub AreNodesIdle : ℕ → List Node → Type 0
AreNodesIdle count nodes = (to : ℕ) (node : Node) → to < count → slice_get nodes to ≡ Some node → IsNodeIdle node

-- the first of these was taken, if there is one
abbrev pub Took : {X : Type 0} → List X → Option X → List X → Type 0
Took before None after = (before ≡ []) × (after ≡ [])
Took before (Some x) after = before ≡ x ∷ after

-- A worker finished this batch: it gave this, and its runs are behind the trace.
pub record IsFinished (number : ℕ) (before : Node) (b : Batched) (new : kept_node) (gave : List Out)
    (old_trace new_trace : List Ran) : Type 0 where
  pub node : IsNode number new (finished b before)
  pub outs : gave ≡ outs_by b before
  pub trace : new_trace ≡ old_trace ++ runs_by b

-- A cluster has come to what an event leads to.
pub record HasPassed (before : ClusterState) (event : Event) (cluster : Cluster) : Type 0 where
  pub after : ClusterState
  pub passed : IsPassed before event after
  pub stands : ClusterStands cluster after
