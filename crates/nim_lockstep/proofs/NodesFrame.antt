-- A worker takes the next frame from another.
use Rattle.std.proofs.Common.{◌≡◌, ℕ, Bool, true, false, List, [], ◌∷◌, ◌++◌, ap, sym, subst, ◌∙◌, Option, None, Some, All}
use Rattle.std.specs.Prelude.{nat_lt, if◌then◌else◌, IfSome}
use Rattle.std.specs.FinMap as map
use Rattle.std.specs.List.{flat_map}
use Rattle.std.proofs.lemmas.List.{append-nil, length-set}
use Rattle.std.proofs.lemmas.List.Concat.{flat_map-append}
use Rattle.std.proofs.lemmas.List.Elements.{All-head, All-nil, All-set, All-tail}
use Rattle.nim_message.specs.declared.frame.Data.{Data}
use Rattle.nim_message.specs.declared.order.ToWorker.{ToWorker}
use Rattle.nim_message.specs.Orders.{Session}
use Rattle.nim_job.specs.declared.job.Job.{Job}
use Rattle.nim_plan.specs.Good.{IsGoodFrame}
use Rattle.nim_store.specs.Keys.{key_of}
use Rattle.nim_history.specs.History.{Framed, Happening, WorkerState, framed, order_in, orders_in, state_of}
use Rattle.nim_history.proofs.GoesOn.{history_goes_on, truth_goes_on}
use Rattle.nim_history.proofs.InTurn.{commands_in_turn}
use Rattle.nim_history.proofs.Ordered.{framed_session}
use Rattle.nim_lockstep.specs.declared.ran.Ran.{Ran}
use Rattle.nim_lockstep.specs.Cluster.{Batched, Node}
use Rattle.nim_lockstep.specs.Nodes.{frame_taken, frames_from}
use Rattle.nim_lockstep.proofs.NodesAt.{IsPast}
use Rattle.nim_lockstep.proofs.NodesLists.{All_at}
use Rattle.nim_lockstep.proofs.NodesOnce.{position_in}
use Rattle.nim_lockstep.proofs.NodesRan.{framed_traced}
use Rattle.nim_lockstep.proofs.UnderWay.{AreTraced, IsBatchRight, IsNodeUnderWay}

frame_orders : (happened : List Happening) (frame : Data) → orders_in (happened ++ Framed frame ∷ []) ≡ orders_in happened
frame_orders happened frame = flat_map-append order_in happened (Framed frame ∷ []) ∙ append-nil (orders_in happened)

frame_state : (happened : List Happening) (frame : Data) → state_of (happened ++ Framed frame ∷ []) ≡ framed (state_of happened) frame
frame_state happened frame = history_goes_on.state happened (Framed frame ∷ [])

batch_framed : (job : Job) (number : ℕ) (state : WorkerState) (frame : Data) (batch : Option Batched) → IfSome batch (IsBatchRight job number state)
    → IfSome batch (IsBatchRight job number (framed state frame))
batch_framed job number state frame None is = tt
batch_framed job number state frame (Some b) is = record {
  fresh = is.fresh;
  some = is.some;
  may = commands_in_turn.frames state frame b.places is.may;
  runs = is.runs ∙ ap (λ (session : Session). flat_map (position_in session.groups) b.places) (sym (framed_session state frame));
  workers = is.workers;
  epochs = is.epochs;
  reads = is.reads;
}

taken_way : (job : Job) (workers number : ℕ) (trace : List Ran) (sent : List ToWorker) (from : ℕ) (frames : List Data) (node : Node)
    → All (IsGoodFrame job) frames → IsNodeUnderWay job workers number trace sent node
    → IsNodeUnderWay job workers number trace sent (frame_taken from frames node)
taken_way job workers number trace sent from [] node good is = is
taken_way job workers number trace sent from (frame ∷ rest) node good is = record {
  link = ap (λ (orders : List ToWorker). orders ++ node.orders) (frame_orders node.happened frame) ∙ is.link;
  history = history_goes_on.may node.happened (Framed frame ∷ []) is.history (tt, tt);
  handed = truth_goes_on.framed job node.happened frame is.handed (All-head (IsGoodFrame job) frame rest good);
  senders = length-set node.frames from rest ∙ is.senders;
  waiting = record {
    reports = is.waiting.reports;
    frames = All-set (All (IsGoodFrame job)) node.frames from rest (All-tail (IsGoodFrame job) frame rest good) is.waiting.frames;
  };
  ran = subst (AreTraced trace) (sym (frame_state node.happened frame)) (framed_traced trace (state_of node.happened) frame is.ran);
  told = is.told;
  batch = subst (λ (state : WorkerState). IfSome node.batch (IsBatchRight job number state)) (sym (frame_state node.happened frame))
      (batch_framed job number (state_of node.happened) frame node.batch is.batch);
}

-- what waits from a worker is true
pub frames_good : (job : Job) (from : ℕ) (node : Node) → All (All (IsGoodFrame job)) node.frames → All (IsGoodFrame job) (frames_from from node)
frames_good job from node good = All_at (All (IsGoodFrame job)) node.frames from [] good (All-nil (IsGoodFrame job))

pub frame_way : (job : Job) (workers number : ℕ) (trace : List Ran) (sent : List ToWorker) (from : ℕ) (node : Node)
    → IsNodeUnderWay job workers number trace sent node
    → IsNodeUnderWay job workers number trace sent (frame_taken from (frames_from from node) node)
frame_way job workers number trace sent from node is =
    taken_way job workers number trace sent from (frames_from from node) node (frames_good job from node is.waiting.frames) is

framed_past : (state : WorkerState) (frame : Data) → IsPast state (framed state frame)
framed_past state frame = either (nat_lt frame.epoch state.session.epoch) where
  either : (b : Bool) → IsPast state (if b then state else record state { inbox = map.insert state.inbox (key_of frame) frame.value })
  either true = λ place position ran is. (ran, is)
  either false = λ place position ran is. (ran, is)

taken_past : (from : ℕ) (frames : List Data) (node : Node) → IsPast (state_of node.happened) (state_of (frame_taken from frames node).happened)
taken_past from [] node = λ place position ran is. (ran, is)
taken_past from (frame ∷ rest) node =
    subst (IsPast (state_of node.happened)) (sym (frame_state node.happened frame)) (framed_past (state_of node.happened) frame)

pub frame_past : (from : ℕ) (node : Node) → IsPast (state_of node.happened) (state_of (frame_taken from (frames_from from node) node).happened)
frame_past from node = taken_past from (frames_from from node) node
