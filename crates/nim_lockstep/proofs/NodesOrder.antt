-- A worker takes its next order.
use Rattle.std.proofs.Common.{◌≡◌, ◌≢◌, ℕ, ◌<◌, Bool, true, false, List, [], ◌∷◌, ◌++◌, length, refl, ap, sym, subst, ◌∙◌, arith, Option, None, Some, All}
use Rattle.std.specs.Prelude.{if◌then◌else◌, IfSome}
use Rattle.std.specs.Option.{option_map, option_map_or}
use Rattle.std.proofs.lemmas.List.{append_assoc}
use Rattle.std.proofs.lemmas.List.Concat.{flat_map-append}
use Rattle.std.proofs.lemmas.List.Elements.{All-weaker}
use Rattle.std.proofs.lemmas.List.Sums.{fold-append}
use Rattle.nim_command.specs.Covered.{is_covered}
use Rattle.nim_command.specs.Waits.{Group, placed_commands}
use Rattle.nim_message.specs.declared.order.ToWorker.{ToWorker}
use Rattle.nim_message.specs.Orders.{Session, after_order, no_session, session_of}
use Rattle.nim_order.specs.Orders.{IsOrderByRule}
use Rattle.nim_order.proofs.Sessions.{orders_cover}
use Rattle.nim_job.specs.declared.job.Job.{Job}
use Rattle.nim_plan.specs.Legal.{IsLegal, MayFollow}
use Rattle.nim_plan.proofs.Steps.{by_steps}
use Rattle.nim_course.specs.declared.pending.Pending.{Pending}
use Rattle.nim_place.specs.TaskRuns.{position_run}
use Rattle.nim_history.specs.History.{Asked, Happening, Ordered, WorkerState, asked_at, order_in, ordered, orders_in, state_of}
use Rattle.nim_history.specs.InTurn.{MayAllComplete, is_reset}
use Rattle.nim_history.proofs.GoesOn.{history_goes_on, truth_goes_on}
use Rattle.nim_history.proofs.InTurn.{commands_in_turn}
use Rattle.nim_history.proofs.Ordered.{order_grows, ordered_is}
use Rattle.nim_lockstep.specs.declared.ran.Ran.{Ran}
use Rattle.nim_lockstep.specs.Cluster.{Batched, Node}
use Rattle.nim_lockstep.specs.Nodes.{batch_after, order_taken}
use Rattle.nim_lockstep.proofs.NodesAt.{IsPast}
use Rattle.nim_lockstep.proofs.NodesLists.{All_front, flat_map_same}
use Rattle.nim_lockstep.proofs.NodesOnce.{no_run, position_in, reset_first, run_still}
use Rattle.nim_lockstep.proofs.NodesRan.{ordered_traced}
use Rattle.nim_lockstep.proofs.UnderWay.{AreTraced, BeginOnce, IsBatchRight, IsNodeUnderWay, position_at}

-- What is known of all orders to a worker: they may be given, their before sets are those of the rule, and they begin one
-- epoch.
pub record AreGiven (job : Job) (pending : Pending) (orders : List ToWorker) : Type 0 where
  pub legal : IsLegal job orders
  pub rule : All IsOrderByRule orders
  pub once : BeginOnce pending orders

-- what a worker has come to once it took an order
order_state : (happened : List Happening) (order : ToWorker) → state_of (happened ++ Ordered order ∷ []) ≡ ordered (state_of happened) order
order_state happened order = history_goes_on.state happened (Ordered order ∷ [])

order_link : (happened : List Happening) (order : ToWorker) (rest sent : List ToWorker) → orders_in happened ++ order ∷ rest ≡ sent
    → orders_in (happened ++ Ordered order ∷ []) ++ rest ≡ sent
order_link happened order rest sent link =
    ap (λ (orders : List ToWorker). orders ++ rest) (flat_map-append order_in happened (Ordered order ∷ []))
    ∙ append_assoc (orders_in happened) (order ∷ []) rest ∙ link

-- the next order may follow, and all is covered behind it
order_follows : (job : Job) (orders : List ToWorker) (order : ToWorker) (rest : List ToWorker) → IsLegal job (orders ++ order ∷ rest)
    → MayFollow job orders order
order_follows job orders order rest legal =
    by_steps.last job orders order
    (by_steps.front job (orders ++ order ∷ []) rest (subst (IsLegal job) (sym (append_assoc orders (order ∷ []) rest)) legal))

order_covered : (orders : List ToWorker) (order : ToWorker) (rest : List ToWorker) → All IsOrderByRule (orders ++ order ∷ rest)
    → is_covered (placed_commands (after_order (session_of orders) order).groups) ≡ true
order_covered orders order rest rule =
    subst (λ (s : Session). is_covered (placed_commands s.groups) ≡ true) (fold-append after_order no_session orders (order ∷ []))
    (orders_cover (orders ++ order ∷ [])
    (All_front IsOrderByRule (orders ++ order ∷ []) rest (subst (All IsOrderByRule) (sym (append_assoc orders (order ∷ []) rest)) rule)))

-- before its first order nothing is asked of a worker
pub none_asked : (happened : List Happening) → orders_in happened ≡ [] → (state_of happened).session.groups ≡ []
none_asked happened none =
    ap (λ (s : Session). s.groups) (history_goes_on.session happened) ∙ ap (λ (orders : List ToWorker). (session_of orders).groups) none

-- ---- the batch that is out

never_out : (state : WorkerState) (places : List ℕ) → state.session.groups ≡ [] → places ≢ [] → MayAllComplete state places → ⊥
never_out state [] none some may = some refl
never_out state (place ∷ places) none some may =
    let within : place < length (placed_commands []) =
    subst (λ (groups : List Group). place < length (placed_commands groups)) none may.0.released.within in
    omega (arith, within)

batch_ordered : (job : Job) (number : ℕ) (state : WorkerState) (order : ToWorker) (b : Batched) → is_reset order ≡ false → IsBatchRight job number state b
    → IsBatchRight job number (ordered state order) b
batch_ordered job number state order b other is = record {
  fresh = is.fresh;
  some = is.some;
  may = commands_in_turn.orders state order b.places other is.may;
  runs = is.runs
      ∙ sym (flat_map_same (position_at (ordered state order)) (position_at state) b.places
      (All-weaker (λ place. asked_at (ordered state order).session.groups place ≡ asked_at state.session.groups place)
      (λ place. position_at (ordered state order) place ≡ position_at state place)
      (λ place same. ap (λ (o : Option Asked). option_map_or (λ (a : Asked). position_run a.command.kind) o []) same) b.places
      (commands_in_turn.same state order b.places other is.may)));
  workers = is.workers;
  epochs = is.epochs;
  reads = is.reads;
}

batch_out : (job : Job) (number : ℕ) (state : WorkerState) (order : ToWorker) (batch : Option Batched)
    → (is_reset order ≡ true → state.session.groups ≡ []) → IfSome batch (IsBatchRight job number state)
    → IfSome (batch_after order batch) (IsBatchRight job number (ordered state order))
batch_out job number state order batch none is = either (is_reset order) refl batch is where
  either : (reset : Bool) → is_reset order ≡ reset → (batch : Option Batched) → IfSome batch (IsBatchRight job number state)
      → IfSome (if reset then option_map (λ (b : Batched). record b { stale = true }) batch else batch) (IsBatchRight job number (ordered state order))
  either true reset None is = tt
  either true reset (Some b) is = absurd (never_out state b.places (none reset) is.some is.may)
  either false other None is = tt
  either false other (Some b) is = batch_ordered job number state order b other is

-- ---- the worker

taken_way : (job : Job) (workers number : ℕ) (trace : List Ran) (pending : Pending) (sent orders : List ToWorker) (node : Node) → AreGiven job pending sent
    → orders_in node.happened ++ orders ≡ sent → IsNodeUnderWay job workers number trace sent node
    → IsNodeUnderWay job workers number trace sent (order_taken orders node)
taken_way job workers number trace pending sent [] node given link is = is
taken_way job workers number trace pending sent (order ∷ rest) node given link is =
    let front : List ToWorker = orders_in node.happened in
    record {
      link = order_link node.happened order rest sent link;
      history = history_goes_on.may node.happened (Ordered order ∷ []) is.history (tt, tt);
      handed = truth_goes_on.ordered job node.happened order is.handed
          (order_follows job front order rest (subst (IsLegal job) (sym link) given.legal))
          (order_covered front order rest (subst (All IsOrderByRule) (sym link) given.rule));
      senders = is.senders;
      waiting = record { reports = is.waiting.reports; frames = is.waiting.frames };
      ran = subst (AreTraced trace) (sym (order_state node.happened order)) (ordered_traced trace node.happened order is.ran);
      told = is.told;
      batch = subst (λ (state : WorkerState). IfSome (batch_after order node.batch) (IsBatchRight job number state)) (sym (order_state node.happened order))
          (batch_out job number (state_of node.happened) order node.batch
          (λ reset. none_asked node.happened (reset_first pending front order rest (subst (BeginOnce pending) (sym link) given.once) reset)) is.batch);
    }

pub order_way : (job : Job) (workers number : ℕ) (trace : List Ran) (pending : Pending) (sent : List ToWorker) (node : Node) → AreGiven job pending sent
    → IsNodeUnderWay job workers number trace sent node → IsNodeUnderWay job workers number trace sent (order_taken node.orders node)
order_way job workers number trace pending sent node given is = taken_way job workers number trace pending sent node.orders node given is.link is

-- ---- runs that are complete

ordered_past : (state : WorkerState) (order : ToWorker) → (is_reset order ≡ true → state.session.groups ≡ []) → IsPast state (ordered state order)
ordered_past state order none = either (is_reset order) refl where
  either : (reset : Bool) → is_reset order ≡ reset → IsPast state (ordered state order)
  either true reset = λ place position ran is. absurd (no_run state.session.groups place position (none reset) is)
  either false other =
      let grows = order_grows state.session order other in
      subst (IsPast state) (sym (ordered_is state order other))
      (λ place position ran is. (
        ran,
        ap (λ (groups : List Group). position_in groups place) grows.1 ∙ run_still state.session.groups grows.0 place position is,
      ))

taken_past : (pending : Pending) (orders : List ToWorker) (node : Node) → BeginOnce pending (orders_in node.happened ++ orders)
    → IsPast (state_of node.happened) (state_of (order_taken orders node).happened)
taken_past pending [] node once = λ place position ran is. (ran, is)
taken_past pending (order ∷ rest) node once =
    subst (IsPast (state_of node.happened)) (sym (order_state node.happened order))
    (ordered_past (state_of node.happened) order
    (λ reset. none_asked node.happened (reset_first pending (orders_in node.happened) order rest once reset)))

pub order_past : (pending : Pending) (node : Node) → BeginOnce pending (orders_in node.happened ++ node.orders)
    → IsPast (state_of node.happened) (state_of (order_taken node.orders node).happened)
order_past pending node once = taken_past pending node.orders node once
