-- Workers and their links from event to event.
use Rattle.std.proofs.Common.{◌≡◌, ℕ, ◌<◌, ◌≤◌, true, false, not, List, [], ◌∷◌, ◌++◌, refl, ap, sym, subst, ◌∙◌, arith, Option, None, Some}
use Rattle.std.specs.Prelude.{◌&&◌, nat_le, IfSome, slice_get}
use Rattle.std.specs.Option.{is_some, option_map_or}
use Rattle.std.proofs.lemmas.Bool.{and_parts, leb-true}
use Rattle.std.proofs.lemmas.Option.{slice_get_within}
use Rattle.nim_message.specs.declared.order.ToWorker.{ToWorker}
use Rattle.nim_message.specs.Orders.{Session, session_of}
use Rattle.nim_schedule.specs.declared.event.Event.{Event}
use Rattle.nim_schedule.specs.declared.event.Event.TheVariants.{Order, Report, Data, Begin, Finish, Lose, Propose}
use Rattle.nim_job.specs.declared.job.Job.{Job}
use Rattle.nim_place.specs.Extends.{is_live, worker_of}
use Rattle.nim_course.specs.declared.pending.Pending.{Pending}
use Rattle.nim_course.specs.declared.pending.Pending.TheVariants as pendings
use Rattle.nim_course.specs.Controller.{Controller}
use Rattle.nim_place.specs.Directed.{Directed, orders_to}
use Rattle.nim_course.specs.Leads.{AreLeadingFor}
use Rattle.nim_history.specs.History.{orders_in, state_of}
use Rattle.nim_history.proofs.GoesOn.{history_goes_on}
use Rattle.nim_worker.specs.Taken.{has_released}
use Rattle.nim_lockstep.specs.Cluster.{Batched, ClusterState, Node, has_ended}
use Rattle.nim_lockstep.specs.Events.{batch_finished, is_enabled, may_come, passed, report_taken}
use Rattle.nim_lockstep.specs.Nodes.{batch_begun, frame_taken, frames_from, may_begin, order_taken}
use Rattle.nim_lockstep.proofs.NodesAt.{GoesWell, at_well}
use Rattle.nim_lockstep.proofs.NodesBegin.{begun_way}
use Rattle.nim_lockstep.proofs.NodesFinish.{finish_well}
use Rattle.nim_lockstep.proofs.NodesFrame.{frame_past, frame_way}
use Rattle.nim_lockstep.proofs.NodesOnce.{epoch_front, placed_front, position_in}
use Rattle.nim_lockstep.proofs.NodesOrder.{AreGiven, order_past, order_way}
use Rattle.nim_lockstep.proofs.NodesReport.{report_well}
use Rattle.nim_lockstep.proofs.NodesSent.{done_turned, turned}
use Rattle.nim_lockstep.proofs.NodesStart.{starts}
use Rattle.nim_lockstep.proofs.UnderWay.{BeginOnce, IsBatchRight, IsUnderWay, NodesGoOn, position_at, run_placed}

-- ---- what is known of a cluster under way

well : (s : ClusterState) → IsUnderWay s → GoesWell s.job s
well s under = record { nodes = under.nodes; done = under.done; reads = under.reads }

-- a worker that is there is one of the cluster's
there_within : (s : ClusterState) (number : ℕ) (node : Node) → IsUnderWay s → slice_get s.nodes number ≡ Some node → number < s.setup.workers
there_within s number node under there =
    let within = slice_get_within s.nodes number node there in omega (arith, within, under.nodes.nodes)

once_at : (s : ClusterState) (number : ℕ) (node : Node) → IsUnderWay s → slice_get s.nodes number ≡ Some node
    → BeginOnce s.control.pending (orders_in node.happened ++ node.orders)
once_at s number node under there =
    subst (BeginOnce s.control.pending) (sym (under.nodes.each number node there).link) (under.course.once number (there_within s number node under there))

given_at : (s : ClusterState) (number : ℕ) (node : Node) → IsUnderWay s → is_live s.control.live (worker_of number) ≡ true
    → slice_get s.nodes number ≡ Some node → AreGiven s.job s.control.pending (orders_to number s.put)
given_at s number node under live there = record {
  legal = under.leads.right.legal (worker_of number) live;
  rule = under.leads.right.rule (worker_of number) live;
  once = under.course.once number (there_within s number node under there);
}

-- all orders are of epoch 0
sent_epoch : (job : Job) (c : Controller) (put : List Directed) (number : ℕ) (pending : Pending) → AreLeadingFor job c put pending
    → BeginOnce pending (orders_to number put) → is_live c.live (worker_of number) ≡ true → c.epoch ≡ 0 → (session_of (orders_to number put)).epoch ≡ 0
sent_epoch job c put number pendings.Begin leading once live first = ap (λ (orders : List ToWorker). (session_of orders).epoch) once
sent_epoch job c put number pending leading once live first = leading.so_far.ask.epoch (worker_of number) live ∙ first

epoch_at : (s : ClusterState) (number : ℕ) (node : Node) → IsUnderWay s → is_live s.control.live (worker_of number) ≡ true
    → slice_get s.nodes number ≡ Some node → (state_of node.happened).session.epoch ≡ 0
epoch_at s number node under live there =
    let link = (under.nodes.each number node there).link in
    ap (λ (session : Session). session.epoch) (history_goes_on.session node.happened)
    ∙ epoch_front s.control.pending (orders_in node.happened) node.orders (once_at s number node under there)
    (ap (λ (orders : List ToWorker). (session_of orders).epoch) link
    ∙ sent_epoch s.job s.control s.put number s.control.pending under.leads.leading (under.course.once number (there_within s number node under there)) live
    under.course.epoch)

-- ---- each event

-- a batch may be begun where a command is released
may_begin_parts : (most : ℕ) (node : Node) → may_begin most node ≡ true → (1 ≤ most) × (has_released (state_of node.happened) ≡ true)
may_begin_parts most node may =
    let last = and_parts _ (has_released (state_of node.happened)) may in
    let front = and_parts (nat_le 1 most && nat_le most 16) (not (is_some node.batch)) last.0 in
    (leb-true 1 most (and_parts (nat_le 1 most) (nat_le most 16) front.0).0, last.1)

begin_well : (s : ClusterState) (worker most : ℕ) → IsUnderWay s → is_enabled s (Begin worker most) ≡ true → GoesWell s.job (passed s (Begin worker most))
begin_well s worker most under enabled =
    let may = and_parts (not (has_ended s)) (may_come s (Begin worker most)) enabled in
    let parts = and_parts (is_live s.control.live (worker_of worker)) (option_map_or (may_begin most) (slice_get s.nodes worker) false) may.1 in
    at_well s (batch_begun (worker_of worker) most) worker (well s under)
    (λ node there is.
    let begins = may_begin_parts most node (ap (λ (o : Option Node). option_map_or (may_begin most) o false) (sym there) ∙ parts.1) in
    begun_way s.job s.setup.workers worker s.trace (orders_to worker s.put) most node under.leads.whole begins.0 begins.1
    (epoch_at s worker node under parts.0 there) is)
    (λ node there place position ran is. (ran, is))

order_well : (s : ClusterState) (worker : ℕ) → IsUnderWay s → is_enabled s (Order worker) ≡ true → GoesWell s.job (passed s (Order worker))
order_well s worker under enabled =
    let may = and_parts (not (has_ended s)) (may_come s (Order worker)) enabled in
    let live = (and_parts (is_live s.control.live (worker_of worker)) _ may.1).0 in
    at_well s (λ (node : Node). order_taken node.orders node) worker (well s under)
    (λ node there is.
    order_way s.job s.setup.workers worker s.trace s.control.pending (orders_to worker s.put) node (given_at s worker node under live there) is)
    (λ node there. order_past s.control.pending node (once_at s worker node under there))

finish_if : (s : ClusterState) (worker : ℕ) → IsUnderWay s → GoesWell s.job (passed s (Finish worker))
finish_if s worker under = either (slice_get s.nodes worker) refl where
  out : (node : Node) → slice_get s.nodes worker ≡ Some node → (o : Option Batched) → IfSome o (IsBatchRight s.job worker (state_of node.happened))
      → GoesWell s.job (option_map_or (λ (b : Batched). batch_finished worker node s b) o s)
  out node there None right = well s under
  out node there (Some b) right =
      finish_well s worker node b under.leads.whole (well s under) (under.course.once worker (there_within s worker node under there)) there right

  either : (o : Option Node) → slice_get s.nodes worker ≡ o
      → GoesWell s.job (option_map_or (λ (node : Node). option_map_or (λ (b : Batched). batch_finished worker node s b) node.batch s) o s)
  either None there = well s under
  either (Some node) there = out node there node.batch (under.nodes.each worker node there).batch

report_if : (s : ClusterState) (worker : ℕ) → IsUnderWay s → GoesWell s.job (passed s (Report worker))
report_if s worker under = either (slice_get s.nodes worker) refl where
  either : (o : Option Node) → slice_get s.nodes worker ≡ o
      → GoesWell s.job (option_map_or (λ (node : Node). report_taken worker node node.reports s) o s)
  either None there = well s under
  either (Some node) there =
      let is = under.nodes.each worker node there in
      report_well s worker node node.reports (well s under) there is.waiting.reports is.told

passed_well : (s : ClusterState) (event : Event) → IsUnderWay s → is_enabled s event ≡ true → GoesWell s.job (passed s event)
passed_well s (Order worker) under enabled = order_well s worker under enabled
passed_well s (Report worker) under enabled = report_if s worker under
passed_well s (Data from to) under enabled =
    at_well s (λ (node : Node). frame_taken from (frames_from from node) node) to (well s under)
    (λ node there is. frame_way s.job s.setup.workers to s.trace (orders_to to s.put) from node is)
    (λ node there. frame_past from node)
passed_well s (Begin worker most) under enabled = begin_well s worker most under enabled
passed_well s (Finish worker) under enabled = finish_if s worker under
passed_well s (Lose worker) under enabled = well s under
passed_well s (Propose block task to) under enabled = well s under

-- ---- all of it

placed : (s : ClusterState) (number : ℕ) (node : Node) → IsUnderWay s → slice_get s.nodes number ≡ Some node
    → (place position : ℕ) → position_at (state_of node.happened) place ≡ position ∷ [] → run_placed (orders_to number s.put) place ≡ position ∷ []
placed s number node under there place position is =
    ap (λ (orders : List ToWorker). run_placed orders place) (sym (under.nodes.each number node there).link)
    ∙ placed_front s.control.pending (orders_in node.happened) node.orders place position (once_at s number node under there)
    (ap (λ (session : Session). position_in session.groups place) (sym (history_goes_on.session node.happened)) ∙ is)

pub nodes_go_on : NodesGoOn
nodes_go_on = record {
  starts = starts;
  turned = turned;
  done_turned = done_turned;
  moved = λ s event under enabled. (passed_well s event under enabled).nodes;
  done = λ s event under enabled. (passed_well s event under enabled).done;
  reads = λ s event under enabled. (passed_well s event under enabled).reads;
  placed = placed;
}
