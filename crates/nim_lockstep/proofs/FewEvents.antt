-- Each event that is done uses something up.
use Rattle.std.proofs.Common.{◌≡◌, ℕ, ◌+◌, ◌*◌, ◌≤◌, ◌<◌, Bool, true, false, not, List, [], ◌∷◌, ◌++◌, length, refl, sym, subst, arith, Option, None, Some}
use Rattle.std.specs.Prelude.{IfSome, slice_get, slice_set}
use Rattle.std.specs.Option.{is_some, option_map_or}
use Rattle.std.proofs.lemmas.Bool.{and_parts, both_ways}
use Rattle.std.proofs.lemmas.Option.{slice_get_within}
use Rattle.nim_command.specs.Waits.{Group, commands_of}
use Rattle.nim_message.specs.declared.order.ToWorker.{ToWorker}
use Rattle.nim_message.specs.declared.report.FromWorker.{FromWorker}
use Rattle.nim_schedule.specs.declared.event.Event.{Event}
use Rattle.nim_schedule.specs.declared.event.Event.TheVariants.{Order, Report, Data, Begin, Finish, Lose, Propose}
use Rattle.nim_place.specs.Extends.{is_live, worker_of}
use Rattle.nim_history.specs.History.{orders_in, state_of}
use Rattle.nim_history.specs.InTurn.{is_reset}
use Rattle.nim_lockstep.specs.Cluster.{Batched, ClusterState, Node, has_ended}
use Rattle.nim_lockstep.specs.Events.{at_node, batch_finished, is_enabled, may_come, of_live, out_sent, passed, report_taken}
use Rattle.nim_lockstep.specs.Nodes.{batch_begun, finished, frame_taken, frames_from, has_any, may_begin, may_finish, may_frame, may_order, may_report, order_taken, outs_by}
use Rattle.nim_lockstep.proofs.FewNodes.{Uses, all_use, done_at, dones, loads, uses_begin, uses_finish, uses_frame, uses_order, uses_report}
use Rattle.nim_lockstep.proofs.FewOuts.{few_given, ran_finished, some_places}
use Rattle.nim_lockstep.proofs.FewRan.{few_ran}
use Rattle.nim_lockstep.proofs.FewSent.{Adds, adds_all, adds_out}
use Rattle.nim_lockstep.proofs.Keeping.{finished_to}
use Rattle.nim_lockstep.proofs.NodesOnce.{reset_first}
use Rattle.nim_lockstep.proofs.NodesOrder.{none_asked}
use Rattle.nim_lockstep.proofs.UnderWay.{BeginOnce, IsBatchRight, IsUnderWay}

-- One thing was used up, and nothing else that counts changed.
pub record Takes (before after : ClusterState) : Type 0 where
  pub setup : after.setup ≡ before.setup
  pub put : after.put ≡ before.put
  pub given : after.given ≡ before.given
  pub used : loads after.nodes + 4 * dones before.nodes + 1 ≤ loads before.nodes + 4 * dones after.nodes

-- ---- the worker of an event

-- a worker is there that may
record IsThere (nodes : List Node) (may : Node → Bool) (number : ℕ) : Type 0 where
  node : Node
  there : slice_get nodes number ≡ Some node
  does : may node ≡ true

live_there : (s : ClusterState) (may : Node → Bool) (number : ℕ) → of_live s may number ≡ true → IsThere s.nodes may number
live_there s may number is =
    either (slice_get s.nodes number) refl
    (and_parts (is_live s.control.live (worker_of number)) (option_map_or may (slice_get s.nodes number) false) is).1 where
      either : (o : Option Node) → slice_get s.nodes number ≡ o → option_map_or may o false ≡ true → IsThere s.nodes may number
      either None there is = absurd (both_ways false refl is)
      either (Some node) there is = record { node = node; there = there; does = is }

-- it changes, and has used something up
node_takes : (s : ClusterState) (change : Node → Node) (number : ℕ) (node : Node) → slice_get s.nodes number ≡ Some node → Uses 1 node (change node)
    → Takes s (at_node change number s)
node_takes s change number node there uses =
    subst (λ (o : Option Node). Takes s (option_map_or (λ (n : Node). record s { nodes = slice_set s.nodes number (change n) }) o s)) (sym there)
    (record { setup = refl; put = refl; given = refl; used = all_use 1 s.nodes number node (change node) there uses })

-- ---- an order

-- before a Reset nothing is complete
none_before : (s : ClusterState) (number : ℕ) (node : Node) → IsUnderWay s → slice_get s.nodes number ≡ Some node
    → (order : ToWorker) (rest : List ToWorker) → node.orders ≡ order ∷ rest → is_reset order ≡ true → done_at node ≤ 0
none_before s number node under there order rest is reset =
    let own = under.nodes.each number node there in
    let within : number < s.setup.workers = omega (arith, slice_get_within s.nodes number node there, under.nodes.nodes) in
    let once : BeginOnce s.control.pending (orders_in node.happened ++ order ∷ rest) =
    subst (λ (orders : List ToWorker). BeginOnce s.control.pending (orders_in node.happened ++ orders)) is
    (subst (BeginOnce s.control.pending) (sym own.link) (under.course.once number within)) in
    let none : (state_of node.happened).session.groups ≡ [] =
    none_asked node.happened (reset_first s.control.pending (orders_in node.happened) order rest once reset) in
    subst (λ (groups : List Group). done_at node ≤ length (commands_of groups)) none (few_ran node.happened own.history)

order_takes : (s : ClusterState) (worker : ℕ) → IsUnderWay s → IsThere s.nodes may_order worker → Takes s (passed s (Order worker))
order_takes s worker under is =
    node_takes s (λ (node : Node). order_taken node.orders node) worker is.node is.there
    (uses_order is.node.orders is.node refl is.does (none_before s worker is.node under is.there))

-- ---- a report

report_takes : (s : ClusterState) (worker : ℕ) (node : Node) (reports : List FromWorker) → slice_get s.nodes worker ≡ Some node → node.reports ≡ reports
    → has_any reports ≡ true → Takes s (report_taken worker node reports s)
report_takes s worker node [] there is any = absurd (both_ways false refl any)
report_takes s worker node (report ∷ rest) there is any = record {
  setup = refl;
  put = refl;
  given = refl;
  used = all_use 1 s.nodes worker node (record node { reports = rest }) there (uses_report node report rest is);
}

reported_takes : (s : ClusterState) (worker : ℕ) → IsThere s.nodes may_report worker → Takes s (passed s (Report worker))
reported_takes s worker is =
    subst (λ (o : Option Node). Takes s (option_map_or (λ (node : Node). report_taken worker node node.reports s) o s)) (sym is.there)
    (report_takes s worker is.node is.node.reports is.there refl is.does)

-- ---- a batch that is finished

finish_takes : (s : ClusterState) (worker : ℕ) (node : Node) (b : Batched) → slice_get s.nodes worker ≡ Some node → node.batch ≡ Some b
    → IsBatchRight s.job worker (state_of node.happened) b → Takes s (batch_finished worker node s b)
finish_takes s worker node b there out right =
    let count : ℕ = length b.places in
    let uses : Uses (2 * count + 1) node (finished b node) =
    uses_finish node b count out (some_places b.places right.some) (ran_finished node b right.fresh right.may) in
    let sent : Adds (length (outs_by b node)) (finished_to worker node s b) (batch_finished worker node s b) =
    adds_all (out_sent worker) (adds_out worker) (outs_by b node) (finished_to worker node s b) in
    record {
      setup = sent.setup;
      put = sent.put;
      given = sent.given;
      used = omega (
        arith,
        sent.loads,
        sent.dones,
        few_given node b right.fresh,
        all_use (2 * count + 1) s.nodes worker node (finished b node) there uses,
      );
    }

batch_takes : (s : ClusterState) (worker : ℕ) (node : Node) (batch : Option Batched) → slice_get s.nodes worker ≡ Some node → node.batch ≡ batch
    → is_some batch ≡ true → IfSome batch (IsBatchRight s.job worker (state_of node.happened))
    → Takes s (option_map_or (λ (b : Batched). batch_finished worker node s b) batch s)
batch_takes s worker node None there out some right = absurd (both_ways false refl some)
batch_takes s worker node (Some b) there out some right = finish_takes s worker node b there out right

finished_takes : (s : ClusterState) (worker : ℕ) → IsUnderWay s → IsThere s.nodes may_finish worker → Takes s (passed s (Finish worker))
finished_takes s worker under is =
    subst (λ (o : Option Node). Takes s (option_map_or (λ (node : Node). option_map_or (λ (b : Batched). batch_finished worker node s b) node.batch s) o s))
    (sym is.there)
    (batch_takes s worker is.node is.node.batch is.there refl is.does (under.nodes.each worker is.node is.there).batch)

-- ---- each event

coming_takes : (s : ClusterState) (event : Event) → IsUnderWay s → may_come s event ≡ true → Takes s (passed s event)
coming_takes s (Order worker) under may = order_takes s worker under (live_there s may_order worker may)
coming_takes s (Report worker) under may = reported_takes s worker (live_there s may_report worker may)
coming_takes s (Data from to) under may =
    let is = live_there s (may_frame from) to may in
    node_takes s (λ (node : Node). frame_taken from (frames_from from node) node) to is.node is.there
    (uses_frame from (frames_from from is.node) is.node refl is.does)
coming_takes s (Begin worker most) under may =
    let is = live_there s (may_begin most) worker may in
    node_takes s (batch_begun (worker_of worker) most) worker is.node is.there (uses_begin (worker_of worker) most is.node is.does)
coming_takes s (Finish worker) under may = finished_takes s worker under (live_there s may_finish worker may)
coming_takes s (Lose worker) under may = absurd (both_ways false refl may)
coming_takes s (Propose block task to) under may = absurd (both_ways false refl may)

pub event_takes : (s : ClusterState) (event : Event) → IsUnderWay s → is_enabled s event ≡ true → Takes s (passed s event)
event_takes s event under enabled = coming_takes s event under (and_parts (not (has_ended s)) (may_come s event) enabled).1
