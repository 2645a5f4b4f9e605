-- A cluster is under way from event to event.
use Rattle.std.proofs.Common.{◌≡◌, ℕ, ◌≤◌, Bool, true, false, not, List, [], ◌∷◌, ◌++◌, refl, sym, subst, Option, None, Some}
use Rattle.std.specs.Prelude.{All, IfSome, slice_get}
use Rattle.std.specs.Option.{is_some, option_map_or}
use Rattle.std.proofs.lemmas.Bool.{and_parts, both_ways, cond-false, not-true}
use Rattle.std.proofs.lemmas.List.Elements.{All-head, All-nil}
use Rattle.nim_base.specs.declared.number.Worker.{Worker}
use Rattle.nim_message.specs.declared.report.FromWorker.{FromWorker}
use Rattle.nim_schedule.specs.declared.event.Event.{Event}
use Rattle.nim_schedule.specs.declared.event.Event.TheVariants.{Order, Report, Data, Begin, Finish, Lose, Propose}
use Rattle.nim_job.specs.declared.job.Job.{Job}
use Rattle.nim_job.specs.Whole.{is_whole}
use Rattle.nim_place.specs.Extends.{worker_of}
use Rattle.nim_plan.specs.Good.{IsGood}
use Rattle.nim_course.specs.declared.outcome.Outcome.{Outcome}
use Rattle.nim_course.specs.declared.setup.Setup.{Setup}
use Rattle.nim_course.specs.Controller.{new_controller}
use Rattle.nim_place.specs.Directed.{orders_to}
use Rattle.nim_course.proofs.Reports.{report_leads}
use Rattle.nim_course.proofs.Starts.{start_leads}
use Rattle.nim_course.proofs.Turns.{turn_leads}
use Rattle.nim_history.specs.History.{Asked, asked_at, state_of}
use Rattle.nim_lockstep.specs.declared.ran.Ran.{Ran}
use Rattle.nim_lockstep.specs.Cluster.{Batched, ClusterState, Node, has_ended, unbegun}
use Rattle.nim_lockstep.specs.Events.{HasTurned, IsPassed, IsStep, at_node, batch_finished, is_enabled, may_come, noted, passed, report_taken}
use Rattle.nim_lockstep.specs.InStep.{AreOnce, ReadsByOrder}
use Rattle.nim_lockstep.specs.Nodes.{batch_begun, frame_taken, frames_from, order_taken, runs_by}
use Rattle.nim_lockstep.proofs.Apart.{are_apart}
use Rattle.nim_lockstep.proofs.Counted.{IsCounted, turn_counted}
use Rattle.nim_lockstep.proofs.Course.{report_keeps, turn_keeps}
use Rattle.nim_lockstep.proofs.Keeping.{finish_beside, finished_to, node_beside, turn_beside, turned_to}
use Rattle.nim_lockstep.proofs.Once.{finish_once}
use Rattle.nim_lockstep.proofs.Planned.{beside_goes, counted_by, planned, together}
use Rattle.nim_lockstep.proofs.Reported.{longer_counted, report_counted}
use Rattle.nim_lockstep.proofs.Separate.{none_separate}
use Rattle.nim_lockstep.proofs.Settled.{none_settled, report_settled, turn_settled}
use Rattle.nim_lockstep.proofs.UnderWay.{AreUnderWay, IsBatchRight, IsDone, IsTold, IsUnderWay, NodesGoOn}

-- ---- the first turn, and the others

-- no worker was asked for anything
unbegun_counted : (job : Job) (setup : Setup) → IsCounted setup (new_controller job setup) [] []
unbegun_counted job setup = record {
  accounted = λ number below place asked there position runs. absurd (none_asked place asked there);
  separate = λ number below. none_separate 0;
} where
  none_asked : (place : ℕ) (asked : Asked) → asked_at [] place ≡ Some asked → ⊥
  none_asked place asked there = cc

pub unbegun_goes : NodesGoOn → (job : Job) (setup : Setup) → is_whole job ≡ true → 1 ≤ setup.workers → setup.workers ≤ 16
    → IsUnderWay (unbegun job setup)
unbegun_goes go job setup whole least most =
    together (unbegun job setup)
    (record {
      least = least;
      most = most;
      leads = start_leads job setup whole least most;
      keeps = record { live = refl; place = refl; epoch = refl; once = λ number below. refl };
      settled = none_settled (new_controller job setup) refl;
    })
    (go.starts job setup whole) (unbegun_counted job setup) (All-nil (IsDone (unbegun job setup).nodes))
    (All-nil (ReadsByOrder job)) tt

pub turn_goes : NodesGoOn → (before after : ClusterState) → IsUnderWay before → HasTurned before after → IsUnderWay after
turn_goes go before after under turned =
    let plan = planned before under in
    let beside = turn_beside before after turned in
    let keeps = turn_keeps before.setup before.control turned.control before.put turned.orders plan.keeps turned.turned in
    beside_goes (turned_to before turned.control turned.orders) after beside
    (record {
      least = under.least;
      most = under.most;
      leads = turn_leads before.job before.control turned.control before.put turned.orders under.leads turned.turned;
      keeps = keeps;
      settled = turn_settled before.control turned.control turned.orders plan.settled turned.turned;
    })
    (turn_counted before.job before.setup before.control turned.control before.put turned.orders before.trace
    (record { leads = under.leads; keeps = plan.keeps }) turned.turned (counted_by before under))
    under.once (go.turned before after turned under.nodes keeps.once) (go.done_turned before after turned under.done)
    (subst (All (ReadsByOrder before.job)) (sym beside.trace) under.reads)

-- ---- what an event does before the turn

-- what the workers' half says of it
record IsHandled (s next : ClusterState) : Type 0 where
  nodes : AreUnderWay next
  done : All (IsDone next.nodes) next.trace
  reads : All (ReadsByOrder s.job) next.trace

node_goes : (s : ClusterState) (change : Node → Node) (number : ℕ) → IsUnderWay s → IsHandled s (at_node change number s)
    → IsUnderWay (at_node change number s)
node_goes s change number under handled =
    beside_goes s (at_node change number s) (node_beside change number s) (planned s under) (counted_by s under) under.once
    handled.nodes handled.done handled.reads

-- a batch that is finished
finish_goes : NodesGoOn → (s : ClusterState) (number : ℕ) (node : Node) (b : Batched) → IsUnderWay s → slice_get s.nodes number ≡ Some node
    → IsBatchRight s.job number (state_of node.happened) b → IsHandled s (batch_finished number node s b) → IsUnderWay (batch_finished number node s b)
finish_goes go s number node b under at right handled =
    let runs : runs_by b ≡ b.runs = cond-false b.stale [] b.runs right.fresh in
    beside_goes (finished_to number node s b) (batch_finished number node s b) (finish_beside number node s b) (planned s under)
    (longer_counted s.setup s.control s.put s.trace (runs_by b) (counted_by s under))
    (subst (λ (more : List Ran). AreOnce (s.trace ++ more)) (sym runs) (finish_once go s number node b under (are_apart s under.leads under.course) at right))
    handled.nodes handled.done handled.reads

batch_goes : NodesGoOn → (s : ClusterState) (number : ℕ) (node : Node) (batch : Option Batched) → IsUnderWay s → slice_get s.nodes number ≡ Some node
    → IfSome batch (IsBatchRight s.job number (state_of node.happened))
    → IsHandled s (option_map_or (λ (b : Batched). batch_finished number node s b) batch s)
    → IsUnderWay (option_map_or (λ (b : Batched). batch_finished number node s b) batch s)
batch_goes go s number node None under at right handled = under
batch_goes go s number node (Some b) under at right handled = finish_goes go s number node b under at right handled

finishes : NodesGoOn → (s : ClusterState) (number : ℕ) → IsUnderWay s → IsHandled s (passed s (Finish number)) → IsUnderWay (passed s (Finish number))
finishes go s number under = either (slice_get s.nodes number) refl where
  either : (o : Option Node) → slice_get s.nodes number ≡ o
      → IsHandled s (option_map_or (λ (node : Node). option_map_or (λ (b : Batched). batch_finished number node s b) node.batch s) o s)
      → IsUnderWay (option_map_or (λ (node : Node). option_map_or (λ (b : Batched). batch_finished number node s b) node.batch s) o s)
  either None at handled = under
  either (Some node) at handled = batch_goes go s number node node.batch under at (under.nodes.each number node at).batch handled

-- a report that is taken
report_goes : (s : ClusterState) (number : ℕ) (node : Node) (report : FromWorker) (rest : List FromWorker) → IsUnderWay s → s.control.outcome ≡ None
    → IsGood s.job report → IsTold (orders_to number s.put) s.trace report → IsHandled s (report_taken number node (report ∷ rest) s)
    → IsUnderWay (report_taken number node (report ∷ rest) s)
report_goes s number node report rest under none good told handled =
    let plan = planned s under in
    let from : Worker = worker_of number in
    together (report_taken number node (report ∷ rest) s)
    (record {
      least = under.least;
      most = under.most;
      leads = report_leads s.job s.control s.put from report under.leads good;
      keeps = report_keeps s.setup s.control s.put from report plan.keeps;
      settled = report_settled s.control from report none;
    })
    handled.nodes (report_counted s.setup s.control s.put number report s.trace told (counted_by s under)) handled.done handled.reads under.once

taken_goes : (s : ClusterState) (number : ℕ) (node : Node) (reports : List FromWorker) → IsUnderWay s → s.control.outcome ≡ None
    → All (IsGood s.job) reports → All (IsTold (orders_to number s.put) s.trace) reports → IsHandled s (report_taken number node reports s)
    → IsUnderWay (report_taken number node reports s)
taken_goes s number node [] under none good told handled = under
taken_goes s number node (report ∷ rest) under none good told handled =
    report_goes s number node report rest under none (All-head (IsGood s.job) report rest good)
    (All-head (IsTold (orders_to number s.put) s.trace) report rest told) handled

reports_go : (s : ClusterState) (number : ℕ) → IsUnderWay s → s.control.outcome ≡ None → IsHandled s (passed s (Report number))
    → IsUnderWay (passed s (Report number))
reports_go s number under none = either (slice_get s.nodes number) refl where
  either : (o : Option Node) → slice_get s.nodes number ≡ o → IsHandled s (option_map_or (λ (node : Node). report_taken number node node.reports s) o s)
      → IsUnderWay (option_map_or (λ (node : Node). report_taken number node node.reports s) o s)
  either None at handled = under
  either (Some node) at handled =
      let own = under.nodes.each number node at in taken_goes s number node node.reports under none own.waiting.reports own.told handled

-- while a job hasn't ended it has no outcome
no_outcome : (o : Option Outcome) → is_some o ≡ false → o ≡ None
no_outcome None is = refl
no_outcome (Some outcome) is = absurd (both_ways true is refl)

enabled_open : (s : ClusterState) (event : Event) → is_enabled s event ≡ true → s.control.outcome ≡ None
enabled_open s event enabled =
    no_outcome s.control.outcome (not-true (has_ended s) (and_parts (not (has_ended s)) (may_come s event) enabled).0)

handled_goes : NodesGoOn → (s : ClusterState) (event : Event) → IsUnderWay s → s.control.outcome ≡ None → IsHandled s (passed s event)
    → IsUnderWay (passed s event)
handled_goes go s (Order number) under none handled = node_goes s (λ (node : Node). order_taken node.orders node) number under handled
handled_goes go s (Report number) under none handled = reports_go s number under none handled
handled_goes go s (Data from to) under none handled = node_goes s (λ (node : Node). frame_taken from (frames_from from node) node) to under handled
handled_goes go s (Begin number most) under none handled = node_goes s (batch_begun (worker_of number) most) number under handled
handled_goes go s (Finish number) under none handled = finishes go s number under handled
handled_goes go s (Lose number) under none handled = under
handled_goes go s (Propose block task to) under none handled = under

pub event_goes : NodesGoOn → (s : ClusterState) (event : Event) → IsUnderWay s → is_enabled s event ≡ true → IsUnderWay (passed s event)
event_goes go s event under enabled =
    handled_goes go s event under (enabled_open s event enabled)
    (record { nodes = go.moved s event under enabled; done = go.done s event under enabled; reads = go.reads s event under enabled })

-- ---- a step

-- that an event was given changes nothing else
pub noted_goes : (s : ClusterState) (event : Event) (done : Bool) → IsUnderWay s → IsUnderWay (noted event done s)
noted_goes s event done under =
    together (noted event done s) (planned s under)
    (record { nodes = under.nodes.nodes; each = under.nodes.each })
    (counted_by s under) under.done under.reads under.once

pub enabled_noted : (s : ClusterState) (event given : Event) (done : Bool) → is_enabled s event ≡ true → is_enabled (noted given done s) event ≡ true
enabled_noted s (Order worker) given done enabled = enabled
enabled_noted s (Report worker) given done enabled = enabled
enabled_noted s (Data from to) given done enabled = enabled
enabled_noted s (Begin worker most) given done enabled = enabled
enabled_noted s (Finish worker) given done enabled = enabled
enabled_noted s (Lose worker) given done enabled = enabled
enabled_noted s (Propose block task to) given done enabled = enabled

-- what an enabled event does, with the turn
passed_goes : NodesGoOn → (s : ClusterState) (event : Event) (after : ClusterState) → IsUnderWay (passed s event) → IsPassed s event after → IsUnderWay after
passed_goes go s (Order worker) after under is = subst IsUnderWay (sym is) under
passed_goes go s (Report worker) after under is = turn_goes go (passed s (Report worker)) after under is
passed_goes go s (Data from to) after under is = subst IsUnderWay (sym is) under
passed_goes go s (Begin worker most) after under is = subst IsUnderWay (sym is) under
passed_goes go s (Finish worker) after under is = subst IsUnderWay (sym is) under
passed_goes go s (Lose worker) after under is = subst IsUnderWay (sym is) under
passed_goes go s (Propose block task to) after under is = subst IsUnderWay (sym is) under

-- behind what an event does before the turn, where it is enabled
pub given_goes : NodesGoOn → (before : ClusterState) (event : Event) → IsUnderWay before → is_enabled before event ≡ true
    → IsUnderWay (passed (noted event true before) event)
given_goes go before event under enabled =
    event_goes go (noted event true before) event (noted_goes before event true under) (enabled_noted before event event true enabled)

pub step_goes : NodesGoOn → (before : ClusterState) (event : Event) (done : Bool) (after : ClusterState) → IsUnderWay before
    → IsStep before event done after → IsUnderWay after
step_goes go before event true after under step =
    passed_goes go (noted event true before) event after (given_goes go before event under (sym step.enabled)) (step.passed refl)
step_goes go before event false after under step = subst IsUnderWay (sym (step.passed_over refl)) (noted_goes before event false under)
