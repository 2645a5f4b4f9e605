-- What a cluster stands for once an event was given.
use Rattle.std.proofs.Common.{◌≡◌, ℕ, ◌≤◌, Bool, true, false, not, List, [], ◌∷◌, ◌++◌, length, refl, ap, ap₂, sym, subst, ◌∙◌, Option, None, Some, Global, Vec}
use Rattle.std.specs.Prelude.{◌&&◌, slice_get, slice_set}
use Rattle.std.specs.List.{fold}
use Rattle.std.specs.Option.{is_some, option_map_or}
use Rattle.std.proofs.lemmas.Bool.{and_parts, both_ways}
use Rattle.std.proofs.lemmas.List.{length-set}
use Rattle.nim_base.specs.declared.number.Worker.{Worker}
use Rattle.nim_schedule.specs.declared.event.Event.{Event}
use Rattle.nim_schedule.specs.declared.event.Event.TheVariants.{Order, Report, Data, Begin, Finish, Lose, Propose}
use Rattle.nim_message.specs.declared.report.FromWorker.{FromWorker}
use Rattle.nim_place.specs.Extends.{is_live, worker_of}
use Rattle.nim_course.specs.Controller.{Controller}
use Rattle.nim_place.specs.Directed.{Directed}
use Rattle.nim_course.specs.Moves.{IsTurned}
use Rattle.nim_course.specs.Reports.{after_report}
use Rattle.nim_history.specs.declared.out.Out.{Out}
use Rattle.nim_lockstep.specs.declared.given.Given.{Given}
use Rattle.nim_lockstep.specs.declared.ran.Ran.{Ran}
use Rattle.nim_lockstep.specs.Cluster.{Batched, ClusterState, Node, has_ended}
use Rattle.nim_lockstep.specs.Events.{HasTurned, IsPassed, IsStep, batch_finished, is_enabled, may_come, noted, of_live, order_sent, out_sent, passed, report_taken}
use Rattle.nim_lockstep.specs.Nodes.{finished, runs_by}
use Rattle.nim_cluster.specs.declared.cluster.Cluster.{Cluster}
use Rattle.nim_cluster.specs.declared.node.Node.{Node as kept_node}
use Rattle.nim_cluster.specs.declared.running.Moving.{Moving}
use Rattle.nim_cluster.specs.declared.running.Moving.TheVariants as moving
use Rattle.nim_cluster.specs.Runs.{event_of}
use Rattle.nim_cluster.specs.Stands.{AreNodes, IsNode, ClusterStands}
use Rattle.nim_cluster.specs.Steps.{IsFinished, may_take, number_in}
use Rattle.nim_lockstep.proofs.Keeping.{turned_to}
use Rattle.nim_cluster.proofs.Jobs.{reported_job, turned_job}
use Rattle.nim_cluster.proofs.Nodes.{node_at, nobody, nodes_set, set_same}

-- ---- which events are enabled

never : (b : Bool) (o : Option Node) → false ≡ (b && option_map_or (λ (node : Node). false) o false)
never true None = refl
never true (Some node) = refl
never false o = refl

-- it depends on the worker that the event names
come_as : (s : ClusterState) (event : Event) → may_come s event ≡ of_live s (may_take event) (number_in event)
come_as s (Order worker) = refl
come_as s (Report worker) = refl
come_as s (Data from to) = refl
come_as s (Begin worker most) = refl
come_as s (Finish worker) = refl
come_as s (Lose worker) = never (is_live s.control.live (worker_of worker)) (slice_get s.nodes worker)
come_as s (Propose block task to) = never (is_live s.control.live (worker_of to)) (slice_get s.nodes to)

-- the worker of an event of a kind
pub number_of : (kind : Moving) (worker : ℕ) → number_in (event_of kind worker) ≡ worker
number_of moving.Report worker = refl
number_of moving.Finish worker = refl
number_of moving.Order worker = refl
number_of moving.Begin worker = refl

live_of : (s : ClusterState) (may : Node → Bool) (number : ℕ) (o : Option Node) → slice_get s.nodes number ≡ o
    → of_live s may number ≡ (is_live s.control.live (worker_of number) && option_map_or may o false)
live_of s may number o there = ap (λ (p : Option Node). is_live s.control.live (worker_of number) && option_map_or may p false) there

-- what is tested last comes first
turned_round : (may goes live : Bool) → (may && (goes && live)) ≡ (goes && (live && may))
turned_round true true true = refl
turned_round true true false = refl
turned_round true false live = refl
turned_round false true true = refl
turned_round false true false = refl
turned_round false false live = refl

-- whether the job goes on and a worker is live
abbrev pub going_on : Cluster → Worker → Bool
going_on cluster worker = not (is_some cluster.control.outcome) && is_live cluster.control.live worker

pub enabled_there : (cluster : Cluster) (s : ClusterState) (event : Event) (kept : kept_node) (may : Bool) → ClusterStands cluster s
    → slice_get cluster.nodes.items (number_in event) ≡ Some kept
    → ((number : ℕ) (node : Node) → IsNode number kept node → may ≡ may_take event node)
    → (may && going_on cluster kept.core.worker) ≡ is_enabled s event
enabled_there cluster s event kept may stands at does =
    let here = node_at (number_in event) cluster.nodes.items s.nodes kept stands.nodes at in
    let takes : Bool = may_take event here.0 in
    ap (λ (b : Bool). b && going_on cluster kept.core.worker) (does (number_in event) here.0 here.2)
    ∙ turned_round takes (not (is_some cluster.control.outcome)) (is_live cluster.control.live kept.core.worker)
    ∙ ap₂ (λ (c : Controller) (w : Worker). not (is_some c.outcome) && (is_live c.live w && takes)) stands.control here.2.worker
    ∙ ap (λ (b : Bool). not (has_ended s) && b)
    (sym (live_of s (may_take event) (number_in event) (Some here.0) here.1) ∙ sym (come_as s event))

pub enabled_nowhere : (cluster : Cluster) (s : ClusterState) (event : Event) → ClusterStands cluster s
    → length cluster.nodes.items ≤ number_in event → false ≡ is_enabled s event
enabled_nowhere cluster s event stands above =
    let nowhere : may_come s event ≡ false =
    come_as s event
    ∙ live_of s (may_take event) (number_in event) None (nobody cluster s (number_in event) stands above)
    ∙ and_no (is_live s.control.live (worker_of (number_in event))) in
    sym (ap (λ (b : Bool). not (has_ended s) && b) nowhere ∙ and_no (not (has_ended s))) where
      and_no : (b : Bool) → (b && false) ≡ false
      and_no true = refl
      and_no false = refl

-- the worker of an enabled event may do what it says
pub enabled_may : (s : ClusterState) (event : Event) (node : Node) → is_enabled s event ≡ true → slice_get s.nodes (number_in event) ≡ Some node
    → may_take event node ≡ true
enabled_may s event node enabled there =
    let may = (and_parts (not (has_ended s)) (may_come s event) enabled).1 in
    (and_parts (is_live s.control.live (worker_of (number_in event))) (may_take event node)
    (sym (live_of s (may_take event) (number_in event) (Some node) there) ∙ sym (come_as s event) ∙ may)).1

-- ---- turns

pub stands_turning : (old : Cluster) (control : Controller) (s : ClusterState) (orders : List Directed) → ClusterStands old s
    → IsTurned old.control orders control → ClusterStands (record old { control = control }) (turned_to s control orders)
stands_turning old control s orders stands turned = record {
  whole = stands.whole;
  job = turned_job old.control control orders turned ∙ ap (λ (c : Controller). c.job) stands.control ∙ stands.job;
  setup = stands.setup;
  control = refl;
  count = stands.count;
  nodes = stands.nodes;
  trace = stands.trace;
  given = stands.given;
}

pub turned_so : (old : Cluster) (control : Controller) (s : ClusterState) (orders : List Directed) → ClusterStands old s → IsTurned old.control orders control
    → HasTurned s (fold order_sent (turned_to s control orders) orders)
turned_so old control s orders stands turned = record {
  control = control;
  orders = orders;
  turned = subst (λ (c : Controller). IsTurned c orders control) stands.control turned;
  state = refl;
}

-- ---- a report

pub reported : (old : Cluster) (nodes : Vec kept_node Global) (s : ClusterState) (number : ℕ) (kept new : kept_node) (report : FromWorker)
    (rest : List FromWorker)
    → ClusterStands old s → slice_get old.nodes.items number ≡ Some kept → kept.reports.items ≡ report ∷ rest
    → nodes.items ≡ slice_set old.nodes.items number new
    → ((node : Node) → IsNode number kept node → IsNode number new (record node { reports = rest }))
    → ClusterStands (record old { nodes = nodes; control = after_report old.control kept.core.worker report }) (passed s (Report number))
reported old nodes s number kept new report rest stands at next is goes =
    let here = node_at number old.nodes.items s.nodes kept stands.nodes at in
    let cluster : Cluster = record old { nodes = nodes; control = after_report old.control kept.core.worker report } in
    let node : Node = record here.0 { reports = rest } in
    subst (λ (o : Option Node). ClusterStands cluster (option_map_or (λ (n : Node). report_taken number n n.reports s) o s)) (sym here.1)
    (subst (λ (reports : List FromWorker). ClusterStands cluster (report_taken number here.0 reports s)) (sym next ∙ here.2.reports)
    (record {
      whole = stands.whole;
      job = reported_job s.control (worker_of number) report ∙ stands.job;
      setup = stands.setup;
      control = ap₂ (λ (c : Controller) (w : Worker). after_report c w report) stands.control here.2.worker;
      count = length-set s.nodes number node ∙ stands.count;
      nodes = subst (λ (kepts : List kept_node). AreNodes 0 kepts (slice_set s.nodes number node)) (sym is)
          (nodes_set number old.nodes.items s.nodes new node stands.nodes (goes here.0 here.2));
      trace = stands.trace;
      given = stands.given;
    }))

-- no report waits there
pub unreported : (old : Cluster) (nodes : Vec kept_node Global) (s : ClusterState) (number : ℕ) (kept new : kept_node) → ClusterStands old s
    → slice_get old.nodes.items number ≡ Some kept → kept.reports.items ≡ [] → nodes.items ≡ slice_set old.nodes.items number new
    → ((node : Node) → IsNode number kept node → IsNode number new node) → ClusterStands (record old { nodes = nodes }) (passed s (Report number))
unreported old nodes s number kept new stands at none is goes =
    let here = node_at number old.nodes.items s.nodes kept stands.nodes at in
    let cluster : Cluster = record old { nodes = nodes } in
    subst (λ (o : Option Node). ClusterStands cluster (option_map_or (λ (n : Node). report_taken number n n.reports s) o s)) (sym here.1)
    (subst (λ (reports : List FromWorker). ClusterStands cluster (report_taken number here.0 reports s)) (sym none ∙ here.2.reports)
    (record {
      whole = stands.whole;
      job = stands.job;
      setup = stands.setup;
      control = stands.control;
      count = stands.count;
      nodes = subst (λ (all : List Node). AreNodes 0 nodes.items all) (set_same s.nodes number here.0 here.1)
          (subst (λ (kepts : List kept_node). AreNodes 0 kepts (slice_set s.nodes number here.0)) (sym is)
          (nodes_set number old.nodes.items s.nodes new here.0 stands.nodes (goes here.0 here.2)));
      trace = stands.trace;
      given = stands.given;
    }))

-- there is no such worker
pub reported_nobody : (old : Cluster) (s : ClusterState) (number : ℕ) → ClusterStands old s → length old.nodes.items ≤ number
    → ClusterStands old (passed s (Report number))
reported_nobody old s number stands above =
    subst (λ (o : Option Node). ClusterStands old (option_map_or (λ (n : Node). report_taken number n n.reports s) o s))
    (sym (nobody old s number stands above))
    stands

-- ---- a batch that is finished

-- the batch of a worker that may finish one
batch_there : (node : Node) → may_take (Finish 0) node ≡ true → (b : Batched) × (node.batch ≡ Some b)
batch_there node may = either node.batch refl may where
  either : (o : Option Batched) → node.batch ≡ o → is_some o ≡ true → (b : Batched) × (node.batch ≡ Some b)
  either None is may = absurd cc
  either (Some b) is may = (b, is)

-- a worker that has finished its batch, and what it gave is to be sent
pub record HasFinished (old : Cluster) (cluster : Cluster) (s : ClusterState) (number : ℕ) (outs : List Out) : Type 0 where
  pub between : ClusterState
  pub stands : ClusterStands cluster between
  pub sent : fold (out_sent number) between outs ≡ passed s (Finish number)

pub finishing : (old : Cluster) (nodes : Vec kept_node Global) (trace : Vec Ran Global) (s : ClusterState) (number : ℕ) (kept new : kept_node) (outs : List Out)
    → ClusterStands old s → is_enabled s (Finish number) ≡ true → slice_get old.nodes.items number ≡ Some kept
    → nodes.items ≡ slice_set old.nodes.items number new
    → ((node : Node) (b : Batched) → IsNode number kept node → node.batch ≡ Some b → IsFinished number node b new outs old.trace.items trace.items)
    → HasFinished old (record old { nodes = nodes; trace = trace }) s number outs
finishing old nodes trace s number kept new outs stands enabled at is goes =
    let here = node_at number old.nodes.items s.nodes kept stands.nodes at in
    let batch = batch_there here.0 (enabled_may s (Finish number) here.0 enabled here.1) in
    let b : Batched = batch.0 in
    let done = goes here.0 b here.2 batch.1 in
    let node : Node = finished b here.0 in
    let between : ClusterState = record s { nodes = slice_set s.nodes number node; trace = s.trace ++ runs_by b } in
    record {
      between = between;
      stands = record {
        whole = stands.whole;
        job = stands.job;
        setup = stands.setup;
        control = stands.control;
        count = length-set s.nodes number node ∙ stands.count;
        nodes = subst (λ (kepts : List kept_node). AreNodes 0 kepts (slice_set s.nodes number node)) (sym is)
            (nodes_set number old.nodes.items s.nodes new node stands.nodes done.node);
        trace = done.trace ∙ ap (λ (runs : List Ran). runs ++ runs_by b) stands.trace;
        given = stands.given;
      };
      sent =
          ap (fold (out_sent number) between) done.outs
          ∙ ap (λ (o : Option Batched). option_map_or (λ (x : Batched). batch_finished number here.0 s x) o s) (sym batch.1)
          ∙ ap (λ (o : Option Node). option_map_or (λ (n : Node). option_map_or (λ (x : Batched). batch_finished number n s x) n.batch s) o s) (sym here.1);
    }

pub finished_nobody : (old : Cluster) (s : ClusterState) (number : ℕ) → ClusterStands old s → length old.nodes.items ≤ number
    → ClusterStands old (passed s (Finish number))
finished_nobody old s number stands above =
    subst (λ (o : Option Node). ClusterStands old (option_map_or (λ (n : Node). option_map_or (λ (b : Batched). batch_finished number n s b) n.batch s) o s))
    (sym (nobody old s number stands above)) stands

-- ---- an event

-- an event was given
pub noted_stands : (old : Cluster) (given : Vec Given Global) (s : ClusterState) (event : Event) (done : Bool) → ClusterStands old s
    → given.items ≡ old.given.items ++ record { event = event; done = done } ∷ [] → ClusterStands (record old { given = given }) (noted event done s)
noted_stands old given s event done stands is = record {
  whole = stands.whole;
  job = stands.job;
  setup = stands.setup;
  control = stands.control;
  count = stands.count;
  nodes = stands.nodes;
  trace = stands.trace;
  given = is ∙ ap (λ (all : List Given). all ++ record { event = event; done = done } ∷ []) stands.given;
}

-- it was done, where it is enabled
pub step_done : (s t : ClusterState) (event : Event) (done : Bool) → done ≡ is_enabled s event → done ≡ true → IsPassed (noted event true s) event t
    → IsStep s event done t
step_done s t event done enabled does passed = record {
  enabled = enabled;
  passed = λ is. passed;
  passed_over = λ is. absurd (both_ways done is does);
}

-- and else passed over
pub step_passed : (s : ClusterState) (event : Event) (done : Bool) → done ≡ is_enabled s event → done ≡ false
    → IsStep s event done (noted event done s)
step_passed s event done enabled not = record {
  enabled = enabled;
  passed = λ is. absurd (both_ways done not is);
  passed_over = λ is. ap (λ (b : Bool). noted event b s) is;
}

-- memory wasn't refused
pub marked : (cluster : Cluster) (s : ClusterState) (failed : Bool) → failed ≡ false → ClusterStands cluster s
    → ClusterStands (record cluster { failed = failed }) s
marked cluster s failed not stands = record {
  whole = not;
  job = stands.job;
  setup = stands.setup;
  control = stands.control;
  count = stands.count;
  nodes = stands.nodes;
  trace = stands.trace;
  given = stands.given;
}
