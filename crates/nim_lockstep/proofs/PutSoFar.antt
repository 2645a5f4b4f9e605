-- All orders of a cluster's controller are those of its moves, whatever events come.
use Rattle.std.proofs.Common.{◌≡◌, ℕ, Bool, true, false, List, [], ◌∷◌, ◌++◌, refl, sym, subst, ◌∙◌, Option, None, Some}
use Rattle.std.specs.Prelude.{slice_get}
use Rattle.std.specs.Option.{option_map_or}
use Rattle.nim_base.specs.declared.number.Worker.{Worker}
use Rattle.nim_message.specs.declared.report.FromWorker.{FromWorker}
use Rattle.nim_schedule.specs.declared.event.Event.{Event}
use Rattle.nim_schedule.specs.declared.event.Event.TheVariants.{Order, Report, Data, Begin, Finish, Lose, Propose}
use Rattle.nim_place.specs.Directed.{Directed}
use Rattle.nim_place.specs.Extends.{worker_of}
use Rattle.nim_course.specs.Controller.{Controller}
use Rattle.nim_course.specs.Leads.{Leads}
use Rattle.nim_course.specs.PutLists.{ArePut}
use Rattle.nim_course.proofs.Puts.{controllers_put}
use Rattle.nim_lockstep.specs.Cluster.{Batched, ClusterState, Node}
use Rattle.nim_lockstep.specs.Events.{HasTurned, IsPassed, IsStep, batch_finished, noted, passed, report_taken}
use Rattle.nim_lockstep.specs.Nodes.{batch_begun, frame_taken, frames_from, order_taken}
use Rattle.nim_lockstep.proofs.Keeping.{HasOtherNodes, finish_beside, finished_to, node_beside, turn_beside, turned_to}

-- what a cluster's controller gave is put
abbrev pub IsPut : ClusterState → Type 0
IsPut s = ArePut s.control s.put

-- so it is where only the workers change
beside_put : (before after : ClusterState) → HasOtherNodes before after → IsPut before → IsPut after
beside_put before after beside put =
    subst (λ (c : Controller). ArePut c after.put) (sym beside.control) (subst (ArePut before.control) (sym beside.put) put)

-- behind a turn
pub turn_is_put : (before after : ClusterState) → Leads before.job before.control before.put → HasTurned before after → IsPut before → IsPut after
turn_is_put before after leads turned put =
    beside_put (turned_to before turned.control turned.orders) after (turn_beside before after turned)
    (controllers_put.turns before.job before.control turned.control before.put turned.orders leads turned.turned put)

-- and where a report is taken
taken_is_put : (s : ClusterState) (number : ℕ) (node : Node) (reports : List FromWorker) → IsPut s → IsPut (report_taken number node reports s)
taken_is_put s number node [] put = put
taken_is_put s number node (report ∷ rest) put = controllers_put.reports s.control s.put (worker_of number) report put

report_is_put : (s : ClusterState) (number : ℕ) (o : Option Node) → IsPut s
    → IsPut (option_map_or (λ (node : Node). report_taken number node node.reports s) o s)
report_is_put s number None put = put
report_is_put s number (Some node) put = taken_is_put s number node node.reports put

finish_is_put : (s : ClusterState) (number : ℕ) (node : Node) (batch : Option Batched) → IsPut s
    → IsPut (option_map_or (λ (b : Batched). batch_finished number node s b) batch s)
finish_is_put s number node None put = put
finish_is_put s number node (Some b) put =
    beside_put (finished_to number node s b) (batch_finished number node s b) (finish_beside number node s b) put

finished_is_put : (s : ClusterState) (number : ℕ) (o : Option Node) → IsPut s
    → IsPut (option_map_or (λ (node : Node). option_map_or (λ (b : Batched). batch_finished number node s b) node.batch s) o s)
finished_is_put s number None put = put
finished_is_put s number (Some node) put = finish_is_put s number node node.batch put

-- behind what an event does before the turn
pub event_is_put : (s : ClusterState) (event : Event) → IsPut s → IsPut (passed s event)
event_is_put s (Order number) put =
    beside_put s (passed s (Order number)) (node_beside (λ (node : Node). order_taken node.orders node) number s) put
event_is_put s (Report number) put = report_is_put s number (slice_get s.nodes number) put
event_is_put s (Data from to) put =
    beside_put s (passed s (Data from to)) (node_beside (λ (node : Node). frame_taken from (frames_from from node) node) to s) put
event_is_put s (Begin number most) put = beside_put s (passed s (Begin number most)) (node_beside (batch_begun (worker_of number) most) number s) put
event_is_put s (Finish number) put = finished_is_put s number (slice_get s.nodes number) put
event_is_put s (Lose number) put = put
event_is_put s (Propose block task to) put = put

-- with the turn
passed_is_put : (s : ClusterState) (event : Event) (after : ClusterState) → Leads (passed s event).job (passed s event).control (passed s event).put
    → IsPassed s event after → IsPut (passed s event) → IsPut after
passed_is_put s (Order number) after leads is put = subst IsPut (sym is) put
passed_is_put s (Report number) after leads is put = turn_is_put (passed s (Report number)) after leads is put
passed_is_put s (Data from to) after leads is put = subst IsPut (sym is) put
passed_is_put s (Begin number most) after leads is put = subst IsPut (sym is) put
passed_is_put s (Finish number) after leads is put = subst IsPut (sym is) put
passed_is_put s (Lose number) after leads is put = subst IsPut (sym is) put
passed_is_put s (Propose block task to) after leads is put = subst IsPut (sym is) put

-- Behind an event, where the controller leads its job behind what an enabled event does before the turn.
pub step_is_put : (before : ClusterState) (event : Event) (done : Bool) (after : ClusterState)
    → (done ≡ true → Leads (passed (noted event true before) event).job (passed (noted event true before) event).control
    (passed (noted event true before) event).put)
    → IsStep before event done after → IsPut before → IsPut after
step_is_put before event true after leads step put =
    let given : ClusterState = noted event true before in
    passed_is_put given event after (leads refl) (step.passed refl) (event_is_put given event put)
step_is_put before event false after leads step put = subst IsPut (sym (step.passed_over refl)) put
