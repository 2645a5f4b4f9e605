-- What orders and moving events leave as it is: the job, how it is run, the controller and what it gave.
use Rattle.std.proofs.Common.{◌≡◌, ℕ, List, [], ◌∷◌, ◌++◌, refl, sym, subst, ◌∙◌, Option, None, Some}
use Rattle.std.specs.Prelude.{slice_get, slice_set}
use Rattle.std.specs.List.{fold}
use Rattle.std.specs.Option.{option_map_or}
use Rattle.nim_course.specs.Controller.{Controller}
use Rattle.nim_place.specs.Directed.{Directed}
use Rattle.nim_history.specs.declared.out.Out.{Out}
use Rattle.nim_lockstep.specs.Cluster.{Batched, ClusterState, Node}
use Rattle.nim_lockstep.specs.Events.{HasTurned, at_node, batch_finished, order_sent, out_sent}
use Rattle.nim_lockstep.specs.Nodes.{finished, frame_sent, outs_by, runs_by}

-- all but the workers stays
pub record HasOtherNodes (before after : ClusterState) : Type 0 where
  pub job : after.job ≡ before.job
  pub setup : after.setup ≡ before.setup
  pub control : after.control ≡ before.control
  pub put : after.put ≡ before.put
  pub trace : after.trace ≡ before.trace

beside_on : (first second third : ClusterState) → HasOtherNodes first second → HasOtherNodes second third → HasOtherNodes first third
beside_on first second third one two = record {
  job = two.job ∙ one.job;
  setup = two.setup ∙ one.setup;
  control = two.control ∙ one.control;
  put = two.put ∙ one.put;
  trace = two.trace ∙ one.trace;
}

pub node_beside : (change : Node → Node) (number : ℕ) (s : ClusterState) → HasOtherNodes s (at_node change number s)
node_beside change number s = either (slice_get s.nodes number) where
  either : (o : Option Node)
      → HasOtherNodes s (option_map_or (λ (node : Node). record s { nodes = slice_set s.nodes number (change node) }) o s)
  either None = record { job = refl; setup = refl; control = refl; put = refl; trace = refl }
  either (Some node) = record { job = refl; setup = refl; control = refl; put = refl; trace = refl }

order_beside : (s : ClusterState) (given : Directed) → HasOtherNodes s (order_sent s given)
order_beside s given = node_beside (λ (node : Node). record node { orders = node.orders ++ given.1 ∷ [] }) given.0.0 s

orders_beside : (orders : List Directed) (s : ClusterState) → HasOtherNodes s (fold order_sent s orders)
orders_beside [] s = record { job = refl; setup = refl; control = refl; put = refl; trace = refl }
orders_beside (given ∷ orders) s =
    beside_on s (order_sent s given) (fold order_sent (order_sent s given) orders) (order_beside s given)
    (orders_beside orders (order_sent s given))

out_beside : (from : ℕ) (s : ClusterState) (out : Out) → HasOtherNodes s (out_sent from s out)
out_beside from s (Out.Report report) = node_beside (λ (node : Node). record node { reports = node.reports ++ report ∷ [] }) from s
out_beside from s (Out.Data peer frame) = node_beside (frame_sent from frame) peer.0 s

outs_beside : (from : ℕ) (outs : List Out) (s : ClusterState) → HasOtherNodes s (fold (out_sent from) s outs)
outs_beside from [] s = record { job = refl; setup = refl; control = refl; put = refl; trace = refl }
outs_beside from (out ∷ outs) s =
    beside_on s (out_sent from s out) (fold (out_sent from) (out_sent from s out) outs) (out_beside from s out)
    (outs_beside from outs (out_sent from s out))

-- ---- a turn, and a batch that is finished

-- before the orders are sent
abbrev pub turned_to : ClusterState → Controller → List Directed → ClusterState
turned_to s control orders = record s { control = control; put = s.put ++ orders }

pub turn_beside : (before after : ClusterState) (turned : HasTurned before after)
    → HasOtherNodes (turned_to before turned.control turned.orders) after
turn_beside before after turned =
    subst (HasOtherNodes (turned_to before turned.control turned.orders)) (sym turned.state)
    (orders_beside turned.orders (turned_to before turned.control turned.orders))

-- before what it gave is sent
abbrev pub finished_to : ℕ → Node → ClusterState → Batched → ClusterState
finished_to worker node s b = record s { nodes = slice_set s.nodes worker (finished b node); trace = s.trace ++ runs_by b }

pub finish_beside : (worker : ℕ) (node : Node) (s : ClusterState) (b : Batched)
    → HasOtherNodes (finished_to worker node s b) (batch_finished worker node s b)
finish_beside worker node s b = outs_beside worker (outs_by b node) (finished_to worker node s b)
