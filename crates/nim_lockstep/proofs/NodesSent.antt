-- The controller took a turn, and its orders wait for their workers: all are still under way.
use Rattle.std.proofs.Common.{◌≡◌, ℕ, ◌<◌, Bool, true, false, List, [], ◌∷◌, ◌++◌, cond, length, map, refl, ap, sym, subst, ◌∙◌, arith, Option, None, Some, All}
use Rattle.std.specs.Prelude.{◌==◌, IsSomeAnd, slice_get}
use Rattle.std.specs.List.{filter, fold}
use Rattle.std.specs.Option.{option_map}
use Rattle.std.proofs.lemmas.Bool.{both_ways, eq-eqb, eqb-true}
use Rattle.std.proofs.lemmas.List.{append-nil, append_assoc}
use Rattle.std.proofs.lemmas.List.Elements.{All-weaker}
use Rattle.std.proofs.lemmas.Option.{slice_get_within}
use Rattle.nim_message.specs.declared.order.ToWorker.{ToWorker}
use Rattle.nim_job.specs.declared.job.Job.{Job}
use Rattle.nim_course.specs.declared.pending.Pending.{Pending}
use Rattle.nim_place.specs.Directed.{Directed, orders_to}
use Rattle.nim_history.specs.History.{orders_in}
use Rattle.nim_lockstep.specs.declared.ran.Ran.{Ran}
use Rattle.nim_lockstep.specs.Cluster.{ClusterState, Node}
use Rattle.nim_lockstep.specs.Events.{HasTurned, order_sent}
use Rattle.nim_place.proofs.Directed.{to_append}
use Rattle.nim_lockstep.proofs.NodesAt.{at_node_is, changed, changed_other, changed_same, length_changed}
use Rattle.nim_lockstep.proofs.NodesLists.{IsMade, made}
use Rattle.nim_lockstep.proofs.NodesThrough.{told_front}
use Rattle.nim_lockstep.proofs.UnderWay.{AreUnderWay, BeginOnce, IsDone, IsDoneBy, IsNodeUnderWay, IsTold}

-- a worker that more orders wait for
abbrev with_more : List ToWorker → Node → Node
with_more orders node = record node { orders = node.orders ++ orders }

-- workers that one more order waits for
abbrev sent : List Node → Directed → List Node
sent nodes given = changed (with_more (given.1 ∷ [])) given.0.0 nodes

fold_sent : (orders : List Directed) (s : ClusterState) → fold order_sent s orders ≡ record s { nodes = fold sent s.nodes orders }
fold_sent [] s = refl
fold_sent (given ∷ orders) s =
    ap (λ (t : ClusterState). fold order_sent t orders) (at_node_is (with_more (given.1 ∷ [])) given.0.0 s)
    ∙ fold_sent orders (record s { nodes = sent s.nodes given })

length_sent : (orders : List Directed) (nodes : List Node) → length (fold sent nodes orders) ≡ length nodes
length_sent [] nodes = refl
length_sent (given ∷ orders) nodes = length_sent orders (sent nodes given) ∙ length_changed (with_more (given.1 ∷ [])) given.0.0 nodes

more_none : (o : Option Node) → option_map (with_more []) o ≡ o
more_none None = refl
more_none (Some node) = ap (λ (orders : List ToWorker). Some (record node { orders = orders })) (append-nil node.orders)

more_more : (order : ToWorker) (orders : List ToWorker) (o : Option Node)
    → option_map (with_more orders) (option_map (with_more (order ∷ [])) o) ≡ option_map (with_more (order ∷ orders)) o
more_more order orders None = refl
more_more order orders (Some node) =
    ap (λ (all : List ToWorker). Some (record node { orders = all })) (append_assoc node.orders (order ∷ []) orders)

-- each worker then has its orders behind those that waited
get_sent : (orders : List Directed) (nodes : List Node) (number : ℕ)
    → slice_get (fold sent nodes orders) number ≡ option_map (with_more (orders_to number orders)) (slice_get nodes number)
get_sent [] nodes number = sym (more_none (slice_get nodes number))
get_sent (given ∷ orders) nodes number = get_sent orders (sent nodes given) number ∙ either (given.0.0 == number) refl where
  either : (b : Bool) → (given.0.0 == number) ≡ b
      → option_map (with_more (orders_to number orders)) (slice_get (sent nodes given) number)
      ≡ option_map (with_more (map (λ (d : Directed). d.1)
      (cond b (given ∷ filter (λ (d : Directed). d.0.0 == number) orders) (filter (λ (d : Directed). d.0.0 == number) orders))))
      (slice_get nodes number)
  either true is =
      let same : given.0.0 ≡ number = eqb-true given.0.0 number is in
      ap (option_map (with_more (orders_to number orders)))
      (subst (λ (n : ℕ). slice_get (sent nodes given) n ≡ option_map (with_more (given.1 ∷ [])) (slice_get nodes n)) same
      (changed_same (with_more (given.1 ∷ [])) given.0.0 nodes))
      ∙ more_more given.1 (orders_to number orders) (slice_get nodes number)
  either false is =
      ap (option_map (with_more (orders_to number orders)))
      (changed_other (with_more (given.1 ∷ [])) given.0.0 number nodes
      (λ same. both_ways (given.0.0 == number) is (eq-eqb given.0.0 number (sym same))))

-- a worker that more orders wait for is under way
more_way : (job : Job) (workers number : ℕ) (trace : List Ran) (pending : Pending) (orders more : List ToWorker) (node : Node)
    → BeginOnce pending (orders ++ more) → IsNodeUnderWay job workers number trace orders node
    → IsNodeUnderWay job workers number trace (orders ++ more) (with_more more node)
more_way job workers number trace pending orders more node once is = record {
  link = sym (append_assoc (orders_in node.happened) node.orders more) ∙ ap (λ (os : List ToWorker). os ++ more) is.link;
  history = is.history;
  handed = is.handed;
  senders = is.senders;
  waiting = record { reports = is.waiting.reports; frames = is.waiting.frames };
  ran = is.ran;
  told = All-weaker (IsTold orders trace) (IsTold (orders ++ more) trace) (λ report told. told_front pending orders more trace report once told)
      node.reports is.told;
  batch = is.batch;
}

-- what a turn makes of a cluster
turned_is : (before after : ClusterState) (turn : HasTurned before after)
    → after ≡ record before { control = turn.control; put = before.put ++ turn.orders; nodes = fold sent before.nodes turn.orders }
turned_is before after turn = turn.state ∙ fold_sent turn.orders (record before { control = turn.control; put = before.put ++ turn.orders })

pub turned : (before after : ClusterState) (turn : HasTurned before after) → AreUnderWay before
    → ((number : ℕ) → number < before.setup.workers → BeginOnce turn.control.pending (orders_to number (before.put ++ turn.orders))) → AreUnderWay after
turned before after turn under once = subst AreUnderWay (sym (turned_is before after turn)) (record {
  nodes = length_sent turn.orders before.nodes ∙ under.nodes;
  each = λ number node found. each number node (made (with_more (orders_to number turn.orders)) (slice_get before.nodes number) node
      (sym (get_sent turn.orders before.nodes number) ∙ found));
}) where
  each : (number : ℕ) (node : Node) → IsMade (with_more (orders_to number turn.orders)) (slice_get before.nodes number) node
      → IsNodeUnderWay before.job before.setup.workers number before.trace (orders_to number (before.put ++ turn.orders)) node
  each number node m =
      let more : List ToWorker = orders_to number turn.orders in
      let all : orders_to number (before.put ++ turn.orders) ≡ orders_to number before.put ++ more = to_append number before.put turn.orders in
      let within : number < before.setup.workers = omega (arith, slice_get_within before.nodes number m.from m.there, under.nodes) in
      subst (IsNodeUnderWay before.job before.setup.workers number before.trace (orders_to number (before.put ++ turn.orders))) m.is
      (subst (λ (orders : List ToWorker). IsNodeUnderWay before.job before.setup.workers number before.trace orders (with_more more m.from)) (sym all)
      (more_way before.job before.setup.workers number before.trace turn.control.pending (orders_to number before.put) more m.from
      (subst (BeginOnce turn.control.pending) all (once number within)) (under.each number m.from m.there)))

-- runs that are done are done behind a turn
still_by : (ran : Ran) (orders : List ToWorker) (o : Option Node) → IsSomeAnd o (IsDoneBy ran) → IsSomeAnd (option_map (with_more orders) o) (IsDoneBy ran)
still_by ran orders None is = is
still_by ran orders (Some node) is = record { place = is.place; complete = is.complete; runs = is.runs }

done_sent : (orders : List Directed) (nodes : List Node) (ran : Ran) → IsDone nodes ran → IsDone (fold sent nodes orders) ran
done_sent orders nodes ran is = record {
  epoch = is.epoch;
  by = subst (λ (o : Option Node). IsSomeAnd o (IsDoneBy ran)) (sym (get_sent orders nodes ran.worker.0))
      (still_by ran (orders_to ran.worker.0 orders) (slice_get nodes ran.worker.0) is.by);
}

pub done_turned : (before after : ClusterState) → HasTurned before after → All (IsDone before.nodes) before.trace → All (IsDone after.nodes) after.trace
done_turned before after turn done =
    subst (λ (s : ClusterState). All (IsDone s.nodes) s.trace) (sym (turned_is before after turn))
    (All-weaker (IsDone before.nodes) (IsDone (fold sent before.nodes turn.orders)) (done_sent turn.orders before.nodes) before.trace done)
