-- One worker of a cluster changes, and all are still under way.
use Rattle.std.proofs.Common.{◌≡◌, ◌≢◌, ℕ, true, List, [], ◌∷◌, length, refl, ap, sym, subst, ◌∙◌, Option, None, Some, All, inl, inr}
use Rattle.std.specs.Prelude.{IsSomeAnd, slice_get, slice_set}
use Rattle.std.specs.Option.{option_map, option_map_or}
use Rattle.std.proofs.lemmas.Bool.{cases_eq}
use Rattle.std.proofs.lemmas.List.{length-set}
use Rattle.std.proofs.lemmas.List.Elements.{All-weaker}
use Rattle.std.proofs.lemmas.Option.{same_Some, slice_get_within}
use Rattle.nim_order.specs.Progress.{is_one_of}
use Rattle.nim_job.specs.declared.job.Job.{Job}
use Rattle.nim_place.specs.Directed.{Directed, orders_to}
use Rattle.nim_history.specs.History.{WorkerState, state_of}
use Rattle.nim_lockstep.specs.declared.ran.Ran.{Ran}
use Rattle.nim_lockstep.specs.Cluster.{ClusterState, Node}
use Rattle.nim_lockstep.specs.Events.{at_node}
use Rattle.nim_lockstep.specs.InStep.{ReadsByOrder}
use Rattle.nim_lockstep.proofs.NodesLists.{get_set_other, get_set_same, is_some_and, some_is}
use Rattle.nim_lockstep.proofs.UnderWay.{AreUnderWay, IsDone, IsDoneBy, IsNodeUnderWay, position_at}

-- ---- one of a list of workers

-- something changes at a worker, where it is there
abbrev pub changed : (Node → Node) → ℕ → List Node → List Node
changed change number nodes =
    option_map_or (λ (node : Node). slice_set nodes number (change node)) (slice_get nodes number) nodes

-- this is true of each worker
abbrev pub Each : (ℕ → Node → Type 0) → List Node → Type 0
Each P nodes = (number : ℕ) (node : Node) → slice_get nodes number ≡ Some node → P number node

pub each_set : (P Q : ℕ → Node → Type 0) (nodes : List Node) (at : ℕ) (old new : Node) → Each P nodes → slice_get nodes at ≡ Some old → Q at new
    → ((number : ℕ) (node : Node) → P number node → Q number node) → Each Q (slice_set nodes at new)
each_set P Q nodes at old new each there is wider number node found = elim (cases_eq number at) [
  | inl same ↦
      let set : Some new ≡ Some node =
      sym (get_set_same nodes at new (slice_get_within nodes at old there)) ∙ ap (slice_get (slice_set nodes at new)) (sym same) ∙ found in
      subst (λ (n : ℕ). Q n node) (sym same) (subst (Q at) (same_Some new node set) is)
  | inr other ↦ wider number node (each number node (sym (get_set_other nodes at number new other) ∙ found))
]

pub each_changed : (P Q : ℕ → Node → Type 0) (change : Node → Node) (at : ℕ) (nodes : List Node) → Each P nodes
    → ((node : Node) → slice_get nodes at ≡ Some node → P at node → Q at (change node))
    → ((number : ℕ) (node : Node) → P number node → Q number node) → Each Q (changed change at nodes)
each_changed P Q change at nodes each step wider = either (slice_get nodes at) refl where
  either : (o : Option Node) → slice_get nodes at ≡ o → Each Q (option_map_or (λ (node : Node). slice_set nodes at (change node)) o nodes)
  either None there = λ number node found. wider number node (each number node found)
  either (Some node) there = each_set P Q nodes at node (change node) each there (step node there (each at node there)) wider

pub length_changed : (change : Node → Node) (at : ℕ) (nodes : List Node) → length (changed change at nodes) ≡ length nodes
length_changed change at nodes = either (slice_get nodes at) where
  either : (o : Option Node) → length (option_map_or (λ (node : Node). slice_set nodes at (change node)) o nodes) ≡ length nodes
  either None = refl
  either (Some node) = length-set nodes at (change node)

pub changed_same : (change : Node → Node) (at : ℕ) (nodes : List Node) → slice_get (changed change at nodes) at ≡ option_map change (slice_get nodes at)
changed_same change at nodes = either (slice_get nodes at) refl where
  either : (o : Option Node) → slice_get nodes at ≡ o
      → slice_get (option_map_or (λ (node : Node). slice_set nodes at (change node)) o nodes) at ≡ option_map change o
  either None there = there
  either (Some node) there = get_set_same nodes at (change node) (slice_get_within nodes at node there)

pub changed_other : (change : Node → Node) (at number : ℕ) (nodes : List Node) → number ≢ at
    → slice_get (changed change at nodes) number ≡ slice_get nodes number
changed_other change at number nodes other = either (slice_get nodes at) where
  either : (o : Option Node) → slice_get (option_map_or (λ (node : Node). slice_set nodes at (change node)) o nodes) number ≡ slice_get nodes number
  either None = refl
  either (Some node) = get_set_other nodes at number (change node) other

pub at_node_is : (change : Node → Node) (number : ℕ) (s : ClusterState) → at_node change number s ≡ record s { nodes = changed change number s.nodes }
at_node_is change number s = either (slice_get s.nodes number) where
  either : (o : Option Node) → option_map_or (λ (node : Node). record s { nodes = slice_set s.nodes number (change node) }) o s
      ≡ record s { nodes = option_map_or (λ (node : Node). slice_set s.nodes number (change node)) o s.nodes }
  either None = refl
  either (Some node) = refl

-- ---- workers that are under way

-- what is true of a worker that is under way, by the number and by itself
abbrev pub Way : Job → ℕ → List Ran → List Directed → ℕ → Node → Type 0
Way job workers trace put number node = IsNodeUnderWay job workers number trace (orders_to number put) node

-- ---- runs that are done

-- a worker has come further: a run that was complete still is, and at the same place
abbrev pub IsPast : WorkerState → WorkerState → Type 0
IsPast before after =
    (place position : ℕ) → is_one_of before.ran place ≡ true → position_at before place ≡ position ∷ []
    → (is_one_of after.ran place ≡ true) × (position_at after place ≡ position ∷ [])

pub still_done : (ran : Ran) (before after : Node) → IsPast (state_of before.happened) (state_of after.happened) → IsDoneBy ran before → IsDoneBy ran after
still_done ran before after past is =
    let now = past is.place ran.position is.complete is.runs in record { place = is.place; complete = now.0; runs = now.1 }

-- what was done at workers is done where one of them has come further
pub done_set : (nodes : List Node) (at : ℕ) (old new : Node) (ran : Ran) → slice_get nodes at ≡ Some old → (IsDoneBy ran old → IsDoneBy ran new)
    → IsDone nodes ran → IsDone (slice_set nodes at new) ran
done_set nodes at old new ran there step is = record { epoch = is.epoch; by = now } where
  now : IsSomeAnd (slice_get (slice_set nodes at new) ran.worker.0) (IsDoneBy ran)
  now = elim (cases_eq ran.worker.0 at) [
    | inl same ↦
        is_some_and (IsDoneBy ran) (slice_get (slice_set nodes at new) ran.worker.0) new
        (ap (slice_get (slice_set nodes at new)) same ∙ get_set_same nodes at new (slice_get_within nodes at old there))
        (step (some_is (IsDoneBy ran) (slice_get nodes ran.worker.0) old (ap (slice_get nodes) same ∙ there) is.by))
    | inr other ↦
        subst (λ (o : Option Node). IsSomeAnd o (IsDoneBy ran)) (sym (get_set_other nodes at ran.worker.0 new other)) is.by
  ]

pub done_changed : (change : Node → Node) (at : ℕ) (nodes : List Node) (ran : Ran)
    → ((node : Node) → slice_get nodes at ≡ Some node → IsDoneBy ran node → IsDoneBy ran (change node))
    → IsDone nodes ran → IsDone (changed change at nodes) ran
done_changed change at nodes ran step is = either (slice_get nodes at) refl where
  either : (o : Option Node) → slice_get nodes at ≡ o → IsDone (option_map_or (λ (node : Node). slice_set nodes at (change node)) o nodes) ran
  either None there = is
  either (Some node) there = done_set nodes at node (change node) ran there (step node there) is

-- ---- what an event leaves

-- Behind an event all workers are under way, each run of the trace is done, and read what program order names.
pub record GoesWell (job : Job) (after : ClusterState) : Type 0 where
  pub nodes : AreUnderWay after
  pub done : All (IsDone after.nodes) after.trace
  pub reads : All (ReadsByOrder job) after.trace

-- one worker changes
pub at_well : (s : ClusterState) (change : Node → Node) (number : ℕ) → GoesWell s.job s
    → ((node : Node) → slice_get s.nodes number ≡ Some node → Way s.job s.setup.workers s.trace s.put number node
    → Way s.job s.setup.workers s.trace s.put number (change node))
    → ((node : Node) → slice_get s.nodes number ≡ Some node → IsPast (state_of node.happened) (state_of (change node).happened))
    → GoesWell s.job (at_node change number s)
at_well s change number well step past = subst (GoesWell s.job) (sym (at_node_is change number s)) (record {
  nodes = record {
    nodes = length_changed change number s.nodes ∙ well.nodes.nodes;
    each = each_changed (Way s.job s.setup.workers s.trace s.put) (Way s.job s.setup.workers s.trace s.put) change number s.nodes well.nodes.each step
        (λ n node is. is);
  };
  done = All-weaker (IsDone s.nodes) (IsDone (changed change number s.nodes))
      (λ ran is. done_changed change number s.nodes ran (λ node there. still_done ran node (change node) (past node there)) is) s.trace well.done;
  reads = well.reads;
})
