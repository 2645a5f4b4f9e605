-- What is sent adds to what waits, one for each, and what isn't delivered nothing.
use Rattle.std.proofs.Common.{◌≡◌, ℕ, zero, suc, ◌+◌, ◌≤◌, List, [], ◌∷◌, ◌++◌, get_or, length, refl, ap, ◌∙◌, arith, Option, None, Some, inl, inr}
use Rattle.std.specs.Prelude.{slice_get, slice_set}
use Rattle.std.specs.List.{fold}
use Rattle.std.specs.Option.{option_map_or}
use Rattle.std.proofs.lemmas.Bool.{cases_lt}
use Rattle.std.proofs.lemmas.List.{length-append}
use Rattle.std.proofs.lemmas.List.Sums.{sum_by-set}
use Rattle.nim_message.specs.declared.frame.Data.{Data}
use Rattle.nim_place.specs.Directed.{Directed}
use Rattle.nim_history.specs.declared.out.Out.{Out}
use Rattle.nim_lockstep.specs.Cluster.{ClusterState, Node}
use Rattle.nim_lockstep.specs.Events.{at_node, order_sent, out_sent}
use Rattle.nim_lockstep.specs.Nodes.{frame_sent}
use Rattle.nim_lockstep.proofs.FewLists.{sum_set}
use Rattle.nim_lockstep.proofs.FewNodes.{done_at, dones, frames_in_all, load, loads}

-- At most so many more wait, and nothing else that counts changes.
pub record Adds (count : ℕ) (before after : ClusterState) : Type 0 where
  pub setup : after.setup ≡ before.setup
  pub put : after.put ≡ before.put
  pub given : after.given ≡ before.given
  pub loads : loads after.nodes ≤ loads before.nodes + count
  pub dones : dones after.nodes ≡ dones before.nodes

adds_none : (s : ClusterState) (count : ℕ) → Adds count s s
adds_none s count = record { setup = refl; put = refl; given = refl; loads = omega arith; dones = refl }

-- one more at a worker, where it is there
adds_at : (change : Node → Node) (number : ℕ) (s : ClusterState) → ((node : Node) → load (change node) ≤ load node + 1)
    → ((node : Node) → done_at (change node) ≡ done_at node) → Adds 1 s (at_node change number s)
adds_at change number s more same = either (slice_get s.nodes number) refl where
  either : (o : Option Node) → slice_get s.nodes number ≡ o
      → Adds 1 s (option_map_or (λ (node : Node). record s { nodes = slice_set s.nodes number (change node) }) o s)
  either None there = adds_none s 1
  either (Some node) there = record {
    setup = refl;
    put = refl;
    given = refl;
    loads = omega (arith, more node, sum_set load s.nodes number node (change node) there);
    dones = omega (arith, same node, sum_set done_at s.nodes number node (change node) there);
  }

-- one after another
pub adds_all : {X : Type 0} (send : ClusterState → X → ClusterState) → ((s : ClusterState) (x : X) → Adds 1 s (send s x)) → (xs : List X) (s : ClusterState)
    → Adds (length xs) s (fold send s xs)
adds_all send each [] s = adds_none s 0
adds_all send each (x ∷ xs) s =
    let one = each s x in
    let rest = adds_all send each xs (send s x) in
    record {
      setup = rest.setup ∙ one.setup;
      put = rest.put ∙ one.put;
      given = rest.given ∙ one.given;
      loads = omega (arith, one.loads, rest.loads);
      dones = rest.dones ∙ one.dones;
    }

-- ---- orders, reports and frames

pub adds_order : (s : ClusterState) (given : Directed) → Adds 1 s (order_sent s given)
adds_order s given =
    adds_at (λ (node : Node). record node { orders = node.orders ++ given.1 ∷ [] }) given.0.0 s
    (λ node. omega (arith, length-append node.orders (given.1 ∷ []))) (λ node. refl)

-- a frame for a worker that isn't there is dropped
more_frames : (all : List (List Data)) (from : ℕ) (frame : Data) → frames_in_all (slice_set all from (get_or all from [] ++ frame ∷ [])) ≤ frames_in_all all + 1
more_frames all from frame = elim (cases_lt from (length all)) [
  | inl within ↦
      omega (
        arith,
        length-append (get_or all from []) (frame ∷ []),
        sum_by-set (λ (waiting : List Data). length waiting) all from (get_or all from [] ++ frame ∷ []) [] within,
      )
  | inr past ↦ omega (arith, ap frames_in_all (set_past all from (get_or all from [] ++ frame ∷ []) past))
] where
  set_past : {X : Type 0} (xs : List X) (i : ℕ) (x : X) → length xs ≤ i → slice_set xs i x ≡ xs
  set_past [] i x past = refl
  set_past (y ∷ ys) zero x past = absurd (omega (arith, past))
  set_past {X} (y ∷ ys) (suc i) x past = ap (λ (rest : List X). y ∷ rest) (set_past ys i x (omega (arith, past)))

pub adds_out : (from : ℕ) (s : ClusterState) (out : Out) → Adds 1 s (out_sent from s out)
adds_out from s (Out.Report report) =
    adds_at (λ (node : Node). record node { reports = node.reports ++ report ∷ [] }) from s
    (λ node. omega (arith, length-append node.reports (report ∷ []))) (λ node. refl)
adds_out from s (Out.Data peer frame) =
    adds_at (frame_sent from frame) peer.0 s (λ node. omega (arith, more_frames node.frames from frame)) (λ node. refl)
