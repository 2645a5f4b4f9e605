-- Where no frame of data waits, none may be taken.
use Rattle.std.proofs.Common.{◌≡◌, ℕ, zero, suc, ◌+◌, ◌<◌, ◌≤◌, Bool, true, false, not, List, [], ◌∷◌, cond, get_or, length, map, refl, ap, subst, ◌∙◌, arith, Option, None, Some, Global, inl, inr}
use Rattle.std.specs.Prelude.{◌&&◌, ◌⊎◌, slice_get}
use Rattle.std.specs.declared.collections.VecDeque.{VecDeque}
use Rattle.std.specs.List.{find, flat_map, range_with_len}
use Rattle.std.specs.Option.{option_map_or, option_or}
use Rattle.std.proofs.lemmas.Bool.{cases_lt}
use Rattle.std.proofs.lemmas.List.Folds.{find-append}
use Rattle.std.proofs.lemmas.Option.{slice_get_within}
use Rattle.nim_message.specs.declared.frame.Data.{Data as DataFrame}
use Rattle.nim_schedule.specs.declared.event.Event.{Event}
use Rattle.nim_schedule.specs.declared.event.Event.TheVariants.{Data}
use Rattle.nim_place.specs.Extends.{is_live, worker_of}
use Rattle.nim_lockstep.specs.Cluster.{ClusterState, Node, has_ended}
use Rattle.nim_lockstep.specs.Events.{is_enabled}
use Rattle.nim_lockstep.specs.Nodes.{has_any, may_frame}
use Rattle.nim_lockstep.specs.Schedules.{frames_of}
use Rattle.nim_cluster.specs.declared.cluster.Cluster.{Cluster}
use Rattle.nim_cluster.specs.declared.node.Node.{Node as kept_node}
use Rattle.nim_cluster.specs.Stands.{IsNodeIdle, IsNode, ClusterStands, queued_frames}
use Rattle.nim_cluster.specs.Steps.{AreNodesIdle}
use Rattle.nim_cluster.proofs.Links.{frames_at}
use Rattle.nim_cluster.proofs.Nodes.{got, node_at}
use Rattle.nim_cluster.proofs.Schedules.{frame_by}

-- ---- one worker's queues

-- so many queues are empty
abbrev pub AreEmpty : ℕ → List (VecDeque DataFrame Global) → Type 0
AreEmpty count queues = (from : ℕ) → from < count → get_or (queued_frames queues) from [] ≡ []

past_queues : (queues : List (VecDeque DataFrame Global)) (from : ℕ) → length queues ≤ from → get_or (queued_frames queues) from [] ≡ []
past_queues [] from above = refl
past_queues (q ∷ qs) zero above = absurd (omega (arith, above))
past_queues (q ∷ qs) (suc from) above = past_queues qs from (omega (arith, above))

pub one_more_empty : (queues : List (VecDeque DataFrame Global)) (i : ℕ) (queue : VecDeque DataFrame Global) → i < length queues
    → queue ≡ get_or queues i queue → queue.items ≡ [] → AreEmpty i queues → AreEmpty (i + 1) queues
one_more_empty queues i queue below is none so_far from before = either (cases_lt from i) where
  either : ((from < i) ⊎ (i ≤ from)) → get_or (queued_frames queues) from [] ≡ []
  either (inl less) = so_far from less
  either (inr more) =
      let same : i ≡ from = omega (arith, before, more) in
      subst (λ (n : ℕ). get_or (queued_frames queues) n [] ≡ []) same (frames_at queues i queue (got queues i queue below is) ∙ none)

pub all_empty : (queues : List (VecDeque DataFrame Global)) (count : ℕ) → length queues ≤ count → AreEmpty count queues
    → (from : ℕ) → get_or (queued_frames queues) from [] ≡ []
all_empty queues count all empty from = either (cases_lt from count) where
  either : ((from < count) ⊎ (count ≤ from)) → get_or (queued_frames queues) from [] ≡ []
  either (inl less) = empty from less
  either (inr more) = past_queues queues from (omega (arith, all, more))

-- ---- workers

pub one_more_idle : (cluster : Cluster) (s : ClusterState) (i : ℕ) (kept : kept_node) → ClusterStands cluster s → i < length cluster.nodes.items
    → kept ≡ get_or cluster.nodes.items i kept → ((number : ℕ) (node : Node) → IsNode number kept node → IsNodeIdle node)
    → AreNodesIdle i s.nodes → AreNodesIdle (i + 1) s.nodes
one_more_idle cluster s i kept stands below is idle so_far to node before at = either (cases_lt to i) where
  either : ((to < i) ⊎ (i ≤ to)) → IsNodeIdle node
  either (inl less) = so_far to node less at
  either (inr more) =
      let same : to ≡ i = omega (arith, before, more) in
      let here = node_at i cluster.nodes.items s.nodes kept stands.nodes (got cluster.nodes.items i kept below is) in
      let there : slice_get s.nodes i ≡ Some node = subst (λ (n : ℕ). slice_get s.nodes n ≡ Some node) same at in
      let one : here.0 ≡ node = cc in
      subst (λ (n : Node). IsNodeIdle n) one (idle i here.0 here.2)

-- ---- events

frame_idle : (s : ClusterState) (from to : ℕ) → AreNodesIdle (length s.nodes) s.nodes → is_enabled s (Data from to) ≡ false
frame_idle s from to idle =
    ap (λ (b : Bool). not (has_ended s) && (is_live s.control.live (worker_of to) && b)) (either (slice_get s.nodes to) refl)
    ∙ and_none (not (has_ended s)) (is_live s.control.live (worker_of to)) where
      either : (o : Option Node) → slice_get s.nodes to ≡ o → option_map_or (may_frame from) o false ≡ false
      either None at = refl
      either (Some node) at = ap (λ (frames : List DataFrame). has_any frames) (idle to node (slice_get_within s.nodes to node at) at from)

      and_none : (a b : Bool) → (a && (b && false)) ≡ false
      and_none true true = refl
      and_none true false = refl
      and_none false b = refl

none_passes : (test : Event → Bool) (f : ℕ → Event) (numbers : List ℕ) → ((n : ℕ) → test (f n) ≡ false) → find test (map f numbers) ≡ None
none_passes test f [] none = refl
none_passes test f (n ∷ ns) none =
    ap (λ (b : Bool). cond b (Some (f n)) (find test (map f ns))) (none n) ∙ none_passes test f ns none

none_of_all : (test : Event → Bool) (f : ℕ → List Event) (numbers : List ℕ) → ((n : ℕ) → find test (f n) ≡ None) → find test (flat_map f numbers) ≡ None
none_of_all test f [] none = refl
none_of_all test f (n ∷ ns) none =
    find-append test (f n) (flat_map f ns)
    ∙ ap (λ (o : Option Event). option_or o (find test (flat_map f ns))) (none n)
    ∙ none_of_all test f ns none

pub no_frame : (s : ClusterState) → AreNodesIdle (length s.nodes) s.nodes → frame_by s ≡ None
no_frame s idle =
    none_of_all (is_enabled s) (frames_of s.setup.workers) (range_with_len 0 s.setup.workers)
    (λ from. none_passes (is_enabled s) (λ (to : ℕ). Data from to) (range_with_len 0 s.setup.workers) (λ to. frame_idle s from to idle))
