-- No task stands twice in the trace: a batch runs tasks that weren't run, each once.
use Rattle.std.proofs.Common.{◌≡◌, ◌⊎◌, ℕ, ◌<◌, true, false, List, [], ◌∷◌, ◌++◌, refl, ap, sym, subst, ◌∙◌, inl, inr, Option, None, Some, arith}
use Rattle.std.specs.Prelude.{◌==◌, IsSomeAnd, slice_get}
use Rattle.std.specs.List.{AllByRecursion, flat_map, list_any}
use Rattle.std.specs.Option.{option_map_or}
use Rattle.std.proofs.lemmas.Bool.{and_right, both_ways, eq-eqb, eqb-false, eqb-true, false_from_ne_true, ne_eqb, or_cases, or_from, or_left, or_parts, or_right}
use Rattle.std.proofs.lemmas.List.Elements.{recursion_from_All}
use Rattle.std.proofs.lemmas.List.Folds.{list_any-append}
use Rattle.std.proofs.lemmas.Option.{same_Some, slice_get_within}
use Rattle.nim_command.specs.declared.command.Kind.{Kind}
use Rattle.nim_command.specs.declared.command.Kind.TheVariants.{Run}
use Rattle.nim_order.specs.Progress.{is_one_of}
use Rattle.nim_place.specs.TaskRuns.{position_run}
use Rattle.nim_history.specs.History.{Asked, WorkerState, asked_at, completed, state_of}
use Rattle.nim_history.specs.InTurn.{MayAllComplete}
use Rattle.nim_lockstep.specs.declared.ran.Ran.{Ran as ran_type}
use Rattle.nim_lockstep.specs.Cluster.{Batched, ClusterState, Node}
use Rattle.nim_lockstep.specs.InStep.{AreOnce, is_same}
use Rattle.nim_lockstep.proofs.NodesOuts.{ran_one}
use Rattle.nim_lockstep.proofs.UnderWay.{AreApart, IsBatchRight, IsDone, IsDoneBy, IsUnderWay, NodesGoOn, position_at, positions_of}

-- ---- places that may be completed in turn

-- no number stands twice
abbrev AreSingle : List ℕ → Type 0
AreSingle [] = Unit {0}
AreSingle (n ∷ ns) = (is_one_of ns n ≡ false) × AreSingle ns

-- places of which none is among these, and none stands twice
record AreUndone (ran places : List ℕ) : Type 0 where
  apart : (place : ℕ) → is_one_of places place ≡ true → is_one_of ran place ≡ false
  single : AreSingle places

new_places : (state : WorkerState) (places : List ℕ) → MayAllComplete state places → AreUndone state.ran places
new_places state [] may = record { apart = λ place is. absurd (both_ways false refl is); single = tt }
new_places state (place ∷ places) may =
    let rest : AreUndone (state.ran ++ place ∷ []) places =
    subst (λ (ran : List ℕ). AreUndone ran places) (ran_one state place may.0) (new_places (completed state place) places may.1) in
    let later : (other : ℕ) → is_one_of places other ≡ true → (is_one_of state.ran other ≡ false) × ((place == other) ≡ false) =
    λ other there.
    let parts = or_parts (is_one_of state.ran other) (is_one_of (place ∷ []) other)
    (sym (list_any-append (λ (p : ℕ). p == other) state.ran (place ∷ [])) ∙ rest.apart other there) in
    (parts.0, (or_parts (place == other) false parts.1).0) in
    record {
      apart = λ other there.
          elim (or_cases (place == other) (is_one_of places other) there) [
            | inl same ↦ subst (λ (p : ℕ). is_one_of state.ran p ≡ false) (eqb-true place other same) may.0.released.waiting
            | inr among ↦ (later other among).0
          ];
      single = (
        false_from_ne_true (is_one_of places place) (λ among. both_ways (place == place) (later place among).1 (eq-eqb place place refl)),
        rest.single,
      );
    }

-- ---- the positions of their runs

-- a command runs at most one task
kind_most : (kind : Kind) → (position_run kind ≡ []) ⊎ ((p : ℕ) × (position_run kind ≡ p ∷ []))
kind_most (Run position func params reads writes) = inr (position, refl)
kind_most kind = inl refl

position_most : (state : WorkerState) (place : ℕ) → (position_at state place ≡ []) ⊎ ((p : ℕ) × (position_at state place ≡ p ∷ []))
position_most state place = either (asked_at state.session.groups place) where
  either : (o : Option Asked)
      → (option_map_or (λ (asked : Asked). position_run asked.command.kind) o [] ≡ [])
      ⊎ ((p : ℕ) × (option_map_or (λ (asked : Asked). position_run asked.command.kind) o [] ≡ p ∷ []))
  either None = inl refl
  either (Some asked) = kind_most asked.command.kind

-- where a number comes from
record ComesFrom (f : ℕ → List ℕ) (places : List ℕ) (p : ℕ) : Type 0 where
  place : ℕ
  among : is_one_of places place ≡ true
  gives : f place ≡ p ∷ []

number_found : (f : ℕ → List ℕ) → ((place : ℕ) → (f place ≡ []) ⊎ ((p : ℕ) × (f place ≡ p ∷ []))) → (places : List ℕ) (p : ℕ)
    → is_one_of (flat_map f places) p ≡ true → ComesFrom f places p
number_found f most [] p is = absurd (both_ways false refl is)
number_found f most (place ∷ places) p is = either (most place) (number_found f most places p) where
  wider : ComesFrom f places p → ComesFrom f (place ∷ places) p
  wider from = record { place = from.place; among = or_right (place == from.place) (is_one_of places from.place) from.among; gives = from.gives }

  either : ((f place ≡ []) ⊎ ((q : ℕ) × (f place ≡ q ∷ []))) → (is_one_of (flat_map f places) p ≡ true → ComesFrom f places p) → ComesFrom f (place ∷ places) p
  either (inl none) later = wider (later (subst (λ (ns : List ℕ). is_one_of (ns ++ flat_map f places) p ≡ true) none is))
  either (inr (q, one)) later =
      let there : is_one_of (q ∷ flat_map f places) p ≡ true = subst (λ (ns : List ℕ). is_one_of (ns ++ flat_map f places) p ≡ true) one is in
      elim (or_cases (q == p) (is_one_of (flat_map f places) p) there) [
        | inl same ↦
            record {
              place = place;
              among = or_left (place == place) (is_one_of places place) (eq-eqb place place refl);
              gives = one ∙ ap (λ (n : ℕ). n ∷ []) (eqb-true q p same);
            }
        | inr among ↦ wider (later among)
      ]

-- where each comes from one place, they are single as the places are
single_numbers : (f : ℕ → List ℕ) → ((place : ℕ) → (f place ≡ []) ⊎ ((p : ℕ) × (f place ≡ p ∷ [])))
    → ((one other p : ℕ) → f one ≡ p ∷ [] → f other ≡ p ∷ [] → one ≡ other)
    → (places : List ℕ) → AreSingle places → AreSingle (flat_map f places)
single_numbers f most apart [] single = tt
single_numbers f most apart (place ∷ places) single = either (most place) (single_numbers f most apart places single.1) where
  either : ((f place ≡ []) ⊎ ((p : ℕ) × (f place ≡ p ∷ []))) → AreSingle (flat_map f places) → AreSingle (flat_map f (place ∷ places))
  either (inl none) rest = subst (λ (ns : List ℕ). AreSingle (ns ++ flat_map f places)) (sym none) rest
  either (inr (p, one)) rest =
      let new : is_one_of (flat_map f places) p ≡ false =
      false_from_ne_true (is_one_of (flat_map f places) p) (λ among.
      let from : ComesFrom f places p = number_found f most places p among in
      both_ways (is_one_of places place) single.0
      (subst (λ (n : ℕ). is_one_of places n ≡ true) (apart from.place place p from.gives one) from.among)) in
      let all : AreSingle (p ∷ flat_map f places) = (new, rest) in
      subst (λ (ns : List ℕ). AreSingle (ns ++ flat_map f places)) (sym one) all

-- ---- traces

-- a run at another position than these is none of them
none_same : (ran : ran_type) (runs : List ran_type) → is_one_of (positions_of runs) ran.position ≡ false → list_any (is_same ran) runs ≡ false
none_same ran [] none = refl
none_same ran (other ∷ runs) none =
    let parts = or_parts (other.position == ran.position) (is_one_of (positions_of runs) ran.position) none in
    or_from (is_same ran other) (list_any (is_same ran) runs)
    (and_right (ran.epoch == other.epoch) (ran.position == other.position)
    (ne_eqb ran.position other.position (λ same. eqb-false other.position ran.position parts.0 (sym same))))
    (none_same ran runs parts.1)

single_once : (runs : List ran_type) → AreSingle (positions_of runs) → AreOnce runs
single_once [] single = tt
single_once (ran ∷ runs) single = (none_same ran runs single.0, single_once runs single.1)

once_append : (trace runs : List ran_type) → AreOnce trace → AreOnce runs → AllByRecursion (λ (ran : ran_type). list_any (is_same ran) runs ≡ false) trace
    → AreOnce (trace ++ runs)
once_append [] runs first rest apart = rest
once_append (ran ∷ trace) runs first rest apart = (
  list_any-append (is_same ran) trace runs ∙ or_from (list_any (is_same ran) trace) (list_any (is_same ran) runs) first.0 apart.0,
  once_append trace runs first.1 rest apart.1,
)

-- ---- a batch that is finished

-- a run of the trace is none of the batch's
done_apart : NodesGoOn → (s : ClusterState) (number : ℕ) (node : Node) (b : Batched) → IsUnderWay s → AreApart s → slice_get s.nodes number ≡ Some node
    → IsBatchRight s.job number (state_of node.happened) b → (ran : ran_type) → IsDone s.nodes ran → list_any (is_same ran) b.runs ≡ false
done_apart go s number node b under apart at right ran done =
    none_same ran b.runs
    (ap (λ (ns : List ℕ). is_one_of ns ran.position) right.runs
    ∙ false_from_ne_true (is_one_of (flat_map (position_at (state_of node.happened)) b.places) ran.position)
    (λ among. clash (slice_get s.nodes ran.worker.0) refl done.by (number_found (position_at (state_of node.happened))
    (position_most (state_of node.happened)) b.places ran.position among))) where
      within : (k : ℕ) (other : Node) → slice_get s.nodes k ≡ Some other → k < s.setup.workers
      within k other there = omega (arith, slice_get_within s.nodes k other there, under.nodes.nodes)

      clash : (o : Option Node) → slice_get s.nodes ran.worker.0 ≡ o → IsSomeAnd o (IsDoneBy ran)
          → ComesFrom (position_at (state_of node.happened)) b.places ran.position → ⊥
      clash None there by from = by
      clash (Some other) there by from =
          let same : (ran.worker.0 ≡ number) × (by.place ≡ from.place) =
          apart ran.worker.0 number (within ran.worker.0 other there) (within number node at) by.place from.place ran.position
          (go.placed s ran.worker.0 other under there by.place ran.position by.runs)
          (go.placed s number node under at from.place ran.position from.gives) in
          let one : other ≡ node = same_Some other node (sym there ∙ ap (slice_get s.nodes) same.0 ∙ at) in
          let complete : is_one_of (state_of node.happened).ran by.place ≡ true =
          subst (λ (n : Node). is_one_of (state_of n.happened).ran by.place ≡ true) one by.complete in
          both_ways (is_one_of (state_of node.happened).ran from.place)
          ((new_places (state_of node.happened) b.places right.may).apart from.place from.among)
          (subst (λ (place : ℕ). is_one_of (state_of node.happened).ran place ≡ true) same.1 complete)

-- with its runs the trace has no task twice
pub finish_once : NodesGoOn → (s : ClusterState) (number : ℕ) (node : Node) (b : Batched) → IsUnderWay s → AreApart s
    → slice_get s.nodes number ≡ Some node → IsBatchRight s.job number (state_of node.happened) b → AreOnce (s.trace ++ b.runs)
finish_once go s number node b under apart at right =
    let state : WorkerState = state_of node.happened in
    let below : number < s.setup.workers = omega (arith, slice_get_within s.nodes number node at, under.nodes.nodes) in
    let single : AreSingle (flat_map (position_at state) b.places) =
    single_numbers (position_at state) (position_most state)
    (λ one other p first second.
    (apart number number below below one other p (go.placed s number node under at one p first) (go.placed s number node under at other p second)).1)
    b.places (new_places state b.places right.may).single in
    once_append s.trace b.runs under.once (single_once b.runs (subst AreSingle (sym right.runs) single))
    (each s.trace (recursion_from_All (IsDone s.nodes) s.trace under.done)) where
      each : (trace : List ran_type) → AllByRecursion (IsDone s.nodes) trace → AllByRecursion (λ (ran : ran_type). list_any (is_same ran) b.runs ≡ false) trace
      each [] done = tt
      each (ran ∷ trace) done = (done_apart go s number node b under apart at right ran done.0, each trace done.1)
