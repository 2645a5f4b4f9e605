-- Each Run that a worker completed stands in the trace, whatever happens next.
use Rattle.std.proofs.Common.{◌≡◌, ℕ, Bool, true, false, List, [], ◌∷◌, ◌++◌, map, refl, ap, sym, subst, ◌∙◌, Option, None, Some, inl, inr}
use Rattle.std.specs.Prelude.{◌==◌, nat_lt, if◌then◌else◌}
use Rattle.std.specs.FinMap as map
use Rattle.std.specs.List.{flat_map, fold}
use Rattle.std.specs.Option.{is_some, option_map_or}
use Rattle.std.proofs.lemmas.Bool.{both_ways, eq-eqb, eqb-true, or_cases, or_left}
use Rattle.std.proofs.lemmas.List.Folds.{list_any-append}
use Rattle.nim_command.specs.Waits.{Group}
use Rattle.nim_message.specs.declared.frame.Data.{Data}
use Rattle.nim_message.specs.declared.order.ToWorker.{ToWorker}
use Rattle.nim_message.specs.Orders.{Session}
use Rattle.nim_order.specs.Progress.{is_one_of}
use Rattle.nim_place.specs.TaskRuns.{position_run}
use Rattle.nim_store.specs.Keys.{key_of}
use Rattle.nim_history.specs.History.{Asked, Completed, Framed, Happening, Ordered, WorkerState, after_asked, after_happening, asked_at, completed, framed, new_state, ordered, state_of}
use Rattle.nim_history.specs.InTurn.{MayAllComplete, is_reset}
use Rattle.nim_history.proofs.InTurn.{asked_still, session_stays}
use Rattle.nim_history.proofs.Ordered.{order_grows, ordered_is}
use Rattle.nim_lockstep.specs.declared.ran.Ran.{Ran as ran_type}
use Rattle.nim_lockstep.specs.Cluster.{Node}
use Rattle.nim_lockstep.proofs.FewRan.{reset_ran}
use Rattle.nim_lockstep.proofs.NodesOnce.{position_in}
use Rattle.nim_lockstep.proofs.NodesOuts.{among_later, among_more, finish_state, more_run, ran_after, run_behind}
use Rattle.nim_lockstep.proofs.NodesThrough.{AllRun}
use Rattle.nim_lockstep.proofs.UnderWay.{AreTraced, IsThroughOf, position_at, positions_of}

-- ---- what was completed was asked for

-- at each place that is complete a command is asked for
abbrev AreFound : WorkerState → Type 0
AreFound state = (place : ℕ) → is_one_of state.ran place ≡ true → is_some (asked_at state.session.groups place) ≡ true

asked_longer : (groups more : List Group) (place : ℕ) → is_some (asked_at groups place) ≡ true → is_some (asked_at (groups ++ more) place) ≡ true
asked_longer groups more place = either (asked_at groups place) refl where
  either : (o : Option Asked) → asked_at groups place ≡ o → is_some o ≡ true → is_some (asked_at (groups ++ more) place) ≡ true
  either None at is = absurd (both_ways false refl is)
  either (Some asked) at is = ap (λ (o : Option Asked). is_some o) (asked_still groups more place asked at)

ordered_found : (state : WorkerState) (order : ToWorker) → AreFound state → AreFound (ordered state order)
ordered_found state order found = either (is_reset order) refl where
  either : (reset : Bool) → is_reset order ≡ reset → AreFound (ordered state order)
  either true reset = λ place is. absurd (both_ways false refl (ap (λ (ran : List ℕ). is_one_of ran place) (sym (reset_ran state order reset)) ∙ is))
  either false other =
      let grows = order_grows state.session order other in
      subst AreFound (sym (ordered_is state order other))
      (λ place is. ap (λ (groups : List Group). is_some (asked_at groups place)) grows.1
      ∙ asked_longer state.session.groups grows.0 place (found place is))

framed_found : (state : WorkerState) (frame : Data) → AreFound state → AreFound (framed state frame)
framed_found state frame found = either (nat_lt frame.epoch state.session.epoch) where
  either : (b : Bool) → AreFound (if b then state else record state { inbox = map.insert state.inbox (key_of frame) frame.value })
  either true = found
  either false = found

completed_found : (state : WorkerState) (place : ℕ) → AreFound state → AreFound (completed state place)
completed_found state place found = either (asked_at state.session.groups place) refl where
  either : (o : Option Asked) → asked_at state.session.groups place ≡ o → AreFound (option_map_or (after_asked state place) o state)
  either None at = found
  either (Some asked) at = λ other is.
      elim (or_cases (is_one_of state.ran other) (is_one_of (place ∷ []) other) (sym (list_any-append (λ p. p == other) state.ran (place ∷ [])) ∙ is)) [
        | inl early ↦ found other early
        | inr now ↦
            elim (or_cases (place == other) false now) [
              | inl same ↦
                  subst (λ (p : ℕ). is_some (asked_at state.session.groups p) ≡ true) (eqb-true place other same) (ap (λ (o : Option Asked). is_some o) at)
              | inr none ↦ absurd (both_ways false refl none)
            ]
      ]

found_behind : (state : WorkerState) (history : List Happening) → AreFound state → AreFound (fold after_happening state history)
found_behind state [] found = found
found_behind state (Ordered order ∷ history) found = found_behind (ordered state order) history (ordered_found state order found)
found_behind state (Framed frame ∷ history) found = found_behind (framed state frame) history (framed_found state frame found)
found_behind state (Completed place ∷ history) found = found_behind (completed state place) history (completed_found state place found)

all_found : (happened : List Happening) → AreFound (state_of happened)
all_found happened = found_behind new_state happened (λ place is. absurd (both_ways false refl is))

-- ---- orders and frames

-- a run of what was asked for before is the same
run_before : (groups more : List Group) (place : ℕ) → is_some (asked_at groups place) ≡ true → position_in groups place ≡ position_in (groups ++ more) place
run_before groups more place = either (asked_at groups place) refl where
  either : (o : Option Asked) → asked_at groups place ≡ o → is_some o ≡ true
      → option_map_or (λ (asked : Asked). position_run asked.command.kind) o [] ≡ position_in (groups ++ more) place
  either None at is = absurd (both_ways false refl is)
  either (Some asked) at is =
      ap (λ (o : Option Asked). option_map_or (λ (a : Asked). position_run a.command.kind) o []) (sym (asked_still groups more place asked at))

order_traced : (trace : List ran_type) (state : WorkerState) (order : ToWorker) → AreFound state → AreTraced trace state → AreTraced trace (ordered state order)
order_traced trace state order found traced = either (is_reset order) refl where
  either : (reset : Bool) → is_reset order ≡ reset → AreTraced trace (ordered state order)
  either true reset = λ place position is at.
      absurd (both_ways false refl (ap (λ (ran : List ℕ). is_one_of ran place) (sym (reset_ran state order reset)) ∙ is))
  either false other =
      let grows = order_grows state.session order other in
      subst (AreTraced trace) (sym (ordered_is state order other))
      (λ place position is at. traced place position is
      (run_before state.session.groups grows.0 place (found place is) ∙ ap (λ (groups : List Group). position_in groups place) (sym grows.1) ∙ at))

pub ordered_traced : (trace : List ran_type) (happened : List Happening) (order : ToWorker) → AreTraced trace (state_of happened)
    → AreTraced trace (ordered (state_of happened) order)
ordered_traced trace happened order traced = order_traced trace (state_of happened) order (all_found happened) traced

pub framed_traced : (trace : List ran_type) (state : WorkerState) (frame : Data) → AreTraced trace state → AreTraced trace (framed state frame)
framed_traced trace state frame traced = either (nat_lt frame.epoch state.session.epoch) where
  either : (b : Bool) → AreTraced trace (if b then state else record state { inbox = map.insert state.inbox (key_of frame) frame.value })
  either true = traced
  either false = traced

-- ---- a batch that is finished

pub longer_traced : (trace more : List ran_type) (state : WorkerState) → AreTraced trace state → AreTraced (trace ++ more) state
longer_traced trace more state traced = λ place position is at. more_run trace more position (traced place position is at)

pub longer_through : (groups : List Group) (trace more : List ran_type) (instance : ℕ) → IsThroughOf groups trace instance
    → IsThroughOf groups (trace ++ more) instance
longer_through groups trace more instance is = record {
  number = is.number;
  group = is.group;
  there = is.there;
  is = is.is;
  whole = is.whole;
  all = λ place asked position at same run. more_run trace more position (is.all place asked position at same run);
}

-- the position of a place is among those of all
among_flat : (f : ℕ → List ℕ) (places : List ℕ) (place position : ℕ) → is_one_of places place ≡ true → f place ≡ position ∷ []
    → is_one_of (flat_map f places) position ≡ true
among_flat f [] place position is at = absurd (both_ways false refl is)
among_flat f (first ∷ places) place position is at = elim (or_cases (first == place) (is_one_of places place) is) [
  | inl same ↦
      among_more (f first) (flat_map f places) position
      (ap (λ (all : List ℕ). is_one_of all position) (ap f (eqb-true first place same) ∙ at)
      ∙ or_left (position == position) false (eq-eqb position position refl))
  | inr later ↦ among_later (f first) (flat_map f places) position (among_flat f places place position later at)
]

-- behind the runs of a batch all that was completed and all of the batch is in the trace
pub batch_run : (trace runs : List ran_type) (state : WorkerState) (places : List ℕ) → positions_of runs ≡ flat_map (position_at state) places
    → AreTraced trace state → AllRun (trace ++ runs) state.session.groups (state.ran ++ places)
batch_run trace runs state places same traced = λ place position is at.
    elim (or_cases (is_one_of state.ran place) (is_one_of places place) (sym (list_any-append (λ other. other == place) state.ran places) ∙ is)) [
      | inl early ↦ more_run trace runs position (traced place position early at)
      | inr now ↦
          run_behind trace runs position
          (ap (λ (positions : List ℕ). is_one_of positions position) same ∙ among_flat (position_at state) places place position now at)
    ]

pub finished_traced : (trace runs : List ran_type) (node : Node) (places : List ℕ) → positions_of runs ≡ flat_map (position_at (state_of node.happened)) places
    → MayAllComplete (state_of node.happened) places → AreTraced trace (state_of node.happened)
    → AreTraced (trace ++ runs) (state_of (node.happened ++ map Completed places))
finished_traced trace runs node places same may traced =
    let state : WorkerState = state_of node.happened in
    subst (AreTraced (trace ++ runs)) (sym (finish_state node.happened places))
    (λ place position is at. batch_run trace runs state places same traced place position
    (ap (λ (ran : List ℕ). is_one_of ran place) (sym (ran_after state places may)) ∙ is)
    (ap (λ (session : Session). position_in session.groups place) (sym (session_stays state places)) ∙ at))
