-- What a worker has come to once it completed commands in turn, and what it gave by that.
use Rattle.std.proofs.Common.{◌≡◌, ℕ, zero, Bool, true, false, List, [], ◌∷◌, ◌++◌, drop, length, map, refl, ap, sym, subst, ◌∙◌, Option, None, Some, All, inl, inr}
use Rattle.std.specs.Prelude.{◌==◌, ◌||◌, if◌then◌else◌}
use Rattle.std.specs.List.{flat_map}
use Rattle.std.specs.Option.{option_map_or}
use Rattle.std.proofs.lemmas.Bool.{both_ways, eq-eqb, or_cases, or_left, or_right}
use Rattle.std.proofs.lemmas.List.{append-nil, append_assoc, drop_at}
use Rattle.std.proofs.lemmas.List.Concat.{flat_map-append}
use Rattle.std.proofs.lemmas.List.Elements.{All-append, All-nil}
use Rattle.std.proofs.lemmas.List.Folds.{list_any-append}
use Rattle.nim_base.specs.declared.number.Slot.{Slot}
use Rattle.nim_command.specs.declared.command.Kind.{Kind}
use Rattle.nim_command.specs.declared.command.Kind.TheVariants.{Fetch, Run, Send}
use Rattle.nim_command.specs.Waits.{Group, Source, FromInstance}
use Rattle.nim_message.specs.declared.order.ToWorker.{ToWorker}
use Rattle.nim_message.specs.declared.report.FromWorker.TheVariants.{Ran, Through, Value}
use Rattle.nim_message.specs.Orders.{Session, session_of}
use Rattle.nim_order.specs.Progress.{is_one_of}
use Rattle.nim_place.specs.TaskRuns.{position_run}
use Rattle.nim_store.specs.declared.held.Held.{Held}
use Rattle.nim_history.specs.declared.out.Out.{Out}
use Rattle.nim_history.specs.History.{Asked, Completed, Happening, MayComplete, WorkerState, after_asked, asked_at, completed, has_frame, left_in_group, order_in, orders_in, outs_of, state_of, through_outs}
use Rattle.nim_history.specs.InTurn.{MayAllComplete}
use Rattle.nim_history.specs.Kept.{contents_read, frame_of, is_single, own_outs, held_or_empty}
use Rattle.nim_history.proofs.Completed.{completed_session}
use Rattle.nim_history.proofs.GoesOn.{history_goes_on}
use Rattle.nim_history.proofs.InTurn.{session_stays}
use Rattle.nim_worker.specs.Stands.{after_completions, outs_at}
use Rattle.nim_worker.proofs.Finished.{gave_one}
use Rattle.nim_lockstep.specs.declared.ran.Ran.{Ran as ran_type}
use Rattle.nim_lockstep.specs.InStep.{was_run}
use Rattle.nim_base.proofs.Lists.{only_one}
use Rattle.nim_lockstep.proofs.NodesAt.{IsPast}
use Rattle.nim_lockstep.proofs.NodesOnce.{position_in}
use Rattle.nim_lockstep.proofs.NodesThrough.{AllRun, through_of}
use Rattle.nim_lockstep.proofs.UnderWay.{IsThrough, IsThroughOf, IsTold, is_from_instance, positions_of}

-- ---- the orders are the same, and more is complete

none_in : (places : List ℕ) → flat_map order_in (map Completed places) ≡ []
none_in [] = refl
none_in (place ∷ places) = none_in places

pub finish_orders : (happened : List Happening) (places : List ℕ) → orders_in (happened ++ map Completed places) ≡ orders_in happened
finish_orders happened places =
    flat_map-append order_in happened (map Completed places)
    ∙ ap (λ (rest : List ToWorker). orders_in happened ++ rest) (none_in places) ∙ append-nil (orders_in happened)

pub finish_state : (happened : List Happening) (places : List ℕ) → state_of (happened ++ map Completed places) ≡ after_completions (state_of happened) places
finish_state happened places = history_goes_on.state happened (map Completed places)

pub ran_one : (state : WorkerState) (place : ℕ) → MayComplete state place → (completed state place).ran ≡ state.ran ++ place ∷ []
ran_one state place may = either (asked_at state.session.groups place) may.frame where
  either : (o : Option Asked) → option_map_or (has_frame state) o false ≡ true
      → (option_map_or (after_asked state place) o state).ran ≡ state.ran ++ place ∷ []
  either None frame = absurd (both_ways false refl frame)
  either (Some asked) frame = refl

pub ran_after : (state : WorkerState) (places : List ℕ) → MayAllComplete state places → (after_completions state places).ran ≡ state.ran ++ places
ran_after state [] may = sym (append-nil state.ran)
ran_after state (place ∷ places) may =
    ran_after (completed state place) places may.1
    ∙ ap (λ (ran : List ℕ). ran ++ places) (ran_one state place may.0)
    ∙ append_assoc state.ran (place ∷ []) places

pub among_more : (xs ys : List ℕ) (n : ℕ) → is_one_of xs n ≡ true → is_one_of (xs ++ ys) n ≡ true
among_more xs ys n is = list_any-append (λ other. other == n) xs ys ∙ or_left (is_one_of xs n) (is_one_of ys n) is

pub among_later : (xs ys : List ℕ) (n : ℕ) → is_one_of ys n ≡ true → is_one_of (xs ++ ys) n ≡ true
among_later xs ys n is = list_any-append (λ other. other == n) xs ys ∙ or_right (is_one_of xs n) (is_one_of ys n) is

pub finish_past : (state : WorkerState) (places : List ℕ) → MayAllComplete state places → IsPast state (after_completions state places)
finish_past state places may place position ran is = (
  ap (λ (all : List ℕ). is_one_of all place) (ran_after state places may) ∙ among_more state.ran places place ran,
  ap (λ (session : Session). position_in session.groups place) (session_stays state places) ∙ is,
)

-- ---- what is given

-- what is given when the commands at these places are completed in turn
abbrev pub outs_from : WorkerState → List ℕ → List Out
outs_from state [] = []
outs_from state (place ∷ places) = outs_at state place ++ outs_from (completed state place) places

gave_after : (state : WorkerState) (places : List ℕ) → (after_completions state places).gave ≡ state.gave ++ outs_from state places
gave_after state [] = sym (append-nil state.gave)
gave_after state (place ∷ places) =
    gave_after (completed state place) places
    ∙ ap (λ (gave : List Out). gave ++ outs_from (completed state place) places) (gave_one state place)
    ∙ append_assoc state.gave (outs_at state place) (outs_from (completed state place) places)

pub given_by : (state : WorkerState) (places : List ℕ) → drop (length state.gave) (after_completions state places).gave ≡ outs_from state places
given_by state places =
    ap (drop (length state.gave)) (gave_after state places) ∙ drop_at state.gave (outs_from state places) (length state.gave) refl

-- ---- each Run that is reported was performed, and so were those of an instance that is through

abbrev pub IsToldOut : List ToWorker → List ran_type → Out → Type 0
IsToldOut sent trace (Out.Report report) = IsTold sent trace report
IsToldOut sent trace (Out.Data peer frame) = Unit {0}

one_if : {X : Type 0} (P : X → Type 0) (x : X) → P x → (b : Bool) → All P (if b then x ∷ [] else [])
one_if P x is true = only_one P x is
one_if P x is false = All-nil P

own_told : (sent : List ToWorker) (trace : List ran_type) (group : Group) (kind : Kind) (slots : Slot → Option Held)
    → ((position : ℕ) → position_run kind ≡ position ∷ [] → was_run trace position ≡ true) → All (IsToldOut sent trace) (own_outs group kind slots)
own_told sent trace group (Send slot peer entry) slots have =
    only_one (IsToldOut sent trace) (Out.Data peer (frame_of group entry (held_or_empty slots slot))) tt
own_told sent trace group (Fetch slot ticket) slots have =
    only_one (IsToldOut sent trace)
    (Out.Report (Value group.epoch ticket (held_or_empty slots slot).object (held_or_empty slots slot).version (held_or_empty slots slot).value)) tt
own_told sent trace group (Run position func params reads writes) slots have =
    one_if (IsToldOut sent trace) (Out.Report (Ran group.epoch position (contents_read func params reads writes slots))) (have position refl)
    (is_single group.source)
own_told sent trace group kind slots have = All-nil (IsToldOut sent trace)

through_told : (sent : List ToWorker) (trace : List ran_type) (source : Source) (group : Group) (left : ℕ)
    → (is_from_instance source ≡ true → left ≡ 0 → IsThrough sent trace group.instance) → All (IsToldOut sent trace) (through_outs source group left)
through_told sent trace (FromInstance base) group zero through =
    only_one (IsToldOut sent trace) (Out.Report (Through group.epoch group.instance)) (through refl refl)
through_told sent trace source group left through = All-nil (IsToldOut sent trace)

at_told : (sent : List ToWorker) (trace : List ran_type) (state : WorkerState) (place : ℕ) → state.session.groups ≡ (session_of sent).groups
    → AllRun trace state.session.groups (state.ran ++ place ∷ []) → All (IsToldOut sent trace) (outs_at state place)
at_told sent trace state place same have = either (asked_at state.session.groups place) refl where
  either : (o : Option Asked) → asked_at state.session.groups place ≡ o → All (IsToldOut sent trace) (option_map_or (outs_of state place) o [])
  either None at = All-nil (IsToldOut sent trace)
  either (Some asked) at =
      let left : ℕ = left_in_group state.session.groups asked.number (state.ran ++ place ∷ []) in
      All-append (IsToldOut sent trace) (own_outs asked.group asked.command.kind state.slots) (through_outs asked.group.source asked.group left)
      (own_told sent trace asked.group asked.command.kind state.slots
      (λ position run. have place position (among_later state.ran (place ∷ []) place (or_left (place == place) false (eq-eqb place place refl)))
      (ap (λ (o : Option Asked). option_map_or (λ (a : Asked). position_run a.command.kind) o []) at ∙ run)))
      (through_told sent trace asked.group.source asked.group left
      (λ whole none. subst (λ (groups : List Group). IsThroughOf groups trace asked.group.instance) same
      (through_of trace state.session.groups (state.ran ++ place ∷ []) place asked at whole none have)))

-- what is complete behind a command is so behind all
ran_among : (state : WorkerState) (place : ℕ) (places : List ℕ) (n : ℕ) → is_one_of ((completed state place).ran ++ places) n ≡ true
    → is_one_of (state.ran ++ place ∷ places) n ≡ true
ran_among state place places n = either (asked_at state.session.groups place) where
  either : (o : Option Asked) → is_one_of ((option_map_or (after_asked state place) o state).ran ++ places) n ≡ true
      → is_one_of (state.ran ++ place ∷ places) n ≡ true
  either None is =
      elim (or_cases (is_one_of state.ran n) (is_one_of places n) (sym (list_any-append (λ other. other == n) state.ran places) ∙ is)) [
        | inl early ↦ among_more state.ran (place ∷ places) n early
        | inr late ↦ among_later state.ran (place ∷ places) n (or_right (place == n) (is_one_of places n) late)
      ]
  either (Some asked) is = ap (λ (all : List ℕ). is_one_of all n) (sym (append_assoc state.ran (place ∷ []) places)) ∙ is

pub outs_told : (sent : List ToWorker) (trace : List ran_type) (state : WorkerState) (places : List ℕ) → state.session.groups ≡ (session_of sent).groups
    → AllRun trace (session_of sent).groups (state.ran ++ places) → All (IsToldOut sent trace) (outs_from state places)
outs_told sent trace state [] same have = All-nil (IsToldOut sent trace)
outs_told sent trace state (place ∷ places) same have =
    All-append (IsToldOut sent trace) (outs_at state place) (outs_from (completed state place) places)
    (at_told sent trace state place same
    (subst (λ (groups : List Group). AllRun trace groups (state.ran ++ place ∷ [])) (sym same)
    (λ at position is. have at position
    (ap (λ (all : List ℕ). is_one_of all at) (sym (append_assoc state.ran (place ∷ []) places)) ∙ among_more (state.ran ++ place ∷ []) places at is))))
    (outs_told sent trace (completed state place) places (ap (λ (session : Session). session.groups) (completed_session state place) ∙ same)
    (λ at position is. have at position (ran_among state place places at is)))

-- a trace that has runs has their positions
has_positions : (runs : List ran_type) (position : ℕ) → was_run runs position ≡ is_one_of (positions_of runs) position
has_positions [] position = refl
has_positions (run ∷ runs) position = ap (λ (b : Bool). (run.position == position) || b) (has_positions runs position)

pub more_run : (trace more : List ran_type) (position : ℕ) → was_run trace position ≡ true → was_run (trace ++ more) position ≡ true
more_run trace more position is =
    list_any-append (λ (ran : ran_type). ran.position == position) trace more ∙ or_left (was_run trace position) (was_run more position) is

pub run_behind : (trace runs : List ran_type) (position : ℕ) → is_one_of (positions_of runs) position ≡ true → was_run (trace ++ runs) position ≡ true
run_behind trace runs position is =
    list_any-append (λ (ran : ran_type). ran.position == position) trace runs
    ∙ or_right (was_run trace position) (was_run runs position) (has_positions runs position ∙ is)
