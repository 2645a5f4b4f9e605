-- Orders that begin one epoch: a Reset is the first of them, and behind it what was asked for stays.
use Rattle.std.proofs.Common.{◌≡◌, ℕ, Bool, true, false, List, [], ◌∷◌, ◌++◌, refl, ap, sym, ◌∙◌, Option, None, Some, All}
use Rattle.std.specs.Prelude.{if◌then◌else◌}
use Rattle.std.specs.List.{fold}
use Rattle.std.specs.Option.{option_map_or}
use Rattle.std.proofs.lemmas.Bool.{both_ways}
use Rattle.std.proofs.lemmas.List.{append-nil, append_assoc}
use Rattle.std.proofs.lemmas.List.Elements.{All-head, All-tail}
use Rattle.std.proofs.lemmas.List.Sums.{fold-append}
use Rattle.nim_command.specs.Waits.{Group}
use Rattle.nim_message.specs.declared.order.ToWorker.{ToWorker}
use Rattle.nim_message.specs.declared.order.ToWorker.TheVariants.{Single, InstallTemplate, Instantiate, InstallPatch, RunPatch, Reset, Stop}
use Rattle.nim_message.specs.Orders.{Session, after_order, no_session, session_of}
use Rattle.nim_course.specs.declared.pending.Pending.{Pending}
use Rattle.nim_course.specs.declared.pending.Pending.TheVariants.{Begin}
use Rattle.nim_place.specs.TaskRuns.{position_run}
use Rattle.nim_history.specs.History.{Asked, asked_at}
use Rattle.nim_history.specs.InTurn.{is_reset}
use Rattle.nim_base.proofs.Lists.{All_behind}
use Rattle.nim_history.proofs.InTurn.{asked_still}
use Rattle.nim_history.proofs.Ordered.{order_grows}
use Rattle.nim_lockstep.proofs.UnderWay.{BeginOnce}

-- an order that begins no epoch
abbrev pub NoReset : ToWorker → Type 0
NoReset order = is_reset order ≡ false

-- where there are orders, an epoch was begun
pub once_of : (pending : Pending) (order : ToWorker) (orders : List ToWorker) → BeginOnce pending (order ∷ orders)
    → (is_reset order ≡ true) × All NoReset orders
once_of Begin order orders once = absurd cc
once_of pending order orders once = once

-- before a Reset there are no orders
pub reset_first : (pending : Pending) (front : List ToWorker) (order : ToWorker) (rest : List ToWorker) → BeginOnce pending (front ++ order ∷ rest)
    → is_reset order ≡ true → front ≡ []
reset_first pending [] order rest once is = refl
reset_first pending (first ∷ front) order rest once is =
    absurd (both_ways (is_reset order)
    (All-head NoReset order rest (All_behind NoReset front (order ∷ rest) (once_of pending first (front ++ order ∷ rest) once).1)) is)

-- ---- what was asked for

-- the position of the task that the command at a place runs, of those that some groups ask for
abbrev pub position_in : List Group → ℕ → List ℕ
position_in groups place = option_map_or (λ (asked : Asked). position_run asked.command.kind) (asked_at groups place) []

-- more groups come behind
pub groups_grow : (session : Session) (orders : List ToWorker) → All NoReset orders
    → (more : List Group) × ((fold after_order session orders).groups ≡ session.groups ++ more)
groups_grow session [] none = ([], sym (append-nil session.groups))
groups_grow session (order ∷ orders) none =
    let first = order_grows session order (All-head NoReset order orders none) in
    let rest = groups_grow (after_order session order) orders (All-tail NoReset order orders none) in (
      first.0 ++ rest.0,
      rest.1 ∙ ap (λ (groups : List Group). groups ++ rest.0) first.1 ∙ append_assoc session.groups first.0 rest.0,
    )

-- the run at a place stays when more is asked for behind it
pub run_still : (groups more : List Group) (place position : ℕ) → position_in groups place ≡ position ∷ [] → position_in (groups ++ more) place ≡ position ∷ []
run_still groups more place position = either (asked_at groups place) refl where
  either : (o : Option Asked) → asked_at groups place ≡ o → option_map_or (λ (asked : Asked). position_run asked.command.kind) o [] ≡ position ∷ []
      → position_in (groups ++ more) place ≡ position ∷ []
  either None there is = absurd cc
  either (Some asked) there is =
      ap (λ (o : Option Asked). option_map_or (λ (a : Asked). position_run a.command.kind) o []) (asked_still groups more place asked there) ∙ is

-- where nothing is asked for there is no run
pub no_run : (groups : List Group) (place position : ℕ) → groups ≡ [] → position_in groups place ≡ position ∷ [] → ⊥
no_run groups place position none is =
    let nothing : [] ≡ position ∷ [] = ap (λ (gs : List Group). position_in gs place) (sym none) ∙ is in absurd cc

-- ---- fronts of orders

-- a run that a front of the orders asks for stands at the same place of all orders
pub placed_front : (pending : Pending) (front rest : List ToWorker) (place position : ℕ) → BeginOnce pending (front ++ rest)
    → position_in (session_of front).groups place ≡ position ∷ [] → position_in (session_of (front ++ rest)).groups place ≡ position ∷ []
placed_front pending [] rest place position once is = absurd (no_run [] place position refl is)
placed_front pending (first ∷ front) rest place position once is =
    let none : All NoReset rest = All_behind NoReset front rest (once_of pending first (front ++ rest) once).1 in
    let grows = groups_grow (session_of (first ∷ front)) rest none in
    let all : (session_of (first ∷ (front ++ rest))).groups ≡ (session_of (first ∷ front)).groups ++ grows.0 =
    ap (λ (s : Session). s.groups) (fold-append after_order no_session (first ∷ front) rest) ∙ grows.1 in
    ap (λ (groups : List Group). position_in groups place) all
    ∙ run_still (session_of (first ∷ front)).groups grows.0 place position is

-- the epoch stays
epoch_if : (b : Bool) (session wider : Session) → wider.epoch ≡ session.epoch → (if b then wider else session).epoch ≡ session.epoch
epoch_if true session wider same = same
epoch_if false session wider same = refl

epoch_stays : (session : Session) (order : ToWorker) → is_reset order ≡ false → (after_order session order).epoch ≡ session.epoch
epoch_stays session (Reset epoch worker workers shapes) none = absurd (both_ways true none refl)
epoch_stays session Stop none = refl
epoch_stays session (Single epoch instance commands) none = epoch_if _ session _ refl
epoch_stays session (InstallTemplate epoch block entries) none = epoch_if _ session _ refl
epoch_stays session (Instantiate epoch instance block base args versions edits) none = epoch_if _ session _ refl
epoch_stays session (InstallPatch epoch patch copies) none = epoch_if _ session _ refl
epoch_stays session (RunPatch epoch instance patch versions) none = epoch_if _ session _ refl

epochs_stay : (session : Session) (orders : List ToWorker) → All NoReset orders → (fold after_order session orders).epoch ≡ session.epoch
epochs_stay session [] none = refl
epochs_stay session (order ∷ orders) none =
    epochs_stay (after_order session order) orders (All-tail NoReset order orders none) ∙ epoch_stays session order (All-head NoReset order orders none)

-- all fronts of the orders are of their one epoch
pub epoch_front : (pending : Pending) (front rest : List ToWorker) → BeginOnce pending (front ++ rest) → (session_of (front ++ rest)).epoch ≡ 0
    → (session_of front).epoch ≡ 0
epoch_front pending [] rest once is = refl
epoch_front pending (first ∷ front) rest once is =
    let none : All NoReset rest = All_behind NoReset front rest (once_of pending first (front ++ rest) once).1 in
    sym (epochs_stay (session_of (first ∷ front)) rest none)
    ∙ ap (λ (s : Session). s.epoch) (sym (fold-append after_order no_session (first ∷ front) rest)) ∙ is
