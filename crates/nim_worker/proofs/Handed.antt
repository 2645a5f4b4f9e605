-- What a core stands for once it was handed an order or a frame of data.
use Rattle.std.proofs.Common.{◌≡◌, ◌≤◌, arith, ℕ, Bool, true, false, not, List, [], ◌∷◌, ◌++◌, refl, ap, ap₂, sym, subst, ◌∙◌, Option, None, Some, All}
use Rattle.std.specs.Prelude.{◌==◌, ◌&&◌, nat_lt, if◌then◌else◌}
use Rattle.std.specs.FinMap as map
use Rattle.std.specs.List.{fold}
use Rattle.std.specs.Option.{is_some, option_map_or}
use Rattle.std.proofs.lemmas.List.Elements.{All-head, All-tail}
use Rattle.nim_base.specs.declared.number.Shape.{Shape}
use Rattle.nim_base.specs.declared.number.Slot.{Slot}
use Rattle.nim_base.specs.declared.number.Worker.{Worker}
use Rattle.nim_base.specs.Value.{Grid}
use Rattle.nim_command.specs.declared.command.Command.{Command}
use Rattle.nim_command.specs.declared.edit.PatchPart.{PatchPart}
use Rattle.nim_command.specs.declared.entry.Entry.{Entry}
use Rattle.nim_command.specs.Edits.{edited_by}
use Rattle.nim_command.specs.Expansion.{expanded}
use Rattle.nim_command.specs.Waits.{Group, single_group}
use Rattle.nim_message.specs.declared.frame.Data.{Data}
use Rattle.nim_message.specs.declared.order.ToWorker.{ToWorker}
use Rattle.nim_message.specs.Orders.{Session, after_order, counted, instance_group, patch_group, with_list, does_count, epoch_named, is_current as is_named}
use Rattle.nim_plan.specs.declared.installed.Installed.{Installed}
use Rattle.nim_plan.specs.Installed.{Has, halves_of, patches_of}
use Rattle.nim_store.specs.declared.held.Held.{Held}
use Rattle.nim_store.specs.Keys.{is_not_before, key_cmp, key_of}
use Rattle.nim_store.specs.Stored.{slot_at}
use Rattle.nim_history.specs.History as history
use Rattle.nim_history.specs.History.{Happening, IsHistory, MayAllHappen, WorkerState, after_happening, asked_at, framed, ordered, state_of}
use Rattle.nim_history.specs.InTurn.{is_reset}
use Rattle.nim_history.proofs.GoesOn.{history_goes_on}
use Rattle.nim_history.proofs.Ordered.{ordered_is, ordered_session}
use Rattle.nim_history.proofs.InTurn.{commands_in_turn}
use Rattle.nim_worker.specs.declared.admitted.Admitted.{Admitted}
use Rattle.nim_worker.specs.declared.batch.Batch.{Batch}
use Rattle.nim_worker.specs.declared.batch.Work.{Work}
use Rattle.nim_worker.specs.declared.worker.WorkerCore.{WorkerCore}
use Rattle.nim_worker.specs.Admitted.{IsAdmitted}
use Rattle.nim_worker.specs.Chains.{AreWorks}
use Rattle.nim_worker.specs.declared.head.GroupHead.{GroupHead}
use Rattle.nim_worker.specs.declared.messages.Asked.{Asked}
use Rattle.nim_worker.specs.Messages.{IsInstantiated, IsReset}
use Rattle.nim_worker.specs.Stands.{HasSession, HasState, IsAtRest, IsAtWork, IsOut, MayBeOut, CoreStands, CoreStandsAt, begun_of, is_current, is_passed, tickets_of}
use Rattle.nim_worker.specs.Works.{Begun, begun_as}

-- what goes on behind a history
pub stands_on : (core : WorkerCore) (batch : Option Batch) (past more : List Happening) → IsHistory past → MayAllHappen (state_of past) more
    → CoreStandsAt core batch (fold after_happening (state_of past) more) → CoreStands core batch (past ++ more)
stands_on core batch past more is may at = record {
  history = history_goes_on.may past more is may;
  at = subst (CoreStandsAt core batch) (sym (history_goes_on.state past more)) at;
}

-- an order that is passed over changes nothing
not_true : (b : Bool) → not b ≡ true → b ≡ false
not_true true is = absurd cc
not_true false is = refl

not_false : (b : Bool) → not b ≡ false → b ≡ true
not_false true is = refl
not_false false is = absurd cc

counts_as : (core : WorkerCore) (session : Session) → HasSession core session → (named : Option ℕ)
    → option_map_or (is_current core) named false ≡ option_map_or (λ (epoch : ℕ). session.begun && (epoch == session.epoch)) named false
counts_as core session has None = refl
counts_as core session has (Some epoch) = ap₂ (λ (b : Bool) (e : ℕ). b && (epoch == e)) has.begun has.epoch

pub passed_same : (core : WorkerCore) (session : Session) (order : ToWorker) → HasSession core session → is_passed core order ≡ true
    → after_order session order ≡ session
passed_same core session (ToWorker.Reset epoch worker workers shapes) has passed = absurd cc
passed_same core session ToWorker.Stop has passed = refl
passed_same core session (ToWorker.Single epoch instance commands) has passed =
    ap (λ (b : Bool). if b then counted session (ToWorker.Single epoch instance commands) else session)
    (sym (counts_as core session has (Some epoch)) ∙ not_true (is_current core epoch) passed)
passed_same core session (ToWorker.InstallTemplate epoch block entries) has passed =
    ap (λ (b : Bool). if b then counted session (ToWorker.InstallTemplate epoch block entries) else session)
    (sym (counts_as core session has (Some epoch)) ∙ not_true (is_current core epoch) passed)
passed_same core session (ToWorker.Instantiate epoch instance block base args versions edits) has passed =
    ap (λ (b : Bool). if b then counted session (ToWorker.Instantiate epoch instance block base args versions edits) else session)
    (sym (counts_as core session has (Some epoch)) ∙ not_true (is_current core epoch) passed)
passed_same core session (ToWorker.InstallPatch epoch patch copies) has passed =
    ap (λ (b : Bool). if b then counted session (ToWorker.InstallPatch epoch patch copies) else session)
    (sym (counts_as core session has (Some epoch)) ∙ not_true (is_current core epoch) passed)
passed_same core session (ToWorker.RunPatch epoch instance patch versions) has passed =
    ap (λ (b : Bool). if b then counted session (ToWorker.RunPatch epoch instance patch versions) else session)
    (sym (counts_as core session has (Some epoch)) ∙ not_true (is_current core epoch) passed)

-- an order of the session's epoch counts
pub taken_counts : (core : WorkerCore) (session : Session) (order : ToWorker) → HasSession core session
    → not (option_map_or (is_current core) (epoch_named order) false) ≡ false
    → does_count session order ≡ true
taken_counts core session order has taken =
    sym (counts_as core session has (epoch_named order)) ∙ not_false (option_map_or (is_current core) (epoch_named order) false) taken

passed_no_reset : (core : WorkerCore) (order : ToWorker) → is_passed core order ≡ true → is_reset order ≡ false
passed_no_reset core (ToWorker.Reset epoch worker workers shapes) passed = absurd cc
passed_no_reset core order passed = refl

pub stands_passed : (core : WorkerCore) (batch : Option Batch) (state : WorkerState) (order : ToWorker) → is_passed core order ≡ true
    → CoreStandsAt core batch state
    → CoreStandsAt core batch (ordered state order)
stands_passed core batch state order passed at =
    let same : ordered state order ≡ state =
    ordered_is state order (passed_no_reset core order passed) ∙ ap (λ (s : Session). record state { session = s })
    (passed_same core state.session order at.has.session passed) in
    subst (CoreStandsAt core batch) (sym same) at

-- works that are out are still out once another order came
begun_same : (groups others : List Group) (places : List ℕ) → All (λ place. asked_at others place ≡ asked_at groups place) places
    → begun_of others places ≡ begun_of groups places
begun_same groups others [] all = refl
begun_same groups others (place ∷ places) all =
    ap₂ (λ (first : List Begun) (rest : List Begun). first ++ rest)
    (ap (λ (a : Option history.Asked). option_map_or (λ (asked : history.Asked). begun_as place asked.command.kind ∷ []) a [])
    (All-head (λ p. asked_at others p ≡ asked_at groups p) place places all))
    (begun_same groups others places (All-tail (λ p. asked_at others p ≡ asked_at groups p) place places all))

-- the parts of a core that say what is out
pub record OutStays (old new : WorkerCore) : Type 0 where
  pub store : new.store ≡ old.store
  pub room : new.room ≡ old.room
  pub begun : new.begun ≡ old.begun
  pub stale : new.stale ≡ old.stale
  pub busy : new.busy ≡ old.busy

rest_stays : (old new : WorkerCore) (before after : WorkerState) → OutStays old new → after.slots ≡ before.slots → IsAtRest old before → IsAtRest new after
rest_stays old new before after same slots rest = record {
  slots = ap slot_at same.store ∙ rest.slots ∙ sym slots;
  room = λ begun. ap is_some same.room ∙ rest.room (sym same.begun ∙ begun);
}

pub out_stays : (old new : WorkerCore) (batch : Option Batch) (before after : WorkerState) → OutStays old new → after.slots ≡ before.slots
    → ((works : List Work) → IsAtWork old works before → IsAtWork new works after) → MayBeOut old batch before → MayBeOut new batch after
out_stays old new None before after same slots work out = (same.stale ∙ out.0, rest_stays old new before after same slots out.1)
out_stays old new (Some batch) before after same slots work out =
    subst (λ (stale : Bool). IsOut new stale batch after) (sym same.stale) (either old.stale out) where
      either : (stale : Bool) → IsOut old stale batch before → IsOut new stale batch after
      either true out = rest_stays old new before after same slots out
      either false out = (work batch.works.items out.0, λ begun. out.1 (sym same.begun ∙ begun))

kept_if : (b : Bool) (session wider : Session) → wider.shapes ≡ session.shapes → (if b then wider else session).shapes ≡ session.shapes
kept_if true session wider same = same
kept_if false session wider same = refl

shapes_stay : (session : Session) (order : ToWorker) → is_reset order ≡ false → (after_order session order).shapes ≡ session.shapes
shapes_stay session (ToWorker.Reset epoch worker workers shapes) is = absurd cc
shapes_stay session ToWorker.Stop is = refl
shapes_stay session (ToWorker.Single epoch instance commands) is =
    kept_if (is_named session epoch) session (counted session (ToWorker.Single epoch instance commands)) refl
shapes_stay session (ToWorker.InstallTemplate epoch block entries) is =
    kept_if (is_named session epoch) session (counted session (ToWorker.InstallTemplate epoch block entries)) refl
shapes_stay session (ToWorker.Instantiate epoch instance block base args versions edits) is =
    kept_if (is_named session epoch) session (counted session (ToWorker.Instantiate epoch instance block base args versions edits)) refl
shapes_stay session (ToWorker.InstallPatch epoch patch copies) is =
    kept_if (is_named session epoch) session (counted session (ToWorker.InstallPatch epoch patch copies)) refl
shapes_stay session (ToWorker.RunPatch epoch instance patch versions) is =
    kept_if (is_named session epoch) session (counted session (ToWorker.RunPatch epoch instance patch versions)) refl

work_ordered : (old new : WorkerCore) (state : WorkerState) (order : ToWorker) (works : List Work) → is_reset order ≡ false → OutStays old new
    → IsAtWork old works state
    → IsAtWork new works (ordered state order)
work_ordered old new state order works is same at = record {
  may = commands_in_turn.orders state order (tickets_of works) is at.may;
  chain =
      let begun = begun_same state.session.groups (ordered state order).session.groups (tickets_of works)
      (commands_in_turn.same state order (tickets_of works) is at.may) in
      let shapes : (ordered state order).session.shapes ≡ state.session.shapes =
      ap (λ (s : Session). s.shapes) (ordered_session state order) ∙ shapes_stay state.session order is in
      let slots : (ordered state order).slots ≡ state.slots = ap (λ (s : WorkerState). s.slots) (ordered_is state order is) in
      subst (λ (b : List Begun). AreWorks (ordered state order).session.shapes (ordered state order).slots (slot_at new.store) b works) (sym begun)
      (subst (λ (all : List Shape). AreWorks all (ordered state order).slots (slot_at new.store) (begun_of state.session.groups (tickets_of works)) works)
      (sym shapes)
      (subst (λ (s : Slot → Option Held). AreWorks state.session.shapes s (slot_at new.store) (begun_of state.session.groups (tickets_of works)) works)
      (sym slots)
      (subst (λ (s : Slot → Option Held). AreWorks state.session.shapes state.slots s (begun_of state.session.groups (tickets_of works)) works)
      (ap slot_at (sym same.store)) at.chain)));
}

-- a core that has what counts after an order which is no Reset
pub stands_ordered : (old new : WorkerCore) (batch : Option Batch) (state : WorkerState) (order : ToWorker) → is_reset order ≡ false → OutStays old new
    → new.failed ≡ old.failed → new.inbox ≡ old.inbox → HasSession new (after_order state.session order)
    → IsAdmitted new.admitted (after_order state.session order).groups state.ran → CoreStandsAt old batch state → CoreStandsAt new batch (ordered state order)
stands_ordered old new batch state order is same failed inbox session admitted at = record {
  has = subst (HasState new) (sym (ordered_is state order is))
      (record { failed = failed ∙ at.has.failed; session = session; admitted = admitted; inbox = inbox ∙ at.has.inbox });
  busy = same.busy ∙ at.busy;
  out = out_stays old new batch state (ordered state order) same (ap (λ (s : WorkerState). s.slots) (ordered_is state order is))
      (λ works work. work_ordered old new state order works is same work) at.out;
}

-- an order that counts
counted_as : (session : Session) (order : ToWorker) → is_reset order ≡ false → does_count session order ≡ true
    → after_order session order ≡ counted session order
counted_as session (ToWorker.Reset epoch worker workers shapes) is counts = absurd cc
counted_as session ToWorker.Stop is counts = refl
counted_as session (ToWorker.Single epoch instance commands) is counts =
    ap (λ (b : Bool). if b then counted session (ToWorker.Single epoch instance commands) else session) counts
counted_as session (ToWorker.InstallTemplate epoch block entries) is counts =
    ap (λ (b : Bool). if b then counted session (ToWorker.InstallTemplate epoch block entries) else session) counts
counted_as session (ToWorker.Instantiate epoch instance block base args versions edits) is counts =
    ap (λ (b : Bool). if b then counted session (ToWorker.Instantiate epoch instance block base args versions edits) else session) counts
counted_as session (ToWorker.InstallPatch epoch patch copies) is counts =
    ap (λ (b : Bool). if b then counted session (ToWorker.InstallPatch epoch patch copies) else session) counts
counted_as session (ToWorker.RunPatch epoch instance patch versions) is counts =
    ap (λ (b : Bool). if b then counted session (ToWorker.RunPatch epoch instance patch versions) else session) counts

taken_as : (core : WorkerCore) (session : Session) (order : ToWorker) → is_reset order ≡ false → HasSession core session → is_passed core order ≡ false
    → after_order session order ≡ counted session order
taken_as core session (ToWorker.Reset epoch worker workers shapes) is has taken = absurd cc
taken_as core session ToWorker.Stop is has taken = refl
taken_as core session order is has taken = counted_as session order is (taken_counts core session order has taken)

-- an order that counts and leaves all but what is installed and what was admitted
pub stands_taken : (old : WorkerCore) (installed : Installed) (admitted : Admitted) (batch : Option Batch) (state : WorkerState) (order : ToWorker)
    → is_reset order ≡ false → is_passed old order ≡ false
    → (counted state.session order).begun ≡ state.session.begun → (counted state.session order).epoch ≡ state.session.epoch
    → (counted state.session order).shapes ≡ state.session.shapes
    → (Has old.installed state.session.halves state.session.patches → Has installed (counted state.session order).halves (counted state.session order).patches)
    → (IsAdmitted old.admitted state.session.groups state.ran → IsAdmitted admitted (counted state.session order).groups state.ran)
    → CoreStandsAt old batch state → CoreStandsAt (record old { installed = installed; admitted = admitted }) batch (ordered state order)
stands_taken old installed admitted batch state order is taken begun epoch shapes install admit at =
    let new : WorkerCore = record old { installed = installed; admitted = admitted } in
    let has = at.has.session in
    let counts : after_order state.session order ≡ counted state.session order = taken_as old state.session order is has taken in
    stands_ordered old new batch state order is (record { store = refl; room = refl; begun = refl; stale = refl; busy = refl }) refl refl
    (subst (HasSession new) (sym counts)
    (record { begun = has.begun ∙ sym begun; epoch = has.epoch ∙ sym epoch; shapes = has.shapes ∙ sym shapes; installed = install has.installed }))
    (subst (λ (s : Session). IsAdmitted admitted s.groups state.ran) (sym counts) (admit at.has.admitted))
    at

-- a Reset
stands_reset : (old new : WorkerCore) (batch : Option Batch) (state : WorkerState) (epoch : ℕ) (worker : Worker) (workers : ℕ) (shapes : List Shape)
    → IsReset old epoch shapes new
    → CoreStandsAt old batch state → CoreStandsAt new batch (ordered state (ToWorker.Reset epoch worker workers shapes))
stands_reset old new batch state epoch worker workers shapes is at = record {
  has = record {
    failed = is.failed ∙ at.has.failed;
    session = record { begun = is.begun; epoch = is.epoch; shapes = is.shapes; installed = is.installed };
    admitted = is.admitted;
    inbox = is.inbox ∙ ap (λ (i : map.FinMap key_cmp Grid). map.retain_keys i (is_not_before epoch)) at.has.inbox;
  };
  busy = is.busy ∙ at.busy;
  out = either batch (is.stale ∙ at.busy) at.out;
} where
  after : WorkerState
  after = ordered state (ToWorker.Reset epoch worker workers shapes)

  rest : IsAtRest new after
  rest = record { slots = is.slots; room = λ begun. is.room }

  either : (b : Option Batch) → new.stale ≡ is_some b → MayBeOut old b state → MayBeOut new b after
  either None stale out = (stale, rest)
  either (Some b) stale out = subst (λ (s : Bool). IsOut new s b after) (sym stale) rest

pub reset_taken : (old new : WorkerCore) (batch : Option Batch) (state : WorkerState) (order : ToWorker) (epoch : ℕ) (worker : Worker) (workers : ℕ)
    (shapes : List Shape)
    → order ≡ ToWorker.Reset epoch worker workers shapes → IsReset old epoch shapes new → CoreStandsAt old batch state
    → CoreStandsAt new batch (ordered state order)
reset_taken old new batch state order epoch worker workers shapes is reset at =
    subst (λ (o : ToWorker). CoreStandsAt new batch (ordered state o)) (sym is) (stands_reset old new batch state epoch worker workers shapes reset at)

-- each other order that counts
pub single_taken : (old : WorkerCore) (admitted : Admitted) (batch : Option Batch) (state : WorkerState) (order : ToWorker) (epoch instance : ℕ)
    (commands : List Command)
    → order ≡ ToWorker.Single epoch instance commands → is_passed old order ≡ false
    → IsAdmitted admitted (state.session.groups ++ single_group epoch instance commands ∷ []) state.ran
    → CoreStandsAt old batch state → CoreStandsAt (record old { admitted = admitted }) batch (ordered state order)
single_taken old admitted batch state order epoch instance commands is taken more at =
    subst (λ (o : ToWorker). CoreStandsAt (record old { admitted = admitted }) batch (ordered state o)) (sym is)
    (stands_taken old old.installed admitted batch state (ToWorker.Single epoch instance commands) refl
    (subst (λ (o : ToWorker). is_passed old o ≡ false) is taken) refl refl refl
    (λ has. has) (λ before. more) at)

pub run_taken : (old : WorkerCore) (admitted : Admitted) (batch : Option Batch) (state : WorkerState) (order : ToWorker) (epoch instance patch : ℕ)
    (versions : List ℕ)
    → order ≡ ToWorker.RunPatch epoch instance patch versions → is_passed old order ≡ false
    → IsAdmitted admitted (state.session.groups ++ patch_group epoch instance versions (state.session.patches patch) ∷ []) state.ran
    → CoreStandsAt old batch state → CoreStandsAt (record old { admitted = admitted }) batch (ordered state order)
run_taken old admitted batch state order epoch instance patch versions is taken more at =
    subst (λ (o : ToWorker). CoreStandsAt (record old { admitted = admitted }) batch (ordered state o)) (sym is)
    (stands_taken old old.installed admitted batch state (ToWorker.RunPatch epoch instance patch versions) refl
    (subst (λ (o : ToWorker). is_passed old o ≡ false) is taken) refl refl refl
    (λ has. has) (λ before. more) at)

pub template_taken : (old : WorkerCore) (installed : Installed) (batch : Option Batch) (state : WorkerState) (order : ToWorker) (epoch block : ℕ)
    (entries : List Entry)
    → order ≡ ToWorker.InstallTemplate epoch block entries → is_passed old order ≡ false
    → Has installed (with_list block entries (halves_of old.installed)) (patches_of old.installed)
    → CoreStandsAt old batch state → CoreStandsAt (record old { installed = installed }) batch (ordered state order)
template_taken old installed batch state order epoch block entries is taken now at =
    subst (λ (o : ToWorker). CoreStandsAt (record old { installed = installed }) batch (ordered state o)) (sym is)
    (stands_taken old installed old.admitted batch state (ToWorker.InstallTemplate epoch block entries) refl
    (subst (λ (o : ToWorker). is_passed old o ≡ false) is taken) refl refl refl
    (λ has. record { halves = now.halves ∙ ap (with_list block entries) has.halves; patches = now.patches ∙ has.patches }) (λ before. before) at)

pub patch_taken : (old : WorkerCore) (installed : Installed) (batch : Option Batch) (state : WorkerState) (order : ToWorker) (epoch patch : ℕ)
    (copies : List PatchPart)
    → order ≡ ToWorker.InstallPatch epoch patch copies → is_passed old order ≡ false
    → Has installed (halves_of old.installed) (with_list patch copies (patches_of old.installed))
    → CoreStandsAt old batch state → CoreStandsAt (record old { installed = installed }) batch (ordered state order)
patch_taken old installed batch state order epoch patch copies is taken now at =
    subst (λ (o : ToWorker). CoreStandsAt (record old { installed = installed }) batch (ordered state o)) (sym is)
    (stands_taken old installed old.admitted batch state (ToWorker.InstallPatch epoch patch copies) refl
    (subst (λ (o : ToWorker). is_passed old o ≡ false) is taken) refl refl refl
    (λ has. record { halves = now.halves ∙ has.halves; patches = now.patches ∙ ap (with_list patch copies) has.patches }) (λ before. before) at)

pub instance_taken : (old : WorkerCore) (installed : Installed) (admitted : Admitted) (batch : Option Batch) (state : WorkerState) (order : ToWorker)
    (epoch instance block : ℕ) (head : GroupHead) (asked : Asked)
    → order ≡ ToWorker.Instantiate epoch instance block asked.base asked.args asked.versions asked.edits → is_passed old order ≡ false
    → head ≡ record { epoch = epoch; instance = instance; single = false } → IsInstantiated old.installed old.admitted head block asked installed admitted
    → CoreStandsAt old batch state → CoreStandsAt (record old { installed = installed; admitted = admitted }) batch (ordered state order)
instance_taken old installed admitted batch state order epoch instance block head asked is taken known now at =
    let halves = at.has.session.installed.halves in
    let half : List Entry = edited_by asked.edits (state.session.halves block) in
    subst (λ (o : ToWorker). CoreStandsAt (record old { installed = installed; admitted = admitted }) batch (ordered state o)) (sym is)
    (stands_taken old installed admitted batch state (ToWorker.Instantiate epoch instance block asked.base asked.args asked.versions asked.edits) refl
    (subst (λ (o : ToWorker). is_passed old o ≡ false) is taken) refl refl refl
    (λ has. record {
      halves = now.has.halves ∙ ap (λ (f : ℕ → List Entry). with_list block (edited_by asked.edits (f block)) f) has.halves;
      patches = now.has.patches ∙ has.patches;
    })
    (λ before. now.admitted state.session.groups state.ran (instance_group epoch instance asked.base asked.args asked.versions half) before
    (record {
      head = known;
      told = refl;
      commands = ap (λ (f : ℕ → List Entry). expanded asked.base asked.args asked.versions 0 (edited_by asked.edits (f block))) (sym halves);
    }))
    at)

pub not_less : (a b : ℕ) → b ≤ a → nat_lt a b ≡ false
not_less a b above = grind (arith, above)

-- nothing has happened
pub no_history : IsHistory []
unfolding IsHistory
no_history = record {}

-- a frame of an earlier epoch
pub stands_late : (core : WorkerCore) (batch : Option Batch) (state : WorkerState) (frame : Data) → nat_lt frame.epoch core.epoch ≡ true
    → CoreStandsAt core batch state
    → CoreStandsAt core batch (framed state frame)
stands_late core batch state frame late at =
    let is : nat_lt frame.epoch state.session.epoch ≡ true = subst (λ (epoch : ℕ). nat_lt frame.epoch epoch ≡ true) at.has.session.epoch late in
    subst (CoreStandsAt core batch)
    (ap (λ (b : Bool). if b then state else record state { inbox = map.insert state.inbox (key_of frame) frame.value }) (sym is)) at

work_framed : (old new : WorkerCore) (state : WorkerState) (frame : Data) (works : List Work)
    → framed state frame ≡ record state { inbox = map.insert state.inbox (key_of frame) frame.value }
    → OutStays old new → IsAtWork old works state → IsAtWork new works (framed state frame)
work_framed old new state frame works is same at = record {
  may = commands_in_turn.frames state frame (tickets_of works) at.may;
  chain = subst (λ (s : WorkerState). AreWorks s.session.shapes s.slots (slot_at new.store) (begun_of s.session.groups (tickets_of works)) works) (sym is)
      (subst (λ (s : Slot → Option Held). AreWorks state.session.shapes state.slots s (begun_of state.session.groups (tickets_of works)) works)
      (ap slot_at (sym same.store)) at.chain);
}

-- a frame that is kept
pub stands_framed : (old : WorkerCore) (inbox : map.FinMap key_cmp Grid) (batch : Option Batch) (state : WorkerState) (frame : Data)
    → nat_lt frame.epoch old.epoch ≡ false
    → inbox ≡ map.insert old.inbox (key_of frame) frame.value → CoreStandsAt old batch state
    → CoreStandsAt (record old { inbox = inbox }) batch (framed state frame)
stands_framed old inbox batch state frame late kept at =
    let new : WorkerCore = record old { inbox = inbox } in
    let not_late : nat_lt frame.epoch state.session.epoch ≡ false = subst (λ (epoch : ℕ). nat_lt frame.epoch epoch ≡ false) at.has.session.epoch late in
    let is : framed state frame ≡ record state { inbox = map.insert state.inbox (key_of frame) frame.value } =
    ap (λ (b : Bool). if b then state else record state { inbox = map.insert state.inbox (key_of frame) frame.value }) not_late in
    let same : OutStays old new = record { store = refl; room = refl; begun = refl; stale = refl; busy = refl } in
    let has = at.has.session in
    record {
      has = subst (HasState new) (sym is) (record {
        failed = at.has.failed;
        session = record { begun = has.begun; epoch = has.epoch; shapes = has.shapes; installed = has.installed };
        admitted = at.has.admitted;
        inbox = kept ∙ ap (λ (i : map.FinMap key_cmp Grid). map.insert i (key_of frame) frame.value) at.has.inbox;
      });
      busy = at.busy;
      out = out_stays old new batch state (framed state frame) same (ap (λ (s : WorkerState). s.slots) is)
          (λ works work. work_framed old new state frame works is same work) at.out;
    }
