-- What a core stands for once a batch is begun, and what the works of the batch have read.
use Rattle.std.proofs.Common.{◌≡◌, ℕ, Bool, true, false, List, [], ◌∷◌, ◌++◌, length, map, refl, ap, sym, subst, ◌∙◌, Option, None, Some, All}
use Rattle.std.specs.Prelude.{◌==◌, ◌&&◌, if◌then◌else◌, IfSome, IsSomeAnd, IsTrue, slice_get}
use Rattle.std.specs.List.{fold, range_with_len}
use Rattle.std.specs.Option.{is_some, option_map_or}
use Rattle.std.proofs.lemmas.Bool.{both_ways}
use Rattle.std.proofs.lemmas.List.Elements.{All-cons, All-head, All-nil, All-tail}
use Rattle.nim_base.specs.declared.number.Slot.{Slot}
use Rattle.nim_base.specs.declared.task.Task.{Task}
use Rattle.nim_base.specs.Apply.{has_counts}
use Rattle.nim_base.specs.Functions.{read_values}
use Rattle.nim_command.specs.declared.command.Kind.{Kind}
use Rattle.nim_command.specs.declared.command.Kind.TheVariants.{Run}
use Rattle.nim_command.specs.Waits.{Group, members_of}
use Rattle.nim_message.specs.declared.order.ToWorker.{ToWorker}
use Rattle.nim_message.specs.Orders.{Session, after_order, no_session}
use Rattle.nim_order.specs.Progress.{is_one_of}
use Rattle.nim_job.specs.declared.job.Job.{Job}
use Rattle.nim_job.specs.Serial.{tasks_of}
use Rattle.nim_job.specs.Whole.{is_whole}
use Rattle.nim_plan.specs.Legal.{reads_at}
use Rattle.nim_store.specs.declared.held.Held.{Held}
use Rattle.nim_store.specs.Stored.{slot_at}
use Rattle.nim_history.specs.History.{Asked, Happening, IsHistory, MayComplete, WorkerState, asked_at, has_frame, orders_in, state_of}
use Rattle.nim_history.specs.InTurn.{MayAllComplete}
use Rattle.nim_history.specs.Kept.{content_seen, held_or_empty}
use Rattle.nim_history.specs.Truth.{FindsRight, IsHandedTruth, values_read}
use Rattle.nim_history.specs.Truth as truth
use Rattle.nim_history.proofs.GoesOn.{history_goes_on}
use Rattle.nim_history.proofs.Law.{histories_are_true}
use Rattle.nim_history.proofs.TrueRuns.{some_then}
use Rattle.nim_worker.specs.declared.batch.Batch.{Batch}
use Rattle.nim_worker.specs.declared.batch.Work.{Work}
use Rattle.nim_worker.specs.declared.worker.WorkerCore.{WorkerCore}
use Rattle.nim_worker.specs.Chains.{AreWorks, HasRead, HaveRead}
use Rattle.nim_worker.specs.Right.{ReadsRight}
use Rattle.nim_worker.specs.Stands.{HasRoom, HasState, IsBeginning, IsOut, CoreStands, begun_of, tickets_of}
use Rattle.nim_worker.specs.Taken.{taken_from, taken_of}
use Rattle.nim_worker.specs.Works.{Begun, begun_as, position_of}
use Rattle.nim_worker.proofs.Chains.{works_read}
use Rattle.nim_worker.proofs.Released.{may_all}

-- the commands of works that are out, one by one
pub asked_of : (state : WorkerState) (place : ℕ) → MayComplete state place → (asked : Asked) × (asked_at state.session.groups place ≡ Some asked)
asked_of state place may = either (asked_at state.session.groups place) refl may.frame where
  either : (o : Option Asked) → asked_at state.session.groups place ≡ o → option_map_or (has_frame state) o false ≡ true
      → (asked : Asked) × (asked_at state.session.groups place ≡ Some asked)
  either None is there = absurd cc
  either (Some asked) is there = (asked, is)

pub begun_first : (groups : List Group) (place : ℕ) (places : List ℕ) (asked : Asked) → asked_at groups place ≡ Some asked
    → begun_of groups (place ∷ places) ≡ begun_as place asked.command.kind ∷ begun_of groups places
begun_first groups place places asked there =
    ap (λ (o : Option Asked). option_map_or (λ (a : Asked). begun_as place a.command.kind ∷ []) o [] ++ begun_of groups places) there

-- nothing is out before a batch is begun
pub begins_none : (core : WorkerCore) (state : WorkerState) → HasState core state → slot_at core.store ≡ state.slots → IsBeginning core [] state
begins_none core state has slots = record { has = has; chain = sym slots; waiting = All-nil (λ place. is_one_of state.ran place ≡ false) }

-- the parts of a core that a batch which is begun leaves
pub record IsLeftBegun (old new : WorkerCore) : Type 0 where
  pub failed : new.failed ≡ old.failed
  pub begun : new.begun ≡ old.begun
  pub stale : new.stale ≡ old.stale
  pub busy : new.busy ≡ true

-- a batch that takes what a batch takes is out
pub stands_begun : (old new : WorkerCore) (batch : Batch) (history : List Happening) (most : ℕ) → CoreStands old None history → IsLeftBegun old new
    → IsBeginning new batch.works.items (state_of history) → tickets_of batch.works.items ≡ taken_of (state_of history) most
    → (new.begun ≡ true → HasRoom batch) → CoreStands new (Some batch) history
stands_begun old new batch history most stands left begins taken room = record {
  history = stands.history;
  at = record {
    has = begins.has;
    busy = left.busy;
    out = subst (λ (stale : Bool). IsOut new stale batch (state_of history)) (sym (left.stale ∙ stands.at.out.0)) (
      record { may = subst (MayAllComplete (state_of history)) (sym taken) (may_all (state_of history) most).turn; chain = begins.chain },
      room,
    );
  };
}

-- before the first Reset nothing is asked for
kept_none : (b : Bool) (session wider : Session) → (session.begun ≡ false → b ≡ false) → wider.begun ≡ session.begun
    → (session.begun ≡ false → session.groups ≡ [])
    → (if b then wider else session).begun ≡ false → (if b then wider else session).groups ≡ []
kept_none true session wider counts same none not = let never : true ≡ false = counts (sym same ∙ not) in absurd cc
kept_none false session wider counts same none not = none not

not_named : (session : Session) (epoch : ℕ) → session.begun ≡ false → (session.begun && (epoch == session.epoch)) ≡ false
not_named session epoch not = ap (λ (b : Bool). b && (epoch == session.epoch)) not

none_step : (order : ToWorker) (session : Session) → (session.begun ≡ false → session.groups ≡ []) → (after_order session order).begun ≡ false
    → (after_order session order).groups ≡ []
none_step (ToWorker.Reset epoch worker workers shapes) session none = λ not. absurd cc
none_step ToWorker.Stop session none = none
none_step (ToWorker.Single epoch instance commands) session none = kept_none _ session _ (not_named session epoch) refl none
none_step (ToWorker.InstallTemplate epoch block entries) session none = kept_none _ session _ (not_named session epoch) refl none
none_step (ToWorker.Instantiate epoch instance block base args versions edits) session none = kept_none _ session _ (not_named session epoch) refl none
none_step (ToWorker.InstallPatch epoch patch copies) session none = kept_none _ session _ (not_named session epoch) refl none
none_step (ToWorker.RunPatch epoch instance patch versions) session none = kept_none _ session _ (not_named session epoch) refl none

none_from : (orders : List ToWorker) (session : Session) → (session.begun ≡ false → session.groups ≡ []) → (fold after_order session orders).begun ≡ false
    → (fold after_order session orders).groups ≡ []
none_from [] session none = none
none_from (order ∷ orders) session none = none_from orders (after_order session order) (none_step order session none)

none_asked : (history : List Happening) → (state_of history).session.begun ≡ false → (state_of history).session.groups ≡ []
none_asked history not =
    let same = history_goes_on.session history in
    ap (λ (s : Session). s.groups) same ∙ none_from (orders_in history) no_session (λ new. refl) (ap (λ (s : Session). s.begun) (sym same) ∙ not)

nothing_taken : (state : WorkerState) (most : ℕ) → state.session.groups ≡ [] → taken_of state most ≡ []
unfolding taken_of
nothing_taken state most none = ap (λ (groups : List Group). taken_from state most [] (range_with_len 0 (length (members_of groups)))) none

unbegun : (b : Bool) (X : Type 0) → (b ≡ true → X) → (X → ⊥) → b ≡ false
unbegun true X holds never = absurd (never (holds refl))
unbegun false X holds never = refl

-- a core without room has begun no epoch, and begins an empty batch
pub none_begun : (old : WorkerCore) (history : List Happening) (most : ℕ) → CoreStands old None history → old.room ≡ None
    → [] ≡ taken_of (state_of history) most
none_begun old history most stands none =
    let not : old.begun ≡ false =
    unbegun old.begun (is_some old.room ≡ true) stands.at.out.1.room (λ there. both_ways true (sym there ∙ ap is_some none) refl) in
    sym (nothing_taken (state_of history) most (none_asked history (sym stands.at.has.session.begun ∙ not)))

-- what a Run has read is what its task reads
run_right : (job : Job) (before : Slot → Option Held) (kind : Kind) (work : Work) → work.position ≡ position_of kind → HasRead before kind work
    → truth.ReadsRight job before kind → ReadsRight job work
run_right job before (Run at func params reads writes) work is read right position named =
    let same : at ≡ position = cc in
    some_then (λ (task : Task). (work.inputs.value.contents.items ≡ reads_at job position task)
    × (read_values work.inputs.value.values.items work.inputs.value.places.items ≡ values_read job position task)) (slice_get (tasks_of job) position)
    (subst (λ (n : ℕ). IsSomeAnd (slice_get (tasks_of job) n) (λ task. (has_counts func (length params) (length reads) (length writes) ≡ true)
    × (map (content_seen before) reads ≡ reads_at job n task) × (map (λ slot. (held_or_empty before slot).value) reads ≡ values_read job n task))) same right)
    (λ task there parts.
    let counts = ap (λ (b : Bool). if b then reads else []) parts.0 in (
      read.contents ∙ ap (map (content_seen before)) counts ∙ parts.1,
      read.values ∙ ap (map (λ slot. (held_or_empty before slot).value)) counts ∙ parts.2,
    ))
run_right job before kind work is read right position named = absurd cc

reads_all : (job : Job) (state : WorkerState) (now : Slot → Option Held) (works : List Work)
    → ((place : ℕ) → MayComplete state place → (asked : Asked) → asked_at state.session.groups place ≡ Some asked → FindsRight job state place asked)
    → All (MayComplete state) (tickets_of works) → (first : Slot → Option Held)
    → AreWorks state.session.shapes first now (begun_of state.session.groups (tickets_of works)) works
    → HaveRead state.slots (begun_of state.session.groups (tickets_of works)) works → All (ReadsRight job) works
reads_all job state now [] finds may first are read = All-nil (ReadsRight job)
reads_all job state now (work ∷ works) finds may first are read =
    let here = All-head (MayComplete state) work.ticket (tickets_of works) may in
    let there = asked_of state work.ticket here in
    let begun = begun_first state.session.groups work.ticket (tickets_of works) there.0 there.1 in
    let chain = subst (λ (b : List Begun). AreWorks state.session.shapes first now b (work ∷ works)) begun are in
    let has = subst (λ (b : List Begun). HaveRead state.slots b (work ∷ works)) begun read in
    All-cons (ReadsRight job) work works
    (run_right job state.slots there.0.command.kind work chain.1.0.position has.0 (finds work.ticket here there.0 there.1).reads)
    (reads_all job state now works finds (All-tail (MayComplete state) work.ticket (tickets_of works) may) chain.0 chain.1.1.1 has.1)

some_at : {X : Type 0} (P : X → Type 0) (o : Option X) (x : X) → IfSome o P → o ≡ Some x → P x
some_at P None x holds is = absurd cc
some_at P (Some y) x holds is = let same : y ≡ x = cc in subst P same holds

pub reads_begun : (job : Job) (new : WorkerCore) (works : List Work) (history : List Happening) (most : ℕ) → IsTrue (is_whole job) → IsHandedTruth job history
    → IsHistory history
    → IsBeginning new works (state_of history) → tickets_of works ≡ taken_of (state_of history) most → All (ReadsRight job) works
reads_begun job new works history most whole handed is begins taken =
    let state : WorkerState = state_of history in
    let right = histories_are_true job history whole is handed in
    reads_all job state (slot_at new.store) works
    (λ place may asked there. some_at (FindsRight job state place) (asked_at state.session.groups place) asked (right.next place may) there)
    (subst (All (MayComplete state)) (sym taken) (may_all state most).each) state.slots begins.chain
    (works_read state.session.shapes state.slots (slot_at new.store) (begun_of state.session.groups (tickets_of works)) works begins.chain)
