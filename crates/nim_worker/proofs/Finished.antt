-- What a core stands for while its batch is finished.
use Rattle.std.proofs.Common.{◌≡◌, ℕ, ◌<◌, Bool, true, false, List, [], ◌∷◌, ◌++◌, length, map, refl, ap, sym, subst, ◌∙◌, Option, None, Some, All, append_assoc, append-nil}
use Rattle.std.specs.Prelude.{if◌then◌else◌, IsTrue}
use Rattle.std.specs.List.{fold}
use Rattle.std.specs.Option.{is_some, option_map_or}
use Rattle.std.proofs.lemmas.List.{map-append}
use Rattle.std.proofs.lemmas.List.Sums.{fold-append}
use Rattle.nim_command.specs.Waits.{members_of}
use Rattle.nim_order.specs.Progress.{is_one_of}
use Rattle.nim_job.specs.declared.job.Job.{Job}
use Rattle.nim_job.specs.Whole.{is_whole}
use Rattle.nim_store.specs.Stored.{slot_at}
use Rattle.nim_history.specs.declared.out.Out.{Out}
use Rattle.nim_history.specs.History.{Asked, Happening, Completed, MayAllHappen, WorkerState, after_asked, after_happening, asked_at, completed, outs_of, state_of}
use Rattle.nim_history.specs.Truth.{IsGoodOut, IsHandedTruth}
use Rattle.nim_history.proofs.GoesOn.{truth_goes_on}
use Rattle.nim_history.proofs.Law.{histories_are_true}
use Rattle.nim_worker.specs.declared.batch.Batch.{Batch}
use Rattle.nim_worker.specs.declared.batch.Work.{Work}
use Rattle.nim_worker.specs.declared.worker.WorkerCore.{WorkerCore}
use Rattle.nim_worker.specs.Chains.{AreWorks}
use Rattle.nim_worker.specs.Stands.{Gave, HasState, IsAtWork, IsOut, CoreStands, after_completions, begun_of, completions, completions_of, outs_at, tickets_of}
use Rattle.nim_worker.specs.Works.{Begun, begun_as}
use Rattle.nim_base.proofs.Lists.{All_behind}
use Rattle.nim_worker.proofs.Begun.{asked_of, begun_first}
use Rattle.nim_worker.proofs.Handed.{stands_on}
use Rattle.nim_worker.proofs.Released.{within_all}

-- some of the works that were out are complete
pub record AreCompleted (state : WorkerState) (all left : List Work) (outs : List Out) (core : WorkerCore) : Type 0 where
  pub past : List Work
  pub split : all ≡ past ++ left
  pub has : HasState core (after_completions state (tickets_of past))
  pub work : IsAtWork core left (after_completions state (tickets_of past))
  pub gave : Gave state outs (after_completions state (tickets_of past))

-- what a worker gave once one more command is complete
pub gave_one : (state : WorkerState) (place : ℕ) → Gave state (outs_at state place) (completed state place)
gave_one state place = either (asked_at state.session.groups place) where
  either : (o : Option Asked) → (option_map_or (after_asked state place) o state).gave ≡ state.gave ++ option_map_or (outs_of state place) o []
  either None = sym (append-nil state.gave)
  either (Some asked) = refl

completions_more : (past : List Work) (work : Work) → completions (tickets_of (past ++ work ∷ [])) ≡ completions (tickets_of past) ++ Completed work.ticket ∷ []
completions_more past work =
    ap (map Completed) (map-append (λ (w : Work). w.ticket) past (work ∷ [])) ∙ map-append Completed (tickets_of past) (work.ticket ∷ [])

after_more : (state : WorkerState) (past : List Work) (work : Work)
    → after_completions state (tickets_of (past ++ work ∷ [])) ≡ completed (after_completions state (tickets_of past)) work.ticket
after_more state past work =
    ap (fold after_happening state) (completions_more past work) ∙ fold-append after_happening state (completions (tickets_of past))
    (Completed work.ticket ∷ [])

-- one more of them is
pub one_completed : (state : WorkerState) (all left : List Work) (work : Work) (before outs : List Out) (old new : WorkerCore)
    → AreCompleted state all (work ∷ left) before old
    → ((s : WorkerState) → HasState old s → IsAtWork old (work ∷ left) s → HasState new (completed s work.ticket))
    → ((s : WorkerState) → HasState old s → IsAtWork old (work ∷ left) s → IsAtWork new left (completed s work.ticket))
    → ((s : WorkerState) → HasState old s → IsAtWork old (work ∷ left) s → outs ≡ before ++ outs_at s work.ticket) → AreCompleted state all left outs new
one_completed state all left work before outs old new are at works given =
    let now : WorkerState = after_completions state (tickets_of are.past) in
    let next = after_more state are.past work in
    record {
      past = are.past ++ work ∷ [];
      split = are.split ∙ sym (append_assoc are.past (work ∷ []) left);
      has = subst (HasState new) (sym next) (at now are.has are.work);
      work = subst (IsAtWork new left) (sym next) (works now are.has are.work);
      gave = ap (λ (s : WorkerState). s.gave) next ∙ gave_one now work.ticket ∙ ap (λ (g : List Out). g ++ outs_at now work.ticket) are.gave
          ∙ append_assoc state.gave before (outs_at now work.ticket) ∙ ap (λ (g : List Out). state.gave ++ g) (sym (given now are.has are.work));
    }

-- all of them are
pub record AllCompleted (state : WorkerState) (all : List Work) (outs : List Out) (core : WorkerCore) : Type 0 where
  pub has : HasState core (after_completions state (tickets_of all))
  pub work : IsAtWork core [] (after_completions state (tickets_of all))
  pub gave : Gave state outs (after_completions state (tickets_of all))

-- The command of the first work that is out.
pub record IsFirstOut (core : WorkerCore) (first : Work) (left : List Work) (state : WorkerState) : Type 0 where
  pub asked : Asked
  pub found : asked_at state.session.groups first.ticket ≡ Some asked
  pub within : first.ticket < length (members_of state.session.groups)
  pub waiting : is_one_of state.ran first.ticket ≡ false
  pub may : MayAllHappen (completed state first.ticket) (completions (tickets_of left))
  pub chain : AreWorks state.session.shapes state.slots (slot_at core.store)
      (begun_as first.ticket asked.command.kind ∷ begun_of state.session.groups (tickets_of left)) (first ∷ left)

pub first_out : (core : WorkerCore) (first : Work) (left : List Work) (state : WorkerState) → IsAtWork core (first ∷ left) state
    → IsFirstOut core first left state
first_out core first left state at =
    let there = asked_of state first.ticket at.may.0 in
    record {
      asked = there.0;
      found = there.1;
      within = within_all state.session.groups first.ticket at.may.0.released.within;
      waiting = at.may.0.released.waiting;
      may = at.may.1;
      chain = subst (λ (b : List Begun). AreWorks state.session.shapes state.slots (slot_at core.store) b (first ∷ left))
          (begun_first state.session.groups first.ticket (tickets_of left) there.0 there.1) at.chain;
    }

-- a core whose batch is finished
pub stands_finished : (old new : WorkerCore) (batch : Batch) (history : List Happening) (outs : List Out) → CoreStands old (Some batch) history
    → old.stale ≡ false
    → AllCompleted (state_of history) batch.works.items outs new → new.busy ≡ false → new.stale ≡ false → (new.begun ≡ true → is_some new.room ≡ true)
    → CoreStands new None (history ++ completions_of old batch)
stands_finished old new batch history outs stands fresh all busy stale room =
    let out = subst (λ (s : Bool). IsOut old s batch (state_of history)) fresh stands.at.out in
    subst (λ (more : List Happening). CoreStands new None (history ++ more))
    (sym (ap (λ (b : Bool). if b then [] else completions (tickets_of batch.works.items)) fresh))
    (stands_on new None history (completions (tickets_of batch.works.items)) stands.history out.0.may
    (record { has = all.has; busy = busy; out = (stale, record { slots = sym all.work.chain; room = room }) }))

-- what is given is true of the job
handed_still : (job : Job) (history : List Happening) (stale : Bool) (places : List ℕ) → IsHandedTruth job history
    → IsHandedTruth job (history ++ (if stale then [] else completions places))
handed_still job history true places handed = subst (IsHandedTruth job) (sym (append-nil history)) handed
handed_still job history false places handed = truth_goes_on.completed job history places handed

last_good : (job : Job) (before outs all : List Out) → all ≡ before ++ outs → All (IsGoodOut job) all → All (IsGoodOut job) outs
last_good job before outs all is good = All_behind (IsGoodOut job) before outs (subst (All (IsGoodOut job)) is good)

pub outs_good : (job : Job) (core new : WorkerCore) (batch : Batch) (history : List Happening) (outs : List Out) → IsTrue (is_whole job)
    → IsHandedTruth job history
    → CoreStands new None (history ++ completions_of core batch) → Gave (state_of history) outs (state_of (history ++ completions_of core batch))
    → All (IsGoodOut job) outs
outs_good job core new batch history outs whole handed stands gave =
    last_good job (state_of history).gave outs (state_of (history ++ completions_of core batch)).gave gave
    (histories_are_true job (history ++ completions_of core batch) whole stands.history
    (handed_still job history core.stale (tickets_of batch.works.items) handed)).gave
