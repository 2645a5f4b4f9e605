-- The first work that is out is complete.
use Rattle.std.proofs.Common.{◌≡◌, ℕ, suc, zero, Bool, List, [], ◌∷◌, ◌++◌, refl, ap, sym, subst, ◌∙◌, arith, Option, Some}
use Rattle.std.specs.Prelude.{◌==◌, ◌&&◌, IfOk, OnOk, Result, Ok, Err}
use Rattle.std.specs.Option.{option_map, option_map_or}
use Rattle.std.proofs.lemmas.Bool.{ne_eqb}
use Rattle.std.proofs.lemmas.Option.{same_Some}
use Rattle.nim_base.specs.declared.number.Shape.{Shape}
use Rattle.nim_command.specs.Waits.{Group, Source, FromSingle, FromInstance, FromPatch}
use Rattle.nim_plan.specs.declared.installed.Installed.{Installed}
use Rattle.nim_plan.specs.Installed.{Has}
use Rattle.nim_store.specs.Stored.{slot_at}
use Rattle.nim_history.specs.declared.out.Out.{Out}
use Rattle.nim_history.specs.History.{Asked, WorkerState, after_asked, asked_at, completed, left_in_group, outs_of, through_outs, value_received}
use Rattle.nim_history.specs.Kept.{kept_by, own_outs}
use Rattle.nim_worker.specs.declared.admitted.Admitted.{Admitted}
use Rattle.nim_worker.specs.declared.admitted.Ended.{Ended}
use Rattle.nim_worker.specs.declared.batch.Work.{Work}
use Rattle.nim_worker.specs.declared.worker.WorkerCore.{WorkerCore}
use Rattle.nim_worker.specs.Admitted.{IsAdmitted, ended_at, group_head, is_told}
use Rattle.nim_worker.specs.Chains.{AreWorks}
use Rattle.nim_worker.specs.Finishing.{HasLeft, through_of}
use Rattle.nim_worker.specs.Stands.{HasState, IsAtWork, begun_of, outs_at, tickets_of}
use Rattle.nim_worker.specs.Works.{begun_as}
use Rattle.nim_worker.proofs.Finished.{IsFirstOut}

pub both_ok : {T E S : Type 0} {P Q : T → Type 0} (r : Result T E) → (S → (x : T) → P x → Q x) → OnOk r S → IfOk r P → IfOk r Q
both_ok (Ok x) follows stands is = follows stands x is
both_ok (Err e) follows stands is = tt

-- what is known of a command that has become complete
abbrev pub ended_as : List Group → List ℕ → ℕ → Asked → Ended
ended_as groups ran place asked = record {
  command = asked.command;
  head = group_head asked.group;
  through = is_told asked.group.source && (left_in_group groups asked.number (ran ++ place ∷ []) == 0);
}

pub ended_same : (groups : List Group) (ran : List ℕ) (place : ℕ) (asked : Asked) (ended : Ended) → asked_at groups place ≡ Some asked
    → Some ended ≡ ended_at groups ran place
    → ended ≡ ended_as groups ran place asked
ended_same groups ran place asked ended found is =
    same_Some ended (ended_as groups ran place asked) (is ∙ ap (option_map (ended_as groups ran place)) found)

-- the works that are out, for what the core has
pub chain_out : (core : WorkerCore) (state : WorkerState) (work : Work) (left : List Work) (first : IsFirstOut core work left state) → HasState core state
    → AreWorks core.store.shapes state.slots (slot_at core.store)
    (begun_as work.ticket first.asked.command.kind ∷ begun_of state.session.groups (tickets_of left)) (work ∷ left)
chain_out core state work left first has =
    subst
    (λ (all : List Shape). AreWorks all state.slots (slot_at core.store)
    (begun_as work.ticket first.asked.command.kind ∷ begun_of state.session.groups (tickets_of left)) (work ∷ left))
    (sym has.session.shapes) first.chain

-- the core has what a worker has once it is complete
pub has_then : (old new : WorkerCore) (admitted : Admitted) (state : WorkerState) (work : Work) (left : List Work) (before after : List Out) (through : Bool)
    (first : IsFirstOut old work left state) → HasState old state → new ≡ record old { admitted = admitted; store = new.store; inbox = new.inbox }
    → IsAdmitted admitted state.session.groups (state.ran ++ work.ticket ∷ [])
    → HasLeft old.store.shapes state first.asked (begun_of state.session.groups (tickets_of left)) left before through new after
    → HasState new (completed state work.ticket)
has_then old new admitted state work left before after through first has rest done leaves =
    subst (HasState new) (sym (ap (λ (o : Option Asked). option_map_or (after_asked state work.ticket) o state) first.found))
    (record {
      failed = ap (λ (c : WorkerCore). c.failed) rest ∙ has.failed;
      session = record {
        begun = ap (λ (c : WorkerCore). c.begun) rest ∙ has.session.begun;
        epoch = ap (λ (c : WorkerCore). c.epoch) rest ∙ has.session.epoch;
        shapes = leaves.shapes ∙ has.session.shapes;
        installed =
            subst (λ (i : Installed). Has i state.session.halves state.session.patches) (sym (ap (λ (c : WorkerCore). c.installed) rest)) has.session.installed;
      };
      admitted =
          subst (λ (a : Admitted). IsAdmitted a state.session.groups (state.ran ++ work.ticket ∷ [])) (sym (ap (λ (c : WorkerCore). c.admitted) rest)) done;
      inbox = leaves.inbox;
    })

-- the others are still out
pub work_then : (old new : WorkerCore) (state : WorkerState) (work : Work) (left : List Work) (before after : List Out) (through : Bool)
    (first : IsFirstOut old work left state) → HasState old state
    → HasLeft old.store.shapes state first.asked (begun_of state.session.groups (tickets_of left)) left before through new after
    → IsAtWork new left (completed state work.ticket)
work_then old new state work left before after through first has leaves =
    let next : completed state work.ticket ≡ after_asked state work.ticket first.asked =
    ap (λ (o : Option Asked). option_map_or (after_asked state work.ticket) o state) first.found in
    record {
      may = first.may;
      chain = subst (λ (s : WorkerState). AreWorks s.session.shapes s.slots (slot_at new.store) (begun_of s.session.groups (tickets_of left)) left) (sym next)
          (subst (λ (all : List Shape). AreWorks all (kept_by all (value_received state first.asked) first.asked.command.kind state.slots) (slot_at new.store)
          (begun_of state.session.groups (tickets_of left)) left) has.session.shapes leaves.works);
    }

-- a group is told to be through where all of its commands are complete
through_same : (source : Source) (group : Group) (left : ℕ) → through_of (group_head group) (is_told source && (left == 0)) ≡ through_outs source group left
through_same (FromInstance base) group zero = refl
through_same (FromInstance base) group (suc left) = ap (through_of (group_head group)) (ne_eqb (suc left) 0 (λ same. absurd (omega (arith, same))))
through_same FromSingle group left = refl
through_same FromPatch group left = refl

-- what was given then
pub given_then : (old new : WorkerCore) (state : WorkerState) (work : Work) (left : List Work) (before after : List Out) (through : Bool)
    (first : IsFirstOut old work left state)
    → through ≡ (is_told first.asked.group.source && (left_in_group state.session.groups first.asked.number (state.ran ++ work.ticket ∷ []) == 0))
    → HasLeft old.store.shapes state first.asked (begun_of state.session.groups (tickets_of left)) left before through new after
    → after ≡ before ++ outs_at state work.ticket
given_then old new state work left before after through first tells leaves =
    let asked : Asked = first.asked in
    let own : List Out = own_outs asked.group asked.command.kind state.slots in
    leaves.given
    ∙ ap (λ (told : List Out). before ++ (own ++ told))
    (ap (through_of (group_head asked.group)) tells
    ∙ through_same asked.group.source asked.group (left_in_group state.session.groups asked.number (state.ran ++ work.ticket ∷ [])))
    ∙ ap (λ (outs : List Out). before ++ outs) (sym (ap (λ (o : Option Asked). option_map_or (outs_of state work.ticket) o []) first.found))
