-- One more command is taken into a batch that is being begun.
use Rattle.std.proofs.Common.{◌≡◌, ℕ, Bool, true, false, List, [], ◌∷◌, ◌++◌, refl, ap, sym, subst, ◌∙◌, Option, None, Some, All}
use Rattle.std.specs.Prelude.{◌==◌, ◌&&◌, not, if◌then◌else◌, IfSome}
use Rattle.std.specs.List.{list_all, list_any}
use Rattle.std.specs.Option.{option_map, option_map_or}
use Rattle.std.proofs.lemmas.Bool.{and_from, and_left, and_right, both_ways, eqb-true, or_from, or_parts}
use Rattle.std.proofs.lemmas.List.{map-append}
use Rattle.std.proofs.lemmas.List.Concat.{flat_map-append}
use Rattle.std.proofs.lemmas.List.Elements.{All-push}
use Rattle.nim_base.specs.declared.number.Shape.{Shape}
use Rattle.nim_base.specs.declared.number.Slot.{Slot}
use Rattle.nim_command.specs.declared.command.Kind.{Kind}
use Rattle.nim_command.specs.Slots.{does_touch, is_among, reads_of, writes_of}
use Rattle.nim_command.specs.Waits.{Group, members_of, waits_of}
use Rattle.nim_order.specs.Progress.{is_one_of}
use Rattle.nim_queue.specs.Stands.{outstanding_command, is_released}
use Rattle.nim_plan.specs.Installed.{Has}
use Rattle.nim_store.specs.Stored.{Stored, slot_at}
use Rattle.nim_history.specs.History.{Asked, WorkerState, asked_at, has_frame}
use Rattle.nim_worker.specs.declared.batch.Work.{Work}
use Rattle.nim_worker.specs.declared.worker.WorkerCore.{WorkerCore}
use Rattle.nim_worker.specs.Admitted.{IsAdmitted}
use Rattle.nim_worker.specs.Beginning.{IsBegun, MayBeBegun}
use Rattle.nim_worker.specs.Chains.{AreWorks, IsApart, do_touch}
use Rattle.nim_worker.specs.Stands.{HasState, IsBeginning, begun_at, begun_of, tickets_of}
use Rattle.nim_worker.specs.Taken.{do_meet, do_share, have_one_frame, is_taken_behind, touch_one_slot}
use Rattle.nim_worker.specs.Works.{Begun, IsWork, begun_as}
use Rattle.nim_worker.proofs.Chains.{more_works}
use Rattle.nim_worker.proofs.Meeting.{command_asked}
use Rattle.nim_worker.proofs.Puts.{same_slot}

-- where a command touches none of some slots, a slot that it touches isn't one of them
not_among : (other : Kind) (slots : List Slot) (s : Slot) → list_any (does_touch other) slots ≡ false → does_touch other s ≡ true → is_among slots s ≡ false
not_among other [] s none touched = refl
not_among other (slot ∷ slots) s none touched =
    let parts = or_parts (does_touch other slot) (list_any (does_touch other) slots) none in
    or_from (slot.0 == s.0) (is_among slots s) (either (slot.0 == s.0) refl parts.0) (not_among other slots s parts.1 touched) where
      either : (b : Bool) → (slot.0 == s.0) ≡ b → does_touch other slot ≡ false → b ≡ false
      either true same not = absurd (both_ways (does_touch other s) (ap (does_touch other) (sym (same_slot slot s (eqb-true slot.0 s.0 same))) ∙ not) touched)
      either false differ not = refl

-- commands that share no slot are apart
not_shared : (one other : Kind) (s : Slot) → do_share one other ≡ false → does_touch other s ≡ true → does_touch one s ≡ false
not_shared one other s not touched =
    let parts = or_parts (list_any (does_touch other) (reads_of one)) (list_any (does_touch other) (writes_of one)) not in
    or_from (is_among (reads_of one) s) (is_among (writes_of one) s) (not_among other (reads_of one) s parts.0 touched)
    (not_among other (writes_of one) s parts.1 touched)

-- what a command touches, one that it doesn't meet doesn't
one_apart : (groups : List Group) (one place : ℕ) (asked : Asked) (s : Slot) → asked_at groups place ≡ Some asked → do_meet groups one place ≡ false
    → does_touch asked.command.kind s ≡ true
    → do_touch (begun_at groups one) s ≡ false
one_apart groups one place asked s found not touched = either (asked_at groups one) shares where
  shares : option_map_or (λ (a : Asked). do_share a.command.kind asked.command.kind) (asked_at groups one) false ≡ false
  shares = sym (ap (λ (o : Option Asked). option_map_or (λ (a : Asked). option_map_or (λ (b : Asked). do_share a.command.kind b.command.kind) o false)
      (asked_at groups one) false) found)
      ∙ (or_parts (touch_one_slot groups one place) (have_one_frame groups one place) not).0

  either : (o : Option Asked) → option_map_or (λ (a : Asked). do_share a.command.kind asked.command.kind) o false ≡ false
      → do_touch (option_map_or (λ (a : Asked). begun_as one a.command.kind ∷ []) o []) s ≡ false
  either None is = refl
  either (Some a) is = or_from (does_touch a.command.kind s) false (not_shared a.command.kind asked.command.kind s is touched) refl

do_touch-append : (xs ys : List Begun) (s : Slot) → do_touch xs s ≡ false → do_touch ys s ≡ false → do_touch (xs ++ ys) s ≡ false
do_touch-append [] ys s first second = second
do_touch-append (x ∷ xs) ys s first second =
    let parts = or_parts (does_touch x.kind s) (do_touch xs s) first in
    or_from (does_touch x.kind s) (do_touch (xs ++ ys) s) parts.0 (do_touch-append xs ys s parts.1 second)

-- a command that meets none of the others is apart from them
all_apart : (groups : List Group) (places : List ℕ) (place : ℕ) (asked : Asked) → asked_at groups place ≡ Some asked
    → list_any (λ earlier. do_meet groups earlier place) places ≡ false
    → IsApart asked.command.kind (begun_of groups places)
all_apart groups [] place asked found none s touched = refl
all_apart groups (one ∷ places) place asked found none s touched =
    let parts = or_parts (do_meet groups one place) (list_any (λ earlier. do_meet groups earlier place) places) none in
    do_touch-append (begun_at groups one) (begun_of groups places) s (one_apart groups one place asked s found parts.0 touched)
    (all_apart groups places place asked found parts.1 s touched)

-- what the core has stays where only slots of its store change
state_stays : (old new : WorkerCore) (state : WorkerState) → new ≡ record old { store = new.store } → new.store.shapes ≡ old.store.shapes → HasState old state
    → HasState new state
state_stays old new state same shapes has = record {
  failed = ap (λ (core : WorkerCore). core.failed) same ∙ has.failed;
  session = record {
    begun = ap (λ (core : WorkerCore). core.begun) same ∙ has.session.begun;
    epoch = ap (λ (core : WorkerCore). core.epoch) same ∙ has.session.epoch;
    shapes = shapes ∙ has.session.shapes;
    installed = subst (λ installed. Has installed state.session.halves state.session.patches) (ap (λ (core : WorkerCore). core.installed) (sym same))
        has.session.installed;
  };
  admitted = subst (λ admitted. IsAdmitted admitted state.session.groups state.ran) (ap (λ (core : WorkerCore). core.admitted) (sym same)) has.admitted;
  inbox = ap (λ (core : WorkerCore). core.inbox) same ∙ has.inbox;
}

-- one more work is out, of a command that meets none of the others
pub one_taken : (old new : WorkerCore) (works more : List Work) (state : WorkerState) (ticket : ℕ) (asked : Asked) → IsBeginning old works state
    → new ≡ record old { store = new.store } → new.store.shapes ≡ old.store.shapes → asked_at state.session.groups ticket ≡ Some asked
    → is_one_of state.ran ticket ≡ false
    → list_any (λ earlier. do_meet state.session.groups earlier ticket) (tickets_of works) ≡ false
    → IsBegun old.store works ticket new.store more asked.command
    → (tickets_of more ≡ tickets_of works ++ ticket ∷ []) × IsBeginning new more state
one_taken old new works more state ticket asked begins same shapes found waiting none b = (
  tickets,
  record {
    has = state_stays old new state same shapes begins.has;
    chain = subst (λ (all : List Begun). AreWorks state.session.shapes state.slots (slot_at new.store) all more) (sym begun)
        (subst (λ (all : List Work). AreWorks state.session.shapes state.slots (slot_at new.store)
        (begun_of state.session.groups (tickets_of works) ++ begun_as ticket asked.command.kind ∷ []) all) (sym b.last)
        (more_works state.session.shapes state.slots (slot_at old.store) (slot_at new.store) (begun_of state.session.groups (tickets_of works)) works
        (begun_as ticket asked.command.kind) b.work
        begins.chain (all_apart state.session.groups (tickets_of works) ticket asked found none)
        (subst (λ (all : List Shape). IsWork all (slot_at old.store) (slot_at new.store) (begun_as ticket asked.command.kind) b.work) begins.has.session.shapes
        b.is)));
    waiting = subst (λ (all : List ℕ). All (λ place. is_one_of state.ran place ≡ false) all) (sym tickets)
        (All-push (λ place. is_one_of state.ran place ≡ false) (tickets_of works) ticket begins.waiting waiting);
  },
) where
  tickets : tickets_of more ≡ tickets_of works ++ ticket ∷ []
  tickets = ap tickets_of b.last ∙ map-append (λ (w : Work). w.ticket) works (b.work ∷ []) ∙ ap (λ (n : ℕ). tickets_of works ++ n ∷ []) b.is.ticket

  begun : begun_of state.session.groups (tickets_of more) ≡ begun_of state.session.groups (tickets_of works) ++ begun_as ticket asked.command.kind ∷ []
  begun = ap (begun_of state.session.groups) tickets
      ∙ flat_map-append (begun_at state.session.groups) (tickets_of works) (ticket ∷ [])
      ∙ ap (λ (o : Option Asked). begun_of state.session.groups (tickets_of works)
      ++ (option_map_or (λ (a : Asked). begun_as ticket a.command.kind ∷ []) o [] ++ [])) found

pub not_ran : (groups : List Group) (ran : List ℕ) (place : ℕ) → is_released groups (is_one_of ran) place ≡ true → is_one_of ran place ≡ false
not_ran groups ran place released = either (is_one_of ran place) refl where
  either : (b : Bool) → is_one_of ran place ≡ b → b ≡ false
  either true is = absurd (both_ways (is_released groups (is_one_of ran) place)
      (ap (λ (b : Bool). not b && list_all (is_one_of ran) (waits_of (members_of groups) place)) is) released)
  either false is = refl

-- A released command that meets none of the others is taken where it may be completed; where there is none nothing changes.
pub maybe_taken : (old new : WorkerCore) (works more : List Work) (state : WorkerState) (ticket : ℕ) → IsBeginning old works state
    → new ≡ record old { store = new.store } → new.store.shapes ≡ old.store.shapes → is_released state.session.groups (is_one_of state.ran) ticket ≡ true
    → IfSome (asked_at state.session.groups ticket) (λ asked. true ≡ has_frame state asked)
    → list_any (λ earlier. do_meet state.session.groups earlier ticket) (tickets_of works) ≡ false
    → MayBeBegun old.store works ticket new.store more (outstanding_command state.session.groups (is_one_of state.ran) ticket)
    → (tickets_of more ≡ (if is_taken_behind state (tickets_of works) ticket then tickets_of works ++ ticket ∷ [] else tickets_of works)) × IsBeginning new more
    state
maybe_taken old new works more state ticket begins same shapes released framed none b =
    either (asked_at state.session.groups ticket) refl framed
    (subst (MayBeBegun old.store works ticket new.store more) (command_asked state.session.groups state.ran ticket waiting) b) where
      waiting : is_one_of state.ran ticket ≡ false
      waiting = not_ran state.session.groups state.ran ticket released

      either : (o : Option Asked) → asked_at state.session.groups ticket ≡ o → IfSome o (λ asked. true ≡ has_frame state asked)
          → MayBeBegun old.store works ticket new.store more (option_map (λ (asked : Asked). asked.command) o)
          → (tickets_of more ≡ (if is_taken_behind state (tickets_of works) ticket then tickets_of works ++ ticket ∷ [] else tickets_of works))
          × IsBeginning new more state
      either None missing framed b = (
        ap tickets_of b.1
            ∙ sym (ap (λ (t : Bool). if t then tickets_of works ++ ticket ∷ [] else tickets_of works)
            (ap (λ (o : Option Asked). (is_released state.session.groups (is_one_of state.ran) ticket && option_map_or (has_frame state) o false)
            && not (list_any (λ earlier. do_meet state.session.groups earlier ticket) (tickets_of works))) missing
            ∙ and_left (is_released state.session.groups (is_one_of state.ran) ticket && false)
            (not (list_any (λ earlier. do_meet state.session.groups earlier ticket) (tickets_of works)))
            (and_right (is_released state.session.groups (is_one_of state.ran) ticket) false refl))),
        record {
          has = state_stays old new state same shapes begins.has;
          chain = subst (λ (all : List Work). AreWorks state.session.shapes state.slots (slot_at new.store) (begun_of state.session.groups (tickets_of all))
              all) (sym b.1)
              (subst (λ (stored : Stored). AreWorks state.session.shapes state.slots (slot_at stored) (begun_of state.session.groups (tickets_of works)) works)
              (sym b.0) begins.chain);
          waiting = subst (λ (all : List Work). All (λ place. is_one_of state.ran place ≡ false) (tickets_of all)) (sym b.1) begins.waiting;
        },
      )
      either (Some asked) found framed b =
          let taken = one_taken old new works more state ticket asked begins same shapes found waiting none b in (
            taken.0
                ∙ sym (ap (λ (t : Bool). if t then tickets_of works ++ ticket ∷ [] else tickets_of works)
                (ap (λ (o : Option Asked). (is_released state.session.groups (is_one_of state.ran) ticket && option_map_or (has_frame state) o false)
                && not (list_any (λ earlier. do_meet state.session.groups earlier ticket) (tickets_of works))) found
                ∙ and_from (is_released state.session.groups (is_one_of state.ran) ticket && has_frame state asked)
                (not (list_any (λ earlier. do_meet state.session.groups earlier ticket) (tickets_of works)))
                (and_from (is_released state.session.groups (is_one_of state.ran) ticket) (has_frame state asked) released (sym framed)) (ap not none))),
            taken.1,
          )
