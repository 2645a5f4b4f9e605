-- One step of an order that waits allow.
use Rattle.std.proofs.Common.{◌≡◌, ◌≢◌, ℕ, suc, ◌<◌, ◌≤◌, Bool, true, false, List, length, refl, ap, sym, subst, ◌∙◌, arith, inl, inr}
use Rattle.std.specs.Prelude.{◌==◌, ◌&&◌, ◌||◌}
use Rattle.std.specs.List.{list_all}
use Rattle.std.proofs.lemmas.Bool.{and_from, and_left, and_right, both_ways, cases_Bool, cases_order, eq-eqb, eqb-true, false_from_ne_true, ne_eqb, or_cases, or_from, or_left, or_right}
use Rattle.nim_base.specs.declared.number.Slot.{Slot}
use Rattle.nim_command.specs.declared.command.Command.{Command}
use Rattle.nim_command.specs.Covered.{is_covered, waits_at}
use Rattle.nim_order.specs.Contents.{IsLocal, Leave, held_before, left_at}
use Rattle.nim_order.specs.Laws.{AnyStep}
use Rattle.nim_order.specs.Progress.{GainsPlace, IsClosed, IsReleasedAt, conflict_at, held_when, touches_at, writes_at}
use Rattle.nim_base.proofs.Lists.{all_weaker}
use Rattle.nim_order.proofs.Conflicts.{conflict_turned, touched_written, writes_touch, written_touched}
use Rattle.nim_order.proofs.Held.{held_down, held_front, held_same, held_written, kept_at, same_at}
use Rattle.nim_order.proofs.Reach.{conflict_reached, reached_complete}

-- an earlier command that conflicts with a released one is complete
earlier_complete : (commands : List Command) (done : ℕ → Bool) → is_covered commands ≡ true → IsClosed commands done → (place earlier : ℕ)
    → IsReleasedAt commands done place → earlier < place → conflict_at commands earlier place ≡ true → done earlier ≡ true
earlier_complete commands done covered closed place earlier released before conflict =
    reached_complete commands done closed place place earlier released.waits (conflict_reached commands place earlier covered released.within before conflict)

-- a later one isn't
later_waiting : (commands : List Command) (done : ℕ → Bool) → is_covered commands ≡ true → IsClosed commands done → (place later : ℕ)
    → IsReleasedAt commands done place → later < length commands → place < later → conflict_at commands place later ≡ true → done later ≡ false
later_waiting commands done covered closed place later released within behind conflict =
    false_from_ne_true (done later)
    (λ complete. both_ways (done place) released.waiting
    (reached_complete commands done closed later later place (closed later complete) (conflict_reached commands later place covered within behind conflict)))

-- the complete writers of a slot that a released command touches are those before it
writers_before : (commands : List Command) (done : ℕ → Bool) → is_covered commands ≡ true → IsClosed commands done → (place : ℕ) (slot : Slot)
    → IsReleasedAt commands done place → touches_at commands place slot ≡ true → (k : ℕ) → k < place → writes_at commands k slot ≡ true → done k ≡ true
writers_before commands done covered closed place slot released touched k before written =
    earlier_complete commands done covered closed place k released before (written_touched commands k place slot written touched)

no_writers_behind : (commands : List Command) (done : ℕ → Bool) → is_covered commands ≡ true → IsClosed commands done → (place : ℕ) (slot : Slot)
    → IsReleasedAt commands done place → touches_at commands place slot ≡ true → (k : ℕ) → place ≤ k → k < length commands
    → (done k && writes_at commands k slot) ≡ false
no_writers_behind commands done covered closed place slot released touched k from to =
    elim (cases_Bool (writes_at commands k slot)) [
      | inl written ↦ elim (cases_order place k) [
        | inl same ↦ and_left (done k) (writes_at commands k slot) (subst (λ (x : ℕ). done x ≡ false) same released.waiting)
        | inr other ↦ elim other [
          | inl behind ↦
              and_left (done k) (writes_at commands k slot)
              (later_waiting commands done covered closed place k released to behind (touched_written commands place k slot touched written))
          | inr before ↦ absurd (omega arith)
        ]
      ]
      | inr unwritten ↦ and_right (done k) (writes_at commands k slot) unwritten
    ]

pub step_finds : {X : Type 0} (leave : Leave X) (start : Slot → X) (commands : List Command) (done : ℕ → Bool) → IsLocal leave
    → is_covered commands ≡ true → IsClosed commands done
    → (place : ℕ) (slot : Slot) → IsReleasedAt commands done place → touches_at commands place slot ≡ true
    → held_when leave start commands done slot ≡ held_before leave start commands place slot
step_finds leave start commands done local covered closed place slot released touched =
    let within : place ≤ length commands = omega (arith, released.within) in
    held_down leave start commands done (length commands) place slot within (no_writers_behind commands done covered closed place slot released touched)
    ∙ held_front leave local start commands done place slot (writers_before commands done covered closed place slot released touched)

-- with one more place complete that doesn't write the slot
same_writer : (d s w : Bool) → (s ≡ true → w ≡ false) → ((d || s) && w) ≡ (d && w)
same_writer true s w unwritten = refl
same_writer false true w unwritten = unwritten refl
same_writer false false w unwritten = refl

pub step_is : {X : Type 0} (leave : Leave X) (start : Slot → X) (commands : List Command) (done : ℕ → Bool) → IsLocal leave → is_covered commands ≡ true
    → IsClosed commands done
    → (place : ℕ) (now : ℕ → Bool) (slot : Slot) → IsReleasedAt commands done place → GainsPlace done place now
    → held_when leave start commands now slot ≡ left_at leave commands place (held_when leave start commands done) slot
step_is {X} leave start commands done local covered closed place now slot released completes =
    elim (cases_Bool (writes_at commands place slot)) [
      | inl written ↦
          let within : suc place ≤ length commands = released.within in
          let touched : touches_at commands place slot ≡ true = writes_touch commands place slot written in
          let complete : now place ≡ true = completes place ∙ or_right (done place) (place == place) (eq-eqb place place refl) in
          held_down leave start commands now (length commands) (suc place) slot within
          (λ k from to.
          let other : (place == k) ≡ false = ne_eqb place k (λ same. omega arith) in
          ap (λ (b : Bool). b && writes_at commands k slot) (completes k)
          ∙ same_writer (done k) (place == k) (writes_at commands k slot) (λ same. absurd (both_ways (place == k) other same))
          ∙ no_writers_behind commands done covered closed place slot released touched k (omega arith) to)
          ∙ held_written leave start commands now place slot (and_from (now place) (writes_at commands place slot) complete written)
          ∙ same_at leave local commands place (held_before leave start commands place) (held_when leave start commands done)
          (λ s touches. sym (step_finds leave start commands done local covered closed place s released touches))
          slot
          written
      | inr unwritten ↦
          held_same leave start commands done now (length commands) slot
          (λ k. ap (λ (b : Bool). b && writes_at commands k slot) (completes k)
          ∙ same_writer (done k) (place == k) (writes_at commands k slot)
          (λ same. subst (λ (x : ℕ). writes_at commands x slot ≡ false) (eqb-true place k same) unwritten))
          ∙ sym (kept_at leave local commands place (held_when leave start commands done) slot unwritten)
    ]

-- what was complete still is
still_complete : (done now : ℕ → Bool) (place : ℕ) → GainsPlace done place now → (k : ℕ) → done k ≡ true → now k ≡ true
still_complete done now place completes k complete = completes k ∙ or_left (done k) (place == k) complete

all_still : (done now : ℕ → Bool) (place : ℕ) → GainsPlace done place now → (places : List ℕ) → list_all done places ≡ true → list_all now places ≡ true
all_still done now place completes places all = all_weaker done now (still_complete done now place completes) places all

pub step_closed : (commands : List Command) (done : ℕ → Bool) → IsClosed commands done → (place : ℕ) (now : ℕ → Bool) → IsReleasedAt commands done place
    → GainsPlace done place now
    → IsClosed commands now
step_closed commands done closed place now released completes other complete =
    all_still done now place completes (waits_at commands other)
    (elim (or_cases (done other) (place == other) (sym (completes other) ∙ complete)) [
      | inl before ↦ closed other before
      | inr same ↦ subst (λ (x : ℕ). list_all done (waits_at commands x) ≡ true) (eqb-true place other same) released.waits
    ])

pub step_apart : (commands : List Command) (done : ℕ → Bool) → is_covered commands ≡ true → IsClosed commands done → (one other : ℕ)
    → IsReleasedAt commands done one → IsReleasedAt commands done other → one ≢ other → conflict_at commands one other ≡ false
step_apart commands done covered closed one other first second distinct =
    false_from_ne_true (conflict_at commands one other)
    (λ conflict. elim (cases_order one other) [
      | inl same ↦ distinct same
      | inr apart ↦ elim apart [
        | inl before ↦ both_ways (done one) first.waiting (earlier_complete commands done covered closed other one second before conflict)
        | inr behind ↦
            both_ways (done other) second.waiting
            (earlier_complete commands done covered closed one other first behind (conflict_turned commands one other conflict))
      ]
    ])

pub step_front : (commands : List Command) (done : ℕ → Bool) → is_covered commands ≡ true → IsClosed commands done → (earlier later : ℕ)
    → earlier < later → later < length commands → conflict_at commands earlier later ≡ true → done later ≡ true → done earlier ≡ true
step_front commands done covered closed earlier later before within conflict complete =
    reached_complete commands done closed later later earlier (closed later complete) (conflict_reached commands later earlier covered within before conflict)

pub step_still : (commands : List Command) (done : ℕ → Bool) (one other : ℕ) (now : ℕ → Bool) → IsReleasedAt commands done other → one ≢ other
    → GainsPlace done one now
    → IsReleasedAt commands now other
step_still commands done one other now second distinct completes = record {
  within = second.within;
  waiting = completes other ∙ or_from (done other) (one == other) second.waiting (ne_eqb one other distinct);
  waits = all_still done now one completes (waits_at commands other) second.waits;
}

pub any_step : (X : Type 0) → AnyStep X
any_step X leave start commands done local covered closed = record {
  finds = step_finds leave start commands done local covered closed;
  step = step_is leave start commands done local covered closed;
  closed = step_closed commands done closed;
  front = step_front commands done covered closed;
  apart = λ one other both. record {
    conflict = step_apart commands done covered closed one other both.first both.second both.distinct;
    still = λ now completes. step_still commands done one other now both.second both.distinct completes;
    undisturbed = λ now slot completes touched.
        step_finds leave start commands now local covered (step_closed commands done closed one now both.first completes) other slot
        (step_still commands done one other now both.second both.distinct completes)
        touched
        ∙ sym (step_finds leave start commands done local covered closed other slot both.second touched);
  };
}
