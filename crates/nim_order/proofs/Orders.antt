-- Commands that ran in an order that waits allow, one step after another.
use Rattle.std.proofs.Common.{◌≡◌, ℕ, Bool, true, false, List, [], ◌∷◌, ◌++◌, length, refl, ap, sym, subst, ◌∙◌}
use Rattle.std.specs.Prelude.{◌==◌, ◌&&◌, ◌||◌}
use Rattle.std.proofs.Math.Path.{fun_ext}
use Rattle.std.proofs.lemmas.Bool.{false≢true}
use Rattle.std.proofs.lemmas.List.{append-nil, append_assoc}
use Rattle.std.proofs.lemmas.List.Folds.{list_any-append}
use Rattle.nim_base.specs.declared.number.Slot.{Slot}
use Rattle.nim_command.specs.declared.command.Command.{Command}
use Rattle.nim_command.specs.Covered.{is_covered}
use Rattle.nim_order.specs.Contents.{IsLocal, Leave, held_after, left_at}
use Rattle.nim_order.specs.Laws.{AnyOrder}
use Rattle.nim_order.specs.Progress.{GainsPlace, IsClosed, MayRun, held_when, is_one_of, writes_at}
use Rattle.nim_order.proofs.AnyStep.{step_closed, step_finds, step_is}
use Rattle.nim_order.proofs.Ends.{held_nothing}
use Rattle.nim_order.proofs.Held.{held_front, held_same}

or_nothing : (b : Bool) → (b || false) ≡ b
or_nothing true = refl
or_nothing false = refl

-- one more place that has run
pub one_more : (past : List ℕ) (place : ℕ) → GainsPlace (is_one_of past) place (is_one_of (past ++ place ∷ []))
one_more past place other =
    list_any-append (λ (p : ℕ). p == other) past (place ∷ []) ∙ ap (λ (b : Bool). is_one_of past other || b) (or_nothing (place == other))

closed_none : (commands : List Command) → IsClosed commands (is_one_of [])
closed_none commands place complete = absurd (false≢true complete)

closed_after : (commands : List Command) (past ran : List ℕ) → IsClosed commands (is_one_of past) → MayRun commands past ran
    → IsClosed commands (is_one_of (past ++ ran))
closed_after commands past [] closed may = subst (λ (all : List ℕ). IsClosed commands (is_one_of all)) (sym (append-nil past)) closed
closed_after commands past (place ∷ places) closed may =
    subst (λ (all : List ℕ). IsClosed commands (is_one_of all)) (append_assoc past (place ∷ []) places)
    (closed_after commands (past ++ place ∷ []) places
    (step_closed commands (is_one_of past) closed place (is_one_of (past ++ place ∷ [])) may.0 (one_more past place))
    may.1)

run_held : {X : Type 0} (leave : Leave X) (start : Slot → X) (commands : List Command) → IsLocal leave → is_covered commands ≡ true
    → (past ran : List ℕ) (now : Slot → X)
    → IsClosed commands (is_one_of past) → MayRun commands past ran → now ≡ held_when leave start commands (is_one_of past)
    → held_after leave commands ran now ≡ held_when leave start commands (is_one_of (past ++ ran))
run_held {X} leave start commands local covered past [] now closed may is =
    is ∙ ap (λ (all : List ℕ). held_when leave start commands (is_one_of all)) (sym (append-nil past))
run_held {X} leave start commands local covered past (place ∷ places) now closed may is =
    run_held leave start commands local covered (past ++ place ∷ []) places (left_at leave commands place now)
    (step_closed commands (is_one_of past) closed place (is_one_of (past ++ place ∷ [])) may.0 (one_more past place))
    may.1
    (ap (left_at leave commands place) is
    ∙ fun_ext (λ slot. sym
    (step_is leave start commands (is_one_of past) local covered closed place (is_one_of (past ++ place ∷ [])) slot may.0 (one_more past place))))
    ∙ ap (λ (all : List ℕ). held_when leave start commands (is_one_of all)) (append_assoc past (place ∷ []) places)

ran_held : {X : Type 0} (leave : Leave X) (start : Slot → X) (commands : List Command) (ran : List ℕ) → IsLocal leave → is_covered commands ≡ true
    → MayRun commands [] ran
    → (slot : Slot) → held_after leave commands ran start slot ≡ held_when leave start commands (is_one_of ran) slot
ran_held {X} leave start commands ran local covered may slot =
    ap (λ (now : Slot → X). now slot)
    (run_held leave start commands local covered [] ran start (closed_none commands) may
    (fun_ext (λ s. sym (held_nothing leave start commands (is_one_of []) (λ place. refl) s))))

pub any_order : (X : Type 0) → AnyOrder X
any_order X leave start commands ran local covered may = record {
  next = λ place slot released touched.
      ran_held leave start commands ran local covered may slot
      ∙ step_finds leave start commands (is_one_of ran) local covered (closed_after commands [] ran (closed_none commands) may) place slot released touched;
  now = ran_held leave start commands ran local covered may;
  whole = λ all slot.
      ran_held leave start commands ran local covered may slot
      ∙ held_front leave local start commands (is_one_of ran) (length commands) slot (λ k less written. all k less);
  same = λ other again places slot.
      ran_held leave start commands ran local covered may slot
      ∙ held_same leave start commands (is_one_of other) (is_one_of ran) (length commands) slot
      (λ k. ap (λ (b : Bool). b && writes_at commands k slot) (sym (places k)))
      ∙ sym (ran_held leave start commands other local covered again slot);
}
