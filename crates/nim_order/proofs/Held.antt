-- What slots hold when some places are complete.
use Rattle.std.proofs.Common.{◌≡◌, ℕ, zero, suc, ◌<◌, ◌≤◌, Bool, true, false, List, ◌++◌, length, refl, ap, ap₂, sym, ◌∙◌, arith, inl, inr, Option, Some, None}
use Rattle.std.specs.Prelude.{◌&&◌, if◌then◌else◌, slice_get}
use Rattle.std.specs.Option.{option_map_or}
use Rattle.std.proofs.lemmas.Bool.{and_from, and_right, cases_Bool, cases_eq, cond-false, cond-true, false≢true}
use Rattle.nim_base.specs.declared.number.Slot.{Slot}
use Rattle.nim_command.specs.declared.command.Command.{Command}
use Rattle.nim_command.specs.Slots.{does_touch, does_write}
use Rattle.nim_order.specs.Contents.{IsLocal, Leave, held_before, left_at}
use Rattle.nim_order.specs.Progress.{held_below, touches_at, writes_at}
use Rattle.nim_base.proofs.Lists.{get_front}

kept_there : {X : Type 0} (leave : Leave X) → IsLocal leave → (o : Option Command) (before : Slot → X) (slot : Slot)
    → option_map_or (λ (c : Command). does_write c.kind slot) o false ≡ false → option_map_or (λ (c : Command). leave c before) o before slot ≡ before slot
kept_there leave local None before slot unwritten = refl
kept_there leave local (Some c) before slot unwritten = local.keeps c before slot unwritten

-- the command at a place keeps what it doesn't write
pub kept_at : {X : Type 0} (leave : Leave X) → IsLocal leave → (commands : List Command) (place : ℕ) (before : Slot → X) (slot : Slot)
    → writes_at commands place slot ≡ false → left_at leave commands place before slot ≡ before slot
kept_at leave local commands place before slot unwritten = kept_there leave local (slice_get commands place) before slot unwritten

same_there : {X : Type 0} (leave : Leave X) → IsLocal leave → (o : Option Command) (first second : Slot → X)
    → ((touched : Slot) → option_map_or (λ (c : Command). does_touch c.kind touched) o false ≡ true → first touched ≡ second touched)
    → (slot : Slot) → option_map_or (λ (c : Command). does_write c.kind slot) o false ≡ true
    → option_map_or (λ (c : Command). leave c first) o first slot ≡ option_map_or (λ (c : Command). leave c second) o second slot
same_there leave local None first second same slot written = absurd (false≢true written)
same_there leave local (Some c) first second same slot written = local.depends c first second same slot written

-- what it leaves in what it writes depends on what it touches
pub same_at : {X : Type 0} (leave : Leave X) → IsLocal leave → (commands : List Command) (place : ℕ) (first second : Slot → X)
    → ((touched : Slot) → touches_at commands place touched ≡ true → first touched ≡ second touched)
    → (slot : Slot) → writes_at commands place slot ≡ true → left_at leave commands place first slot ≡ left_at leave commands place second slot
same_at leave local commands place first second same slot written = same_there leave local (slice_get commands place) first second same slot written

-- one more place that is no complete writer
pub held_skips : {X : Type 0} (leave : Leave X) (start : Slot → X) (commands : List Command) (done : ℕ → Bool) (n : ℕ) (slot : Slot)
    → (done n && writes_at commands n slot) ≡ false → held_below leave start commands done (suc n) slot ≡ held_below leave start commands done n slot
held_skips {X} leave start commands done n slot none =
    cond-false {A = X} (done n && writes_at commands n slot) (held_before leave start commands (suc n) slot) (held_below leave start commands done n slot) none

-- one more place that is
pub held_written : {X : Type 0} (leave : Leave X) (start : Slot → X) (commands : List Command) (done : ℕ → Bool) (n : ℕ) (slot : Slot)
    → (done n && writes_at commands n slot) ≡ true → held_below leave start commands done (suc n) slot ≡ held_before leave start commands (suc n) slot
held_written {X} leave start commands done n slot writer =
    cond-true {A = X} (done n && writes_at commands n slot) (held_before leave start commands (suc n) slot) (held_below leave start commands done n slot) writer

-- places from one on that are no complete writers of a slot change nothing
pub held_down : {X : Type 0} (leave : Leave X) (start : Slot → X) (commands : List Command) (done : ℕ → Bool) (n p : ℕ) (slot : Slot) → p ≤ n
    → ((k : ℕ) → p ≤ k → k < n → (done k && writes_at commands k slot) ≡ false)
    → held_below leave start commands done n slot ≡ held_below leave start commands done p slot
held_down {X} leave start commands done zero p slot less none =
    let same : zero ≡ p = omega arith in ap (λ (x : ℕ). held_below leave start commands done x slot) same
held_down {X} leave start commands done (suc n) p slot less none =
    elim (cases_eq (suc n) p) [
      | inl same ↦ ap (λ (x : ℕ). held_below leave start commands done x slot) same
      | inr other ↦
          held_skips leave start commands done n slot (none n (omega arith) (omega arith))
          ∙ held_down leave start commands done n p slot (omega arith) (λ k from to. none k from (omega arith))
    ]

-- where all writers before a place are complete, a slot holds what it holds in the order of the list
pub held_front : {X : Type 0} (leave : Leave X) → IsLocal leave → (start : Slot → X) (commands : List Command) (done : ℕ → Bool) (n : ℕ) (slot : Slot)
    → ((k : ℕ) → k < n → writes_at commands k slot ≡ true → done k ≡ true)
    → held_below leave start commands done n slot ≡ held_before leave start commands n slot
held_front leave local start commands done zero slot all = refl
held_front leave local start commands done (suc n) slot all =
    elim (cases_Bool (writes_at commands n slot)) [
      | inl written ↦
          held_written leave start commands done n slot (and_from (done n) (writes_at commands n slot) (all n (omega arith) written) written)
      | inr unwritten ↦
          held_skips leave start commands done n slot (and_right (done n) (writes_at commands n slot) unwritten)
          ∙ held_front leave local start commands done n slot (λ k less. all k (omega arith))
          ∙ sym (kept_at leave local commands n (held_before leave start commands n) slot unwritten)
    ]

-- the same complete writers
pub held_same : {X : Type 0} (leave : Leave X) (start : Slot → X) (commands : List Command) (done now : ℕ → Bool) (n : ℕ) (slot : Slot)
    → ((k : ℕ) → (now k && writes_at commands k slot) ≡ (done k && writes_at commands k slot))
    → held_below leave start commands now n slot ≡ held_below leave start commands done n slot
held_same leave start commands done now zero slot same = refl
held_same {X} leave start commands done now (suc n) slot same =
    ap₂ (λ (b : Bool) (rest : X). if b then held_before leave start commands (suc n) slot else rest)
    (same n)
    (held_same leave start commands done now n slot same)

-- a longer list is the same in front
pub before_front : {X : Type 0} (leave : Leave X) (start : Slot → X) (commands more : List Command) (n : ℕ) → n ≤ length commands
    → held_before leave start (commands ++ more) n ≡ held_before leave start commands n
before_front leave start commands more zero within = refl
before_front {X} leave start commands more (suc n) within =
    ap₂ (λ (o : Option Command) (before : Slot → X). option_map_or (λ (c : Command). leave c before) o before)
    (get_front commands more n (omega arith))
    (before_front leave start commands more n (omega arith))

pub held_below_front : {X : Type 0} (leave : Leave X) (start : Slot → X) (commands more : List Command) (done : ℕ → Bool) (n : ℕ) (slot : Slot)
    → n ≤ length commands
    → held_below leave start (commands ++ more) done n slot ≡ held_below leave start commands done n slot
held_below_front leave start commands more done zero slot within = refl
held_below_front {X} leave start commands more done (suc n) slot within =
    let test : (done n && writes_at (commands ++ more) n slot) ≡ (done n && writes_at commands n slot) =
    ap (λ (o : Option Command). done n && option_map_or (λ (c : Command). does_write c.kind slot) o false) (get_front commands more n (omega arith)) in
    ap₂ (λ (b : Bool) (rest : X). if b then held_before leave start (commands ++ more) (suc n) slot else rest)
    test
    (held_below_front leave start commands more done n slot (omega arith))
    ∙ ap (λ (before : Slot → X). if done n && writes_at commands n slot then before slot else held_below leave start commands done n slot)
    (before_front leave start commands more (suc n) within)
