-- Tests of the items of a list.
use Rattle.std.proofs.Common.{◌≡◌, ℕ, zero, suc, ◌+◌, ◌<◌, ◌≤◌, Bool, true, false, List, [], ◌∷◌, take, drop, refl, ap, ap₂, subst, sym, ◌∙◌, arith, inl, inr}
use Rattle.std.specs.Prelude.{◌==◌, ◌&&◌, if◌then◌else◌, slice_get}
use Rattle.std.specs.List.{filter, list_all, list_any, range_with_len}
use Rattle.std.specs.Option.{option_map_or}
use Rattle.std.proofs.lemmas.Bool.{and_from, and_parts, cases_eq, eq-eqb, false≢true, or_cases, or_from, or_left, or_right}
use Rattle.nim_base.specs.declared.number.Slot.{Slot}
use Rattle.nim_command.specs.Slots.{is_among}
use Rattle.nim_base.proofs.Lists.{any_filter}
use Rattle.nim_command.proofs.Walk.{same_slot}

-- where one item passes a test and all pass another, that one passes both
pub any_all : {X : Type 0} (p q : X → Bool) (G : Type 0) → ((x : X) → p x ≡ true → q x ≡ true → G) → (xs : List X) → list_any p xs ≡ true
    → list_all q xs ≡ true → G
any_all p q G both [] any all = absurd (false≢true any)
any_all p q G both (x ∷ xs) any all =
    let parts = and_parts (q x) (list_all q xs) all in
    elim (or_cases (p x) (list_any p xs) any) [ inl here ↦ both x here parts.0 | inr there ↦ any_all p q G both xs there parts.1 ]

pub any_weaker : {X : Type 0} (p q : X → Bool) → ((x : X) → p x ≡ true → q x ≡ true) → (xs : List X) → list_any p xs ≡ true → list_any q xs ≡ true
any_weaker p q weaker [] any = any
any_weaker p q weaker (x ∷ xs) any =
    elim (or_cases (p x) (list_any p xs) any) [
      | inl here ↦ or_left (q x) (list_any q xs) (weaker x here)
      | inr there ↦ or_right (q x) (list_any q xs) (any_weaker p q weaker xs there)
    ]

-- a test of all numbers of a range
pub all_in_range : (p : ℕ → Bool) (a n : ℕ) → list_all p (range_with_len a n) ≡ true → (k : ℕ) → a ≤ k → k < a + n → p k ≡ true
all_in_range p a zero all k from to = absurd (omega arith)
all_in_range p a (suc n) all k from to =
    let parts = and_parts (p a) (list_all p (range_with_len (a + 1) n)) all in
    elim (cases_eq a k) [
      | inl same ↦ subst (λ (x : ℕ). p x ≡ true) same parts.0
      | inr other ↦ all_in_range p (a + 1) n parts.1 k (omega arith) (omega arith)
    ]

pub all_of_range : (p : ℕ → Bool) (a n : ℕ) → ((k : ℕ) → a ≤ k → k < a + n → p k ≡ true) → list_all p (range_with_len a n) ≡ true
all_of_range p a zero each = refl
all_of_range p a (suc n) each =
    and_from (p a) (list_all p (range_with_len (a + 1) n)) (each a (omega arith) (omega arith))
    (all_of_range p (a + 1) n (λ k from to. each k (omega arith) (omega arith)))

-- a slot that is among some and passes a test settles it
pub any_among : (q : Slot → Bool) (s : Slot) (xs : List Slot) → is_among xs s ≡ true → q s ≡ true → list_any q xs ≡ true
any_among q s xs among passes =
    any_weaker (λ (x : Slot). x.0 == s.0) q (λ x test. subst (λ (y : Slot). q y ≡ true) (sym (same_slot x s test)) passes) xs among

-- where one of some slots passes a test there is such a slot
pub among_any : (q : Slot → Bool) (G : Type 0) (xs : List Slot) → ((s : Slot) → is_among xs s ≡ true → q s ≡ true → G) → list_any q xs ≡ true → G
among_any q G [] there any = absurd (false≢true any)
among_any q G (x ∷ xs) there any =
    elim (or_cases (q x) (list_any q xs) any) [
      | inl here ↦ there x (or_left (x.0 == x.0) (is_among xs x) (eq-eqb x.0 x.0 refl)) here
      | inr later ↦ among_any q G xs (λ s among passes. there s (or_right (x.0 == s.0) (is_among xs s) among) passes) later
    ]

-- one more item that may be there
pub any_later : {X : Type 0} (p : X → Bool) (x : X) (rest : List X) (b : Bool) → list_any p rest ≡ true → list_any p (if b then x ∷ rest else rest) ≡ true
any_later p x rest true any = or_right (p x) (list_any p rest) any
any_later p x rest false any = any

pub any_of_filter : {X : Type 0} (p q : X → Bool) (xs : List X) → list_any (λ x. q x && p x) xs ≡ true → list_any p (filter q xs) ≡ true
any_of_filter p q xs any = any_filter p q xs ∙ any

all_kept : {X : Type 0} (p : X → Bool) (x : X) (rest : List X) (b : Bool) → (b ≡ true → p x ≡ true) → list_all p rest ≡ true
    → list_all p (if b then x ∷ rest else rest) ≡ true
all_kept p x rest true here all = and_from (p x) (list_all p rest) (here refl) all
all_kept p x rest false here all = all

-- where each item that passes one test passes another, all that pass the first pass the other
pub all_of_filter : {X : Type 0} (p q : X → Bool) (xs : List X) → ((x : X) → q x ≡ true → p x ≡ true) → list_all p (filter q xs) ≡ true
all_of_filter p q [] each = refl
all_of_filter p q (x ∷ xs) each = all_kept p x (filter q xs) (q x) (each x) (all_of_filter p q xs each)

-- the numbers of a range that pass a test, by another one that is the same there
pub filter_range : (p q : ℕ → Bool) (a n : ℕ) → ((k : ℕ) → a ≤ k → k < a + n → p k ≡ q k) → filter p (range_with_len a n) ≡ filter q (range_with_len a n)
filter_range p q a zero same = refl
filter_range p q a (suc n) same =
    ap₂ (λ (b : Bool) (rest : List ℕ). if b then a ∷ rest else rest) (same a (omega arith) (omega arith))
    (filter_range p q (a + 1) n (λ k from to. same k (omega arith) (omega arith)))

-- no item of a front passes a test where none of its places has one that does
pub any_taken : {X : Type 0} (p : X → Bool) (xs : List X) (n : ℕ) → ((k : ℕ) → k < n → option_map_or p (slice_get xs k) false ≡ false)
    → list_any p (take n xs) ≡ false
any_taken p xs zero none = refl
any_taken p [] (suc n) none = refl
any_taken p (x ∷ xs) (suc n) none =
    or_from (p x) (list_any p (take n xs)) (none zero (omega arith)) (any_taken p xs n (λ k less. none (suc k) (omega arith)))

pub get_dropped : {X : Type 0} (xs : List X) (a k : ℕ) → slice_get (drop a xs) k ≡ slice_get xs (a + k)
get_dropped xs zero k = ap (slice_get xs) (omega arith)
get_dropped [] (suc a) k = refl
get_dropped {X} (x ∷ xs) (suc a) k = get_dropped xs a k ∙ ap (λ (n : ℕ). slice_get (x ∷ xs) n) (let next : suc (a + k) ≡ suc a + k = omega arith in next)

pub get_taken : {X : Type 0} (xs : List X) (n k : ℕ) → k < n → slice_get (take n xs) k ≡ slice_get xs k
get_taken xs zero k less = absurd (omega arith)
get_taken [] (suc n) k less = refl
get_taken (x ∷ xs) (suc n) zero less = refl
get_taken (x ∷ xs) (suc n) (suc k) less = get_taken xs n k (omega arith)
