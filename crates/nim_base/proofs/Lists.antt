-- Facts of tests, of options and of lists that several crates cite.
use Rattle.std.proofs.Common.{◌≡◌, ℕ, zero, suc, ◌+◌, ◌<◌, ◌≤◌, Bool, true, false, List, [], ◌∷◌, ◌++◌, length, replicate, refl, ap, ap₂, subst, sym, ◌∙◌, arith, Option, None, Some, Ordering, Less, Equal, Greater, Result, Ok, Err, All, inl, inr}
use Rattle.std.specs.Prelude.{◌&&◌, ◌||◌, if◌then◌else◌, OnOk, slice_get, slice_index_or}
use Rattle.std.specs.List.{AllByRecursion, filter, list_all, list_any, range_with_len}
use Rattle.std.specs.Option.{is_some, option_map_or}
use Rattle.std.specs.Ordering.{is_eq}
use Rattle.std.proofs.lemmas.Bool.{and_from, and_parts, cases_eq, false≢true, or_left, or_right}
use Rattle.std.proofs.lemmas.List.Elements.{All-cons, All-nil, All-tail}

-- ---- tests

-- five tests that all pass
pub and_from_five : (a b c d e : Bool) → a ≡ true → b ≡ true → c ≡ true → d ≡ true → e ≡ true → (a && b && c && d && e) ≡ true
and_from_five a b c d e first second third fourth fifth =
    and_from (a && b && c && d) e (and_from (a && b && c) d (and_from (a && b) c (and_from a b first second) third) fourth) fifth

-- behind a test only what holds where it passes counts
pub guarded : (b x y : Bool) → (b ≡ true → x ≡ y) → (b && x) ≡ (b && y)
guarded true x y same = same refl
guarded false x y same = refl

-- an order that says equal
pub is_equal : (order : Ordering) → is_eq order ≡ true → order ≡ Equal
is_equal Less is = absurd (false≢true is)
is_equal Equal is = refl
is_equal Greater is = absurd (false≢true is)

-- ---- options and results

pub some_same : {X : Type 0} (x y : X) → Some x ≡ Some y → x ≡ y
some_same {X} x y is = ap (λ (o : Option X). option_map_or (λ (z : X). z) o x) is

pub some_none : {X : Type 0} (x : X) → Some x ≡ None → ⊥
some_none {X} x same = false≢true (sym (ap (λ (o : Option X). is_some o) same))

-- what follows from what holds where a call gave something
pub ok_more : {X Y A B : Type 0} (r : Result X Y) → OnOk r A → (A → B) → OnOk r B
ok_more (Ok x) ok more = more ok
ok_more (Err y) ok more = tt

-- ---- the item at a place

pub same_first : {X : Type 0} (x y : X) (xs ys : List X) → x ∷ xs ≡ y ∷ ys → x ≡ y
same_first x y xs ys same = cc

pub same_rest : {X : Type 0} (x y : X) (xs ys : List X) → x ∷ xs ≡ y ∷ ys → xs ≡ ys
same_rest x y xs ys same = cc

-- there is an item at each place within a list
pub get_some : {X : Type 0} (xs : List X) (i : ℕ) → i < length xs → (x : X) × (slice_get xs i ≡ Some x)
get_some [] i within = absurd (omega (arith, within))
get_some (x ∷ xs) zero within = (x, refl)
get_some (x ∷ xs) (suc i) within = get_some xs i (omega (arith, within))

pub get_front : {X : Type 0} (xs ys : List X) (i : ℕ) → i < length xs → slice_get (xs ++ ys) i ≡ slice_get xs i
get_front [] ys i within = absurd (omega (arith, within))
get_front (x ∷ xs) ys zero within = refl
get_front (x ∷ xs) ys (suc i) within = get_front xs ys i (omega (arith, within))

pub get_behind : {X : Type 0} (xs ys : List X) (k : ℕ) → slice_get (xs ++ ys) (length xs + k) ≡ slice_get ys k
get_behind [] ys k = let same : 0 + k ≡ k = omega arith in ap (slice_get ys) same
get_behind (x ∷ xs) ys k =
    let next : suc (length xs) + k ≡ suc (length xs + k) = omega arith in ap (slice_get (x ∷ xs ++ ys)) next ∙ get_behind xs ys k

pub get_last : {X : Type 0} (xs : List X) (x : X) → slice_get (xs ++ x ∷ []) (length xs) ≡ Some x
get_last [] x = refl
get_last (y ∷ xs) x = get_last xs x

-- one value at every place, and behind them too
pub replicate_or : {X : Type 0} (n i : ℕ) (x : X) → slice_index_or (replicate n x) i x ≡ x
replicate_or zero i x = refl
replicate_or (suc n) zero x = refl
replicate_or (suc n) (suc i) x = replicate_or n i x

-- ---- numbers in a row

pub range_append : (a n k : ℕ) → range_with_len a (n + k) ≡ range_with_len a n ++ range_with_len (a + n) k
range_append a zero k =
    let first : 0 + k ≡ k = omega arith in
    let last : a ≡ a + 0 = omega arith in
    ap (range_with_len a) first ∙ ap (λ (b : ℕ). range_with_len b k) last
range_append a (suc n) k =
    let more : suc n + k ≡ suc (n + k) = omega arith in
    let same : a + 1 + n ≡ a + suc n = omega arith in
    ap (range_with_len a) more
    ∙ ap (λ (rest : List ℕ). a ∷ rest) (range_append (a + 1) n k ∙ ap (λ (b : ℕ). range_with_len (a + 1) n ++ range_with_len b k) same)

-- a number of a row that passes a test
pub any_of_range : (p : ℕ → Bool) (a n k : ℕ) → a ≤ k → k < a + n → p k ≡ true → list_any p (range_with_len a n) ≡ true
any_of_range p a zero k from to passes = absurd (omega arith)
any_of_range p a (suc n) k from to passes =
    elim (cases_eq a k) [
      | inl same ↦ or_left (p a) (list_any p (range_with_len (a + 1) n)) (subst (λ (x : ℕ). p x ≡ true) (sym same) passes)
      | inr other ↦ or_right (p a) (list_any p (range_with_len (a + 1) n)) (any_of_range p (a + 1) n k (omega arith) (omega arith) passes)
    ]

-- ---- tests of the items

-- of so many flags that are all set one is
pub some_set : (flags : ℕ) → 1 ≤ flags → list_any (λ (flag : Bool). flag) (replicate flags true) ≡ true
some_set zero least = absurd (omega (arith, least))
some_set (suc flags) least = refl

pub any_same : {X : Type 0} (p q : X → Bool) → ((x : X) → p x ≡ q x) → (xs : List X) → list_any p xs ≡ list_any q xs
any_same p q same [] = refl
any_same p q same (x ∷ xs) = ap₂ (λ (a b : Bool). a || b) (same x) (any_same p q same xs)

first_counts : {X : Type 0} (p q : X → Bool) (x : X) (rest : List X) (found : Bool) → list_any p rest ≡ found → (b : Bool)
    → list_any p (if b then x ∷ rest else rest) ≡ ((b && p x) || found)
first_counts p q x rest found same true = ap (λ (b : Bool). p x || b) same
first_counts p q x rest found same false = same

-- a test of the items that pass another one
pub any_filter : {X : Type 0} (p q : X → Bool) (xs : List X) → list_any p (filter q xs) ≡ list_any (λ x. q x && p x) xs
any_filter p q [] = refl
any_filter {X} p q (x ∷ xs) = first_counts p q x (filter q xs) (list_any (λ (y : X). q y && p y) xs) (any_filter p q xs) (q x)

pub all_same : {X : Type 0} (p q : X → Bool) → ((x : X) → p x ≡ q x) → (xs : List X) → list_all p xs ≡ list_all q xs
all_same p q same [] = refl
all_same p q same (x ∷ xs) = ap₂ (λ (a b : Bool). a && b) (same x) (all_same p q same xs)

pub all_weaker : {X : Type 0} (p q : X → Bool) → ((x : X) → p x ≡ true → q x ≡ true) → (xs : List X) → list_all p xs ≡ true → list_all q xs ≡ true
all_weaker p q weaker [] all = all
all_weaker p q weaker (x ∷ xs) all =
    let parts = and_parts (p x) (list_all p xs) all in
    and_from (q x) (list_all q xs) (weaker x parts.0) (all_weaker p q weaker xs parts.1)

-- ---- what holds of each item

pub each_all : {X : Type 0} (P : X → Type 0) → ((x : X) → P x) → (xs : List X) → AllByRecursion P xs
each_all P f [] = tt
each_all P f (x ∷ xs) = (f x, each_all P f xs)

pub each_append : {X : Type 0} (P : X → Type 0) (xs ys : List X) → AllByRecursion P xs → AllByRecursion P ys → AllByRecursion P (xs ++ ys)
each_append P [] ys first second = second
each_append P (x ∷ xs) ys first second = (first.0, each_append P xs ys first.1 second)

pub each_two : {X : Type 0} (P Q R : X → Type 0) → ((x : X) → P x → Q x → R x) → (xs : List X) → AllByRecursion P xs → AllByRecursion Q xs → AllByRecursion R xs
each_two P Q R f [] first second = tt
each_two P Q R f (x ∷ xs) first second = (f x first.0 second.0, each_two P Q R f xs first.1 second.1)

pub only_one : {X : Type 0} (P : X → Type 0) (x : X) → P x → All P (x ∷ [])
only_one P x is = All-cons P x [] is (All-nil P)

pub All_behind : {X : Type 0} (P : X → Type 0) (xs ys : List X) → All P (xs ++ ys) → All P ys
All_behind P [] ys all = all
All_behind P (x ∷ xs) ys all = All_behind P xs ys (All-tail P x (xs ++ ys) all)
