-- Tickets that rise: one more, one fewer, and the first that passes a test.
use Rattle.std.proofs.Common.{◌≡◌, Bor, ℕ, zero, suc, ◌+◌, ◌-◌, ◌<◌, ◌≤◌, Bool, true, false, not, List, [], ◌∷◌, ◌++◌, length, take, drop, get_or, refl, ap, ap₂, sym, subst, ◌∙◌, ◌↔◌, arith, zero-add, Option, None, Some, inl, inr}
use Rattle.std.specs.Prelude.{◌==◌, ◌&&◌, if◌then◌else◌, nat_lt, nat_le, slice_get, Result, Ok, Err, OnOk, OnErr, OnSome, IfNone, IfSome, IsSome}
use Rattle.std.specs.Option.{option_copied}
use Rattle.std.specs.List.{filter, range_with_len, remove}
use Rattle.std.specs.List.Sorted.{IsPartitionPoint}
use Rattle.std.proofs.lemmas.Bool.{cases_lt, false≢true, le-leb, le-ltb, lt-leb, lt-ltb, ne_eqb}
use Rattle.std.proofs.lemmas.List.{append-nil, drop_all, take_all}
use Rattle.std.proofs.lemmas.List.Elements.{filter-append, filter_agree}
use Rattle.std.proofs.lemmas.List.FromFn.{get_or-range_with_len, length-range_with_len}
use Rattle.std.proofs.lemmas.List.Kept.{IsNonDecreasingBy-filter}
use Rattle.std.proofs.lemmas.Option.{slice_get_past, slice_get_read}
use Rattle.nim_command.proofs.Lists.{filter_twice}
use Rattle.nim_order.proofs.Items.{filter_range}
use Rattle.nim_queue.specs.Counts.{IsRising, below, not_below, put_in, taken_out}
use Rattle.nim_queue.specs.Stands.{first_to_pass}
use Rattle.nim_base.proofs.Lists.{range_append}

-- where the first i pass a test and the others fail it
pub cut : {X : Type 0} (p : X → Bool) (xs : List X) (i : ℕ) → IsPartitionPoint (λ x. p x ≡ true) (λ x. p x ≡ false) xs i
    → (take i xs ≡ filter p xs) × (drop i xs ≡ filter (λ x. not (p x)) xs)
cut p [] zero point = (refl, refl)
cut p [] (suc i) point = (refl, refl)
cut {X} p (x ∷ xs) zero point =
    let rest = cut p xs zero ((λ k d low high. absurd (omega (arith, high))), (λ k d low high. point.1 (suc k) d (omega arith) (omega (arith, high)))) in
    let here : p x ≡ false = point.1 0 x (omega arith) (omega arith) in (
      rest.0 ∙ ap (λ (b : Bool). if b then x ∷ filter p xs else filter p xs) (sym here),
      ap (λ ys. x ∷ ys) rest.1 ∙ ap (λ (b : Bool). if not b then x ∷ filter (λ y. not (p y)) xs else filter (λ y. not (p y)) xs) (sym here),
    )
cut {X} p (x ∷ xs) (suc i) point =
    let rest = cut p xs i (
      (λ k d low high. point.0 (suc k) d (omega arith) (omega (arith, high))),
      (λ k d low high. point.1 (suc k) d (omega (arith, low)) (omega (arith, high))),
    ) in
    let here : p x ≡ true = point.0 0 x (omega arith) (omega arith) in (
      ap (λ ys. x ∷ ys) rest.0 ∙ ap (λ (b : Bool). if b then x ∷ filter p xs else filter p xs) (sym here),
      rest.1 ∙ ap (λ (b : Bool). if not b then x ∷ filter (λ y. not (p y)) xs else filter (λ y. not (p y)) xs) (sym here),
    )

-- tickets of a range rise
pub rising : (p : ℕ → Bool) (n : ℕ) → IsRising (filter p (range_with_len 0 n))
rising p n =
    IsNonDecreasingBy-filter (λ t. t) p (range_with_len 0 n)
    (λ i j d less within.
    let long : j < n = subst (λ (k : ℕ). j < k) (length-range_with_len 0 n) within in
    omega (arith, get_or-range_with_len 0 n i d (omega (arith, long)), get_or-range_with_len 0 n j d long))

-- a range, cut at one of its tickets
around : (k n : ℕ) → k < n → range_with_len 0 n ≡ range_with_len 0 k ++ k ∷ range_with_len (k + 1) (n - (k + 1))
around k n within =
    let all : n ≡ k + suc (n - (k + 1)) = omega (arith, within) in
    ap (λ (m : ℕ). range_with_len 0 m) all ∙ range_append 0 k (suc (n - (k + 1)))
    ∙ ap (λ (j : ℕ). range_with_len 0 k ++ range_with_len j (suc (n - (k + 1)))) (zero-add k)

filter_around : (p : ℕ → Bool) (k n : ℕ) → k < n
    → filter p (range_with_len 0 n) ≡ filter p (range_with_len 0 k) ++ filter p (k ∷ range_with_len (k + 1) (n - (k + 1)))
filter_around p k n within =
    ap (filter p) (around k n within) ∙ filter-append p (range_with_len 0 k) (k ∷ range_with_len (k + 1) (n - (k + 1)))

narrowed : (t p r : ℕ → Bool) (a n : ℕ) → ((k : ℕ) → a ≤ k → k < a + n → (p k && t k) ≡ r k)
    → filter t (filter p (range_with_len a n)) ≡ filter r (range_with_len a n)
narrowed t p r a n same = filter_twice t p (λ k. p k && t k) (λ k. refl) (range_with_len a n) ∙ filter_range (λ k. p k && t k) r a n same

and_true : (a b : Bool) → b ≡ true → (a && b) ≡ a
and_true true b is = is
and_true false b is = refl

and_false : (a b : Bool) → b ≡ false → (a && b) ≡ false
and_false true b is = is
and_false false b is = refl

none : (a n : ℕ) → filter (λ k. false) (range_with_len a n) ≡ []
none a zero = refl
none a (suc n) = none (a + 1) n

-- the tickets that pass a test, below one of them and from it on
below_all : (p : ℕ → Bool) (k n : ℕ) → k < n → below k (filter p (range_with_len 0 n)) ≡ filter p (range_with_len 0 k)
below_all p k n within =
    let m : ℕ = suc (n - (k + 1)) in
    let t : ℕ → Bool = λ x. nat_lt x k in
    ap (filter t) (filter_around p k n within)
    ∙ filter-append t (filter p (range_with_len 0 k)) (filter p (range_with_len k m))
    ∙ ap₂ (λ (xs ys : List ℕ). xs ++ ys) (narrowed t p p 0 k (λ x from to. and_true (p x) (t x) (lt-ltb x k (omega (arith, to)))))
    (narrowed t p (λ x. false) k m (λ x from to. and_false (p x) (t x) (le-ltb x k from)) ∙ none k m)
    ∙ append-nil (filter p (range_with_len 0 k))

not_below_all : (p : ℕ → Bool) (k n : ℕ) → k < n → not_below k (filter p (range_with_len 0 n)) ≡ filter p (k ∷ range_with_len (k + 1) (n - (k + 1)))
not_below_all p k n within =
    let m : ℕ = suc (n - (k + 1)) in
    let t : ℕ → Bool = λ x. not (nat_lt x k) in
    ap (filter t) (filter_around p k n within)
    ∙ filter-append t (filter p (range_with_len 0 k)) (filter p (range_with_len k m))
    ∙ ap₂ (λ (xs ys : List ℕ). xs ++ ys)
    (narrowed t p (λ x. false) 0 k (λ x from to. and_false (p x) (t x) (ap not (lt-ltb x k (omega (arith, to))))) ∙ none 0 k)
    (narrowed t p p k m (λ x from to. and_true (p x) (t x) (ap not (le-ltb x k from))))

first_or_not : (p : ℕ → Bool) (k : ℕ) (rest : List ℕ) (b : Bool) → p k ≡ b → filter p (k ∷ rest) ≡ (if b then k ∷ filter p rest else filter p rest)
first_or_not p k rest b is = ap (λ (c : Bool). if c then k ∷ filter p rest else filter p rest) is

-- two tests that differ at one ticket alone
both_sides : (p q : ℕ → Bool) (k n : ℕ) → ((x : ℕ) → (k == x) ≡ false → q x ≡ p x)
    → (filter q (range_with_len 0 k) ≡ filter p (range_with_len 0 k)) × (filter q (range_with_len (k + 1) n) ≡ filter p (range_with_len (k + 1) n))
both_sides p q k n same = (
  filter_range q p 0 k (λ x from to. same x (ne_eqb k x (λ is. omega (arith, is, to)))),
  filter_range q p (k + 1) n (λ x from to. same x (ne_eqb k x (λ is. omega (arith, is, from)))),
)

pub one_more : (p q : ℕ → Bool) (k n : ℕ) → k < n → p k ≡ false → q k ≡ true → ((x : ℕ) → (k == x) ≡ false → q x ≡ p x)
    → put_in k (filter p (range_with_len 0 n)) ≡ filter q (range_with_len 0 n)
one_more p q k n within old now same =
    let more : List ℕ = range_with_len (k + 1) (n - (k + 1)) in
    let sides = both_sides p q k (n - (k + 1)) same in
    ap₂ (λ (xs ys : List ℕ). xs ++ k ∷ ys) (below_all p k n within) (not_below_all p k n within ∙ first_or_not p k more false old)
    ∙ ap₂ (λ (xs ys : List ℕ). xs ++ k ∷ ys) (sym sides.0) (sym sides.1)
    ∙ ap (λ (ys : List ℕ). filter q (range_with_len 0 k) ++ ys) (sym (first_or_not q k more true now))
    ∙ sym (filter_around q k n within)

pub one_fewer : (p q : ℕ → Bool) (k n : ℕ) → k < n → p k ≡ true → q k ≡ false → ((x : ℕ) → (k == x) ≡ false → q x ≡ p x)
    → taken_out k (filter p (range_with_len 0 n)) ≡ filter q (range_with_len 0 n)
one_fewer p q k n within old now same =
    let more : List ℕ = range_with_len (k + 1) (n - (k + 1)) in
    let sides = both_sides p q k (n - (k + 1)) same in
    ap₂ (λ (xs ys : List ℕ). xs ++ drop 1 ys) (below_all p k n within) (not_below_all p k n within ∙ first_or_not p k more true old)
    ∙ ap₂ (λ (xs ys : List ℕ). xs ++ ys) (sym sides.0) (sym sides.1)
    ∙ ap (λ (ys : List ℕ). filter q (range_with_len 0 k) ++ ys) (sym (first_or_not q k more false now))
    ∙ sym (filter_around q k n within)

-- the first that passes a test
pub first_passing : (p : ℕ → Bool) (xs : List ℕ) → first_to_pass p xs ≡ slice_get (filter p xs) 0
first_passing p [] = refl
first_passing p (x ∷ xs) = first_step p x xs (p x) (first_passing p xs) where
  first_step : (p : ℕ → Bool) (x : ℕ) (xs : List ℕ) (b : Bool) → first_to_pass p xs ≡ slice_get (filter p xs) 0
      → (if b then Some x else first_to_pass p xs) ≡ slice_get (if b then x ∷ filter p xs else filter p xs) 0
  first_step p x xs true rest = refl
  first_step p x xs false rest = rest

-- the first of those that pass one test that passes another
pub first_of_both : (p q : ℕ → Bool) (xs : List ℕ) → first_to_pass (λ x. p x && q x) xs ≡ first_to_pass p (filter q xs)
first_of_both p q xs =
    first_passing (λ x. p x && q x) xs
    ∙ ap (λ (ys : List ℕ). slice_get ys 0) (sym (filter_twice p q (λ x. p x && q x) (λ x. swapped (p x) (q x)) xs))
    ∙ sym (first_passing p (filter q xs))
  where
    swapped : (a b : Bool) → (a && b) ≡ (b && a)
    swapped true true = refl
    swapped true false = refl
    swapped false true = refl
    swapped false false = refl

-- what holds where a call answers `Ok` holds, where an `Err` can't be
pub ok_only : {X Y A B : Type 0} (r : Result X Y) → OnOk r A → OnErr r B → (B → A) → A
ok_only (Ok x) ok err never = ok
ok_only (Err y) ok err never = never err

pub drop_one : (i : ℕ) (xs : List ℕ) → drop 1 (drop i xs) ≡ drop (suc i) xs
drop_one zero xs = refl
drop_one (suc i) [] = refl
drop_one (suc i) (x ∷ xs) = drop_one i xs

-- a list after what may be at a place was taken out
pub taken_at : {X : Type 0} (r : Option X) (xs ys : List ℕ) (i n : ℕ) → OnSome r (ys ≡ remove xs i) → IfNone r (ys ≡ xs) → (IsSome r ↔ (i < n))
    → n ≡ length xs → ys ≡ remove xs i
taken_at (Some x) xs ys i n some same there long = some
taken_at None xs ys i n some same there long =
    elim (cases_lt i n) [
      | inl within ↦ absurd (false≢true (there.1 within))
      | inr past ↦
          same
          ∙ sym (ap₂ (λ (front back : List ℕ). front ++ back) (take_all i xs (omega (arith, past, long))) (drop_all (suc i) xs (omega (arith, past, long)))
          ∙ append-nil xs)
    ]

-- what a call reads at a place of a queue
pub read_at : (r : Option (Bor ℕ)) (xs : List ℕ) (i n : ℕ) → (IsSome r ↔ (i < n)) → IfSome r (λ x. x.now ≡ get_or xs i x.now) → n ≡ length xs
    → option_copied r ≡ slice_get xs i
read_at (Some x) xs i n there is long = sym (slice_get_read xs n i x.now long (there.0 refl) is)
read_at None xs i n there is long =
    elim (cases_lt i n) [
      | inl within ↦ absurd (false≢true (there.1 within))
      | inr past ↦ sym (slice_get_past xs i (omega (arith, past, long)))
    ]

pub get_dropped : (i : ℕ) (xs : List ℕ) → slice_get (drop i xs) 0 ≡ slice_get xs i
get_dropped zero xs = refl
get_dropped (suc i) [] = refl
get_dropped (suc i) (x ∷ xs) = get_dropped i xs

-- those that aren't up to a ticket are past it
pub past_all : (t : ℕ) (xs : List ℕ) → filter (λ x. not (nat_le x t)) xs ≡ filter (nat_lt t) xs
past_all t xs = filter_agree (λ x. not (nat_le x t)) (nat_lt t) (λ x. either x) xs where
  either : (x : ℕ) → not (nat_le x t) ≡ nat_lt t x
  either x =
      elim (cases_lt t x) [
        | inl later ↦ ap not (lt-leb x t later) ∙ sym (lt-ltb t x later)
        | inr sooner ↦ ap not (le-leb x t sooner) ∙ sym (le-ltb t x sooner)
      ]

-- one more ticket at the end of a range
pub range_last : (p : ℕ → Bool) (n : ℕ) → filter p (range_with_len 0 (n + 1)) ≡ filter p (range_with_len 0 n) ++ (if p n then n ∷ [] else [])
range_last p n =
    ap (filter p) (range_append 0 n 1 ∙ ap (λ (k : ℕ). range_with_len 0 n ++ k ∷ []) (zero-add n)) ∙ filter-append p (range_with_len 0 n) (n ∷ [])

-- the first that passes a test passes it
pub first_passes : (p : ℕ → Bool) (xs : List ℕ) → IfSome (first_to_pass p xs) (λ x. p x ≡ true)
first_passes p [] = tt
first_passes p (x ∷ xs) = by (p x) refl (first_passes p xs) where
  by : (b : Bool) → p x ≡ b → IfSome (first_to_pass p xs) (λ y. p y ≡ true) → IfSome (if b then Some x else first_to_pass p xs) (λ y. p y ≡ true)
  by true here rest = here
  by false here rest = rest
