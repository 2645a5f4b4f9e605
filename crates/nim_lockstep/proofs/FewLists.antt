-- Sums and counts of lists: one item in another's place, item by item, and numbers that differ.
use Rattle.std.proofs.Common.{◌≡◌, ℕ, suc, ◌+◌, ◌≤◌, ◌<◌, Bool, true, false, ◌*◌, List, [], ◌∷◌, ◌++◌, length, replicate, refl, subst, ◌∙◌, arith, Some}
use Rattle.std.specs.Prelude.{◌==◌, slice_get, slice_set}
use Rattle.std.specs.Cmp.{IsEquivalence, nat_eq_equiv}
use Rattle.std.specs.List.{IsDistinct, range_with_len, sum_by}
use Rattle.std.proofs.lemmas.Bool.{eq-eqb}
use Rattle.std.proofs.lemmas.List.{length-replicate}
use Rattle.std.proofs.lemmas.List.Elements.{All-replicate}
use Rattle.std.proofs.lemmas.List.FromFn.{length-range_with_len}
use Rattle.std.proofs.lemmas.List.Sums.{sum_by-cons, sum_by-le, sum_by-set}
use Rattle.std.proofs.lemmas.Map.Keys.{IsDistinct-push}
use Rattle.std.proofs.lemmas.Map.Made.{length-le_from_is_member}
use Rattle.std.proofs.lemmas.Option.{get_or_from_slice_get, slice_get_within}
use Rattle.nim_order.specs.Progress.{is_one_of}
use Rattle.nim_base.proofs.Lists.{any_of_range}

-- ---- sums

-- one item in another's place
pub sum_set : {X : Type 0} (f : X → ℕ) (xs : List X) (i : ℕ) (x y : X) → slice_get xs i ≡ Some x
    → sum_by f (slice_set xs i y) + f x ≡ sum_by f xs + f y
sum_set f xs i x y there =
    subst (λ z. sum_by f (slice_set xs i y) + f z ≡ sum_by f xs + f y) (get_or_from_slice_get xs i x x there)
    (sum_by-set f xs i y x (slice_get_within xs i x there))

-- where each item counts no more than its number does
pub sums_le : {X : Type 0} (f : X → ℕ) (g : ℕ → ℕ) (from : ℕ) (xs : List X) → ((k : ℕ) (x : X) → slice_get xs k ≡ Some x → f x ≤ g (from + k))
    → sum_by f xs ≤ sum_by g (range_with_len from (length xs))
sums_le f g from [] each = omega arith
sums_le {X} f g from (x ∷ xs) each =
    let here : from + 0 ≡ from = omega arith in
    let head : f x ≤ g from = subst (λ (n : ℕ). f x ≤ g n) here (each 0 x refl) in
    let rest : sum_by f xs ≤ sum_by g (range_with_len (from + 1) (length xs)) = sums_le f g (from + 1) xs (λ k y there. next k y (each (suc k) y there)) in
    omega (arith, head, rest, sum_by-cons f x xs, sum_by-cons g from (range_with_len (from + 1) (length xs))) where
      next : (k : ℕ) (y : X) → f y ≤ g (from + suc k) → f y ≤ g (from + 1 + k)
      next k y is = let same : from + suc k ≡ from + 1 + k = omega arith in subst (λ (n : ℕ). f y ≤ g n) same is

-- so many of one item, which counts at most this
pub sum_replicate : {X : Type 0} (f : X → ℕ) (n : ℕ) (x : X) (most : ℕ) → f x ≤ most → sum_by f (replicate n x) ≤ n * most
sum_replicate f n x most is =
    let all : sum_by f (replicate n x) ≤ length (replicate n x) * most = sum_by-le f most (replicate n x) (All-replicate (λ y. f y ≤ most) n x is) in
    subst (λ (m : ℕ). sum_by f (replicate n x) ≤ m * most) (length-replicate n x) all

-- ---- numbers that differ

-- whether two numbers are one, the other first
abbrev pub is_same_number : ℕ → ℕ → Bool
is_same_number one other = other == one

same_numbers : IsEquivalence is_same_number
same_numbers = record {
  refl = λ x. eq-eqb x x refl;
  symm = λ x y. nat_eq_equiv.symm y x;
  congr = λ x y z is. nat_eq_equiv.symm z x ∙ nat_eq_equiv.congr x y z (nat_eq_equiv.symm x y ∙ is) ∙ nat_eq_equiv.symm y z;
}

-- one more that is none of them
pub differ_more : (xs : List ℕ) (x : ℕ) → IsDistinct is_same_number xs → is_one_of xs x ≡ false → IsDistinct is_same_number (xs ++ x ∷ [])
differ_more xs x differ other = IsDistinct-push same_numbers xs x differ other

-- below a number there are no more than it says
pub few_below : (xs : List ℕ) (n : ℕ) → IsDistinct is_same_number xs → ((x : ℕ) → is_one_of xs x ≡ true → x < n) → length xs ≤ n
few_below xs n differ below =
    subst (λ (m : ℕ). length xs ≤ m) (length-range_with_len 0 n)
    (length-le_from_is_member same_numbers xs (range_with_len 0 n) differ
    (λ x among. let within = below x among in any_of_range (is_same_number x) 0 n x (omega arith) (omega (arith, within)) (eq-eqb x x refl)))
