-- Lists of pairs: what is found by a test of the keys, and what is left without it.
use Rattle.std.proofs.Common.{◌≡◌, ℕ, zero, suc, ◌+◌, Bool, true, false, cond, List, [], ◌∷◌, length, take, refl, ap, ◌∙◌, arith, le_refl, take-take}
use Rattle.std.specs.Prelude.{None, Some}
use Rattle.std.specs.Map.{lookup, lookup_entry, remove_entry}
use Rattle.std.proofs.lemmas.Bool.{cond-false, cond-true}

-- the first n of what is left don't depend on what stands behind the first n + 1
pub take_removed : {K X : Type 0} (test : K → Bool) (n : ℕ) (es : List (K × X)) → take n (remove_entry test (take (suc n) es)) ≡ take n (remove_entry test es)
take_removed test n [] = refl
take_removed {K} {X} test n (e ∷ es) = by (test e.0) n (λ m. take_removed test m es) where
  by : (b : Bool) (m : ℕ) → ((k : ℕ) → take k (remove_entry test (take (suc k) es)) ≡ take k (remove_entry test es))
      → take m (cond b (take m es) (e ∷ remove_entry test (take m es))) ≡ take m (cond b es (e ∷ remove_entry test es))
  by true m rest = take-take m m es (le_refl m)
  by false zero rest = refl
  by false (suc m) rest = ap (λ (l : List (K × X)). e ∷ l) (rest m)

-- a pair that is found, and what is left without it
pub record IsFound {K X : Type 0} (test : K → Bool) (es : List (K × X)) (e : K × X) : Type 0 where
  pub entry : lookup_entry test es ≡ Some e
  pub passes : test e.0 ≡ true
  pub left : length (remove_entry test es) + 1 ≡ length es

-- what a look-up finds is a pair
pub find_entry : {K X : Type 0} (test : K → Bool) (es : List (K × X)) (x : X) → lookup test es ≡ Some x → (k : K) × IsFound test es (k, x)
find_entry test [] x is = cc
find_entry {K} {X} test (e ∷ es) x is = by (test e.0) refl is (find_entry test es x) where
  by : (b : Bool) → test e.0 ≡ b → cond b (Some e.1) (lookup test es) ≡ Some x → (lookup test es ≡ Some x → (k : K) × IsFound test es (k, x))
      → (k : K) × IsFound test (e ∷ es) (k, x)
  by true passes is rest =
      let same : e.1 ≡ x = cc in (
        e.0,
        record {
          entry = cond-true (test e.0) (Some e) (lookup_entry test es) passes ∙ ap (λ (y : X). Some (e.0, y)) same;
          passes = passes;
          left = ap (λ (l : List (K × X)). length l + 1) (cond-true (test e.0) es (e ∷ remove_entry test es) passes) ∙ (omega arith);
        },
      )
  by false passes is rest =
      let on = rest is in (
        on.0,
        record {
          entry = cond-false (test e.0) (Some e) (lookup_entry test es) passes ∙ on.1.entry;
          passes = on.1.passes;
          left = ap (λ (l : List (K × X)). length l + 1) (cond-false (test e.0) es (e ∷ remove_entry test es) passes) ∙ (omega (arith, on.1.left));
        },
      )

-- nothing is found, and nothing is left out
pub record IsMissing {K X : Type 0} (test : K → Bool) (es : List (K × X)) : Type 0 where
  pub entry : lookup_entry test es ≡ None
  pub left : remove_entry test es ≡ es

pub miss_entry : {K X : Type 0} (test : K → Bool) (es : List (K × X)) → lookup test es ≡ None → IsMissing test es
miss_entry test [] is = record { entry = refl; left = refl }
miss_entry {K} {X} test (e ∷ es) is = by (test e.0) refl is (miss_entry test es) where
  by : (b : Bool) → test e.0 ≡ b → cond b (Some e.1) (lookup test es) ≡ None → (lookup test es ≡ None → IsMissing test es) → IsMissing test (e ∷ es)
  by true passes is rest = cc
  by false passes is rest =
      let on = rest is in
      record {
        entry = cond-false (test e.0) (Some e) (lookup_entry test es) passes ∙ on.entry;
        left = cond-false (test e.0) es (e ∷ remove_entry test es) passes ∙ ap (λ (l : List (K × X)). e ∷ l) on.left;
      }
