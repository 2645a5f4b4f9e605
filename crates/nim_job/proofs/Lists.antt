-- Lists taken one more item at a time, and tests of all their items.
use Rattle.std.proofs.Common.{◌≡◌, ℕ, ◌+◌, ◌<◌, zero, suc, Bool, true, false, List, [], ◌∷◌, ◌++◌, length, take, map, get_or, refl, ap, ap₂, sym, subst, ◌∙◌}
use Rattle.std.specs.Prelude.{◌||◌, slice_get}
use Rattle.std.specs.List.{flat_map, list_all, list_any, range_with_len}
use Rattle.std.specs.Option.{option_to_list}
use Rattle.std.proofs.Common.{arith}
use Rattle.std.proofs.lemmas.Bool.{and_parts, and_from, both_ways, false_from_ne_true}
use Rattle.std.proofs.lemmas.List.{append-nil, append_assoc, take_more}
use Rattle.std.proofs.lemmas.List.Concat.{flat_map-append}
use Rattle.std.proofs.lemmas.List.FromFn.{length-range_with_len, get_or-range_with_len, map-range_with_len_more}
use Rattle.std.proofs.lemmas.List.Folds.{list_all-append, list_any_at}
use Rattle.std.proofs.lemmas.List.Sums.{AllPass-from_list_all}

pub flat_map_step : {X A : Type 0} (f : X → List A) (xs : List X) (i : ℕ) (x : X) → i < length xs → x ≡ get_or xs i x
    → flat_map f (take (i + 1) xs) ≡ flat_map f (take i xs) ++ f x
flat_map_step {X} f xs i x within is =
    ap (flat_map f) (take_more xs i x within ∙ ap (λ (y : X). take i xs ++ y ∷ []) (sym is))
    ∙ flat_map-append f (take i xs) (x ∷ []) ∙ ap (λ ys. flat_map f (take i xs) ++ ys) (append-nil (f x))

pub list_all_item : {X : Type 0} (p : X → Bool) (xs : List X) (i : ℕ) (x : X) → list_all p xs ≡ true → i < length xs → x ≡ get_or xs i x → p x ≡ true
list_all_item {X} p xs i x all within is = subst (λ (y : X). p y ≡ true) (sym is) (AllPass-from_list_all p xs all i x within)

list_any-map : {X A : Type 0} (p : A → Bool) (f : X → A) (xs : List X) → list_any p (map f xs) ≡ list_any (λ x. p (f x)) xs
list_any-map p f [] = refl
list_any-map p f (x ∷ xs) = ap (λ b. p (f x) || b) (list_any-map p f xs)

-- one item settles the answer
pub any_mapped : {X A : Type 0} (p : A → Bool) (f : X → A) (xs : List X) (i : ℕ) (d : X) → i < length xs → p (f (get_or xs i d)) ≡ true
    → true ≡ list_any p (map f xs)
any_mapped p f xs i d within passes = sym (list_any-map p f xs ∙ list_any_at (λ x. p (f x)) xs i d within passes)

pub list_all-flat_map : {X A : Type 0} (p : A → Bool) (f : X → List A) (q : X → Bool) → ((x : X) → q x ≡ true → list_all p (f x) ≡ true) → (xs : List X)
    → list_all q xs ≡ true → list_all p (flat_map f xs) ≡ true
list_all-flat_map p f q each [] all = refl
list_all-flat_map p f q each (x ∷ xs) all =
    let parts = and_parts (q x) (list_all q xs) all in
    list_all-append p (f x) (flat_map f xs)
    ∙ and_from (list_all p (f x)) (list_all p (flat_map f xs)) (each x parts.0) (list_all-flat_map p f q each xs parts.1)

-- one more item is taken, where there is one
pub take_next : {X : Type 0} (xs : List X) (k : ℕ) → take (suc k) xs ≡ take k xs ++ option_to_list (slice_get xs k)
take_next [] zero = refl
take_next [] (suc k) = refl
take_next (x ∷ xs) zero = refl
take_next (x ∷ xs) (suc k) = ap (λ rest. x ∷ rest) (take_next xs k)

range_suc : (a n : ℕ) → range_with_len a (suc n) ≡ range_with_len a n ++ (a + n) ∷ []
range_suc a zero = let same : a ≡ a + 0 = omega arith in ap (λ (x : ℕ). x ∷ []) same
range_suc a (suc n) =
    let same : a + 1 + n ≡ a + suc n = omega arith in
    ap (λ (xs : List ℕ). a ∷ xs) (range_suc (a + 1) n ∙ ap (λ (x : ℕ). range_with_len (a + 1) n ++ x ∷ []) same)

-- one more number
pub range_more : (n : ℕ) → range_with_len 0 (n + 1) ≡ range_with_len 0 n ++ n ∷ []
range_more n =
    let next : n + 1 ≡ suc n = omega arith in
    let same : 0 + n ≡ n = omega arith in
    ap (range_with_len 0) next ∙ range_suc 0 n ∙ ap (λ (x : ℕ). range_with_len 0 n ++ x ∷ []) same

pub all_more : (p : ℕ → Bool) (n : ℕ) → list_all p (range_with_len 0 n) ≡ true → p n ≡ true → list_all p (range_with_len 0 (n + 1)) ≡ true
all_more p n before here =
    ap (list_all p) (range_more n) ∙ list_all-append p (range_with_len 0 n) (n ∷ [])
    ∙ and_from (list_all p (range_with_len 0 n)) (list_all p (n ∷ [])) before (and_from (p n) true here refl)

-- one number fails the test
pub all_not : (p : ℕ → Bool) (n k : ℕ) → k < n → p k ≡ false → false ≡ list_all p (range_with_len 0 n)
all_not p n k within fails =
    sym (false_from_ne_true (list_all p (range_with_len 0 n))
    (λ all. let within_range : k < length (range_with_len 0 n) = omega (arith, length-range_with_len 0 n) in
    let same : k ≡ get_or (range_with_len 0 n) k k = sym (get_or-range_with_len 0 n k k within ∙ omega arith) in
    let passes : p k ≡ true = list_all_item p (range_with_len 0 n) k k all within_range same in
    both_ways (p k) fails passes))

-- one more item of a function of the numbers from 0 is pushed
pub pushed : {A : Type 0} (f : ℕ → A) (old now next : List A) (item : A) (index : ℕ) → next ≡ now ++ item ∷ [] → now ≡ old ++ map f (range_with_len 0 index)
    → item ≡ f index → next ≡ old ++ map f (range_with_len 0 (index + 1))
pushed {A} f old now next item index push before is =
    push ∙ ap₂ (λ (xs : List A) (x : A). xs ++ x ∷ []) before is ∙ append_assoc old (map f (range_with_len 0 index)) (f index ∷ [])
    ∙ ap (λ (xs : List A). old ++ xs) (sym (map-range_with_len_more f 0 index index (omega arith)))
