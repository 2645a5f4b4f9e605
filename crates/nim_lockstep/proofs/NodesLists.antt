-- Facts of lists: one item in another's place, and what holds of each.
use Rattle.std.proofs.Common.{◌≡◌, ◌≢◌, ℕ, zero, suc, ◌<◌, List, [], ◌∷◌, ◌++◌, length, map, replicate, get_or, refl, ap, sym, subst, ◌∙◌, arith, Option, None, Some, All, inl, inr}
use Rattle.std.specs.Prelude.{IsSomeAnd, slice_get, slice_set}
use Rattle.std.specs.List.{flat_map}
use Rattle.std.specs.Option.{option_map}
use Rattle.std.proofs.lemmas.Bool.{cases_lt}
use Rattle.std.proofs.lemmas.List.{get_or_past}
use Rattle.std.proofs.lemmas.List.Elements.{All-append, All-cons, All-get_or, All-head, All-nil, All-tail}

-- ---- one item

pub get_set_same : {X : Type 0} (xs : List X) (i : ℕ) (y : X) → i < length xs → slice_get (slice_set xs i y) i ≡ Some y
get_set_same [] i y within = absurd (omega (arith, within))
get_set_same (x ∷ xs) zero y within = refl
get_set_same (x ∷ xs) (suc i) y within = get_set_same xs i y (omega (arith, within))

pub get_set_other : {X : Type 0} (xs : List X) (i j : ℕ) (y : X) → j ≢ i → slice_get (slice_set xs i y) j ≡ slice_get xs j
get_set_other [] i j y other = refl
get_set_other (x ∷ xs) zero zero y other = absurd (other refl)
get_set_other (x ∷ xs) zero (suc j) y other = refl
get_set_other (x ∷ xs) (suc i) zero y other = refl
get_set_other (x ∷ xs) (suc i) (suc j) y other = get_set_other xs i j y (λ same. other (ap suc same))

pub get_replicate : {X : Type 0} (n : ℕ) (x : X) (i : ℕ) (y : X) → slice_get (replicate n x) i ≡ Some y → x ≡ y
get_replicate zero x i y is = absurd cc
get_replicate (suc n) x zero y is = cc
get_replicate (suc n) x (suc i) y is = get_replicate n x i y is

-- ---- each item

pub All_front : {X : Type 0} (P : X → Type 0) (xs ys : List X) → All P (xs ++ ys) → All P xs
All_front P [] ys all = All-nil P
All_front P (x ∷ xs) ys all = All-cons P x xs (All-head P x (xs ++ ys) all) (All_front P xs ys (All-tail P x (xs ++ ys) all))

-- an item, or what stands for one that isn't there
pub All_at : {X : Type 0} (P : X → Type 0) (xs : List X) (i : ℕ) (d : X) → All P xs → P d → P (get_or xs i d)
All_at P xs i d all default = elim (cases_lt i (length xs)) [
  | inl within ↦ All-get_or P xs i d within all
  | inr past ↦ subst P (sym (get_or_past xs i d past)) default
]

pub All_unmap : {X Y : Type 0} (P : Y → Type 0) (f : X → Y) (xs : List X) → All P (map f xs) → All (λ x. P (f x)) xs
All_unmap P f [] all = All-nil (λ x. P (f x))
All_unmap P f (x ∷ xs) all =
    All-cons (λ y. P (f y)) x xs (All-head P (f x) (map f xs) all) (All_unmap P f xs (All-tail P (f x) (map f xs) all))

pub All_flat_map : {X Y : Type 0} (P : Y → Type 0) (f : X → List Y) (xs : List X) → All (λ x. All P (f x)) xs → All P (flat_map f xs)
All_flat_map P f [] all = All-nil P
All_flat_map P f (x ∷ xs) all =
    All-append P (f x) (flat_map f xs) (All-head (λ y. All P (f y)) x xs all) (All_flat_map P f xs (All-tail (λ y. All P (f y)) x xs all))

-- two functions that agree at each item
pub flat_map_same : {X Y : Type 0} (f g : X → List Y) (xs : List X) → All (λ x. f x ≡ g x) xs → flat_map f xs ≡ flat_map g xs
flat_map_same f g [] all = refl
flat_map_same {X} {Y} f g (x ∷ xs) all =
    ap (λ (front : List Y). front ++ flat_map f xs) (All-head (λ y. f y ≡ g y) x xs all)
    ∙ ap (λ (rest : List Y). g x ++ rest) (flat_map_same f g xs (All-tail (λ y. f y ≡ g y) x xs all))

-- ---- options

pub some_is : {X : Type 0} (P : X → Type 0) (o : Option X) (x : X) → o ≡ Some x → IsSomeAnd o P → P x
some_is P None x is holds = absurd holds
some_is P (Some y) x is holds = let same : y ≡ x = cc in subst P same holds

pub is_some_and : {X : Type 0} (P : X → Type 0) (o : Option X) (x : X) → o ≡ Some x → P x → IsSomeAnd o P
is_some_and {X} P o x is holds = subst (λ (p : Option X). IsSomeAnd p P) (sym is) holds

-- what is made of something is made of what is there
pub record IsMade {X Y : Type 0} (f : X → Y) (o : Option X) (y : Y) : Type 0 where
  pub from : X
  pub there : o ≡ Some from
  pub is : f from ≡ y

pub made : {X Y : Type 0} (f : X → Y) (o : Option X) (y : Y) → option_map f o ≡ Some y → IsMade f o y
made f None y is = absurd cc
made f (Some x) y is = record { from = x; there = refl; is = cc }
