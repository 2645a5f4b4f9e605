-- Tests of lists, and what passes several of them.
use Rattle.std.proofs.Common.{◌≡◌, Bool, true, false, List, [], ◌∷◌, refl, ap, ap₂, sym, ◌∙◌}
use Rattle.std.specs.Prelude.{◌&&◌, ◌||◌, if◌then◌else◌}
use Rattle.std.specs.List.{filter, list_any}
use Rattle.nim_base.proofs.Lists.{any_same}

pub any_nothing : {X : Type 0} (p : X → Bool) → ((x : X) → p x ≡ false) → (xs : List X) → list_any p xs ≡ false
any_nothing p none [] = refl
any_nothing p none (x ∷ xs) = ap₂ (λ (a b : Bool). a || b) (none x) (any_nothing p none xs)

and_true : (b : Bool) → (b && true) ≡ b
and_true true = refl
and_true false = refl

and_false : (b : Bool) → (b && false) ≡ false
and_false true = refl
and_false false = refl

-- a second test that is the same for all items
pub any_and : {X : Type 0} (p : X → Bool) (b : Bool) (xs : List X) → list_any (λ x. p x && b) xs ≡ (list_any p xs && b)
any_and {X} p true xs = any_same (λ (x : X). p x && true) p (λ x. and_true (p x)) xs ∙ sym (and_true (list_any p xs))
any_and {X} p false xs = any_nothing (λ (x : X). p x && false) (λ x. and_false (p x)) xs ∙ sym (and_false (list_any p xs))

kept_twice : {X : Type 0} (p : X → Bool) (x : X) (rest : List X) (q : Bool)
    → filter p (if q then x ∷ rest else rest) ≡ (if q && p x then x ∷ filter p rest else filter p rest)
kept_twice p x rest true = refl
kept_twice p x rest false = refl

-- items that pass two tests, one after the other
pub filter_twice : {X : Type 0} (p q r : X → Bool) → ((x : X) → r x ≡ (q x && p x)) → (xs : List X) → filter p (filter q xs) ≡ filter r xs
filter_twice p q r both [] = refl
filter_twice {X} p q r both (x ∷ xs) =
    kept_twice p x (filter q xs) (q x)
    ∙ ap₂ (λ (b : Bool) (rest : List X). if b then x ∷ rest else rest) (sym (both x)) (filter_twice p q r both xs)

pub filter_all : {X : Type 0} (p : X → Bool) → ((x : X) → p x ≡ true) → (xs : List X) → filter p xs ≡ xs
filter_all p all [] = refl
filter_all {X} p all (x ∷ xs) = ap₂ (λ (b : Bool) (rest : List X). if b then x ∷ rest else rest) (all x) (filter_all p all xs)

mixed : (a b c d : Bool) → ((a || b) || (c || d)) ≡ ((a || c) || (b || d))
mixed true b c d = refl
mixed false true true d = refl
mixed false true false d = refl
mixed false false c d = refl

-- one of two tests
pub any_or : {X : Type 0} (p q : X → Bool) (xs : List X) → list_any (λ x. p x || q x) xs ≡ (list_any p xs || list_any q xs)
any_or p q [] = refl
any_or p q (x ∷ xs) = ap (λ (b : Bool). (p x || q x) || b) (any_or p q xs) ∙ mixed (p x) (q x) (list_any p xs) (list_any q xs)
