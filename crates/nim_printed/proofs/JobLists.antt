-- Tests joined by `and`, tests of all items of a list, and the refusals of several lines.
use Rattle.std.proofs.Common.{◌≡◌, ℕ, ◌+◌, Bool, true, false, cond, List, [], ◌∷◌, ◌++◌, take, drop, map, refl, ap, ap₂, sym, ◌∙◌, Option, None, Some}
use Rattle.std.specs.Prelude.{◌&&◌}
use Rattle.std.specs.List.{list_all, list_any, sum_by}
use Rattle.std.specs.Option.{option_map, option_or}
use Rattle.std.proofs.lemmas.Bool.{and_parts, and_from, cond-false, or_from}
use Rattle.std.proofs.lemmas.List.{take-append-drop}
use Rattle.std.proofs.lemmas.List.Folds.{list_all-append}
use Rattle.std.proofs.lemmas.List.Sums.{sum_by-cons}
use Rattle.nim_lex.specs.declared.fault.Refusal.{Refusal}
use Rattle.nim_check.specs.Refusals.{first_refusal}
use Rattle.nim_check.specs.Rules.{rule_of}
use Rattle.nim_check.specs.DriverPlaces.{DriverPlace, place_line}
use Rattle.nim_check.proofs.Refused as refusals

pub and_three_parts : (a b c : Bool) → (a && b && c) ≡ true → (a ≡ true) × (b ≡ true) × (c ≡ true)
and_three_parts a b c is =
    let p = and_parts (a && b) c is in
    let q = and_parts a b p.0 in
    (q.0, q.1, p.1)

pub and_four_parts : (a b c d : Bool) → (a && b && c && d) ≡ true → (a ≡ true) × (b ≡ true) × (c ≡ true) × (d ≡ true)
and_four_parts a b c d is =
    let p = and_parts (a && b && c) d is in
    let q = and_three_parts a b c p.0 in
    (q.0, q.1, q.2, p.1)

pub and_five_parts : (a b c d e : Bool) → (a && b && c && d && e) ≡ true → (a ≡ true) × (b ≡ true) × (c ≡ true) × (d ≡ true) × (e ≡ true)
and_five_parts a b c d e is =
    let p = and_parts (a && b && c && d) e is in
    let q = and_four_parts a b c d p.0 in
    (q.0, q.1, q.2, q.3, p.1)

pub and_from_three : (a b c : Bool) → a ≡ true → b ≡ true → c ≡ true → (a && b && c) ≡ true
and_from_three a b c x y z = and_from (a && b) c (and_from a b x y) z

pub and_from_four : (a b c d : Bool) → a ≡ true → b ≡ true → c ≡ true → d ≡ true → (a && b && c && d) ≡ true
and_from_four a b c d x y z w = and_from (a && b && c) d (and_from_three a b c x y z) w

-- ---- lists

pub all_parts : {X : Type 0} (p : X → Bool) (xs ys : List X) → list_all p (xs ++ ys) ≡ true → (list_all p xs ≡ true) × (list_all p ys ≡ true)
all_parts p xs ys all = and_parts (list_all p xs) (list_all p ys) (sym (list_all-append p xs ys) ∙ all)

pub all_both : {X : Type 0} (p : X → Bool) (xs ys : List X) → list_all p xs ≡ true → list_all p ys ≡ true → list_all p (xs ++ ys) ≡ true
all_both p xs ys all more = list_all-append p xs ys ∙ and_from (list_all p xs) (list_all p ys) all more

pub all_taken : {X : Type 0} (p : X → Bool) (k : ℕ) (xs : List X) → list_all p xs ≡ true → list_all p (take k xs) ≡ true
all_taken p k xs all = (all_parts p (take k xs) (drop k xs) (ap (list_all p) (take-append-drop k xs) ∙ all)).0

pub all_mapped : {X Y : Type 0} (p : Y → Bool) (f : X → Y) (q : X → Bool) → ((x : X) → q x ≡ true → p (f x) ≡ true) → (xs : List X) → list_all q xs ≡ true
    → list_all p (map f xs) ≡ true
all_mapped p f q each [] all = refl
all_mapped p f q each (x ∷ xs) all =
    let parts = and_parts (q x) (list_all q xs) all in
    and_from (p (f x)) (list_all p (map f xs)) (each x parts.0) (all_mapped p f q each xs parts.1)

-- two tests together
pub all_of_both : {X : Type 0} (p q r : X → Bool) → ((x : X) → p x ≡ true → q x ≡ true → r x ≡ true) → (xs : List X) → list_all p xs ≡ true
    → list_all q xs ≡ true → list_all r xs ≡ true
all_of_both p q r each [] all more = refl
all_of_both p q r each (x ∷ xs) all more =
    let here = and_parts (p x) (list_all p xs) all in
    let also = and_parts (q x) (list_all q xs) more in
    and_from (r x) (list_all r xs) (each x here.0 also.0) (all_of_both p q r each xs here.1 also.1)

pub none_mapped : {X Y : Type 0} (p : Y → Bool) (f : X → Y) (q : X → Bool) → ((x : X) → q x ≡ true → p (f x) ≡ false) → (xs : List X) → list_all q xs ≡ true
    → list_any p (map f xs) ≡ false
none_mapped p f q each [] all = refl
none_mapped p f q each (x ∷ xs) all =
    let parts = and_parts (q x) (list_all q xs) all in
    or_from (p (f x)) (list_any p (map f xs)) (each x parts.0) (none_mapped p f q each xs parts.1)

pub map_same : {X Y : Type 0} (f g : X → Y) → ((x : X) → f x ≡ g x) → (xs : List X) → map f xs ≡ map g xs
map_same {X} {Y} f g same [] = refl
map_same {X} {Y} f g same (x ∷ xs) = ap₂ (λ (y : Y) (ys : List Y). y ∷ ys) (same x) (map_same f g same xs)

pub sum_same : {X : Type 0} (f g : X → ℕ) → ((x : X) → f x ≡ g x) → (xs : List X) → sum_by f xs ≡ sum_by g xs
sum_same f g same [] = refl
sum_same f g same (x ∷ xs) = sum_by-cons f x xs ∙ ap₂ (λ (n m : ℕ). n + m) (same x) (sum_same f g same xs) ∙ sym (sum_by-cons g x xs)

-- what is read back item by item
pub map_back : {X Y : Type 0} (f : X → Y) (g : Y → X) (q : X → Bool) → ((x : X) → q x ≡ true → g (f x) ≡ x) → (xs : List X) → list_all q xs ≡ true
    → map g (map f xs) ≡ xs
map_back {X} f g q each [] all = refl
map_back {X} f g q each (x ∷ xs) all =
    let parts = and_parts (q x) (list_all q xs) all in
    ap₂ (λ (y : X) (ys : List X). y ∷ ys) (each x parts.0) (map_back f g q each xs parts.1)

-- ---- refusals

pub no_rule : (refuses : Bool) (number : ℕ) (rest : Option ℕ) → refuses ≡ false → rest ≡ None → cond refuses (Some number) rest ≡ None
no_rule refuses number rest passes none = cond-false refuses (Some number) rest passes ∙ none

abbrev refused_by : DriverPlace → Option ℕ → Option Refusal
refused_by place rule = option_map (λ (number : ℕ). let refusal : Refusal = record { line = place_line place; rule = number } in refusal) rule

-- a line that no rule refuses, before others that none refuses
pub passes_on : (place : DriverPlace) (places : List DriverPlace) → rule_of place ≡ None → first_refusal places ≡ None → first_refusal (place ∷ places) ≡ None
passes_on place places none rest = ap (λ (rule : Option ℕ). option_or (refused_by place rule) (first_refusal places)) none ∙ rest

pub passes_both : (xs ys : List DriverPlace) → first_refusal xs ≡ None → first_refusal ys ≡ None → first_refusal (xs ++ ys) ≡ None
passes_both xs ys first second = refusals.joined xs ys ∙ ap₂ option_or first second
