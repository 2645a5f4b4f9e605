-- Places that rise: those that a sort leaves, and that they are all told by which places are among them.
use Rattle.std.proofs.Common.{◌≡◌, ℕ, suc, ◌+◌, ◌<◌, ◌≤◌, Bool, true, false, List, [], ◌∷◌, ◌++◌, length, get_or, refl, ap, ap₂, sym, subst, ◌∙◌, arith, rules}
use Rattle.std.specs.Prelude.{◌==◌, ◌&&◌, ◌||◌, if◌then◌else◌, eqb}
use Rattle.std.specs.Cmp.{nat_eq_equiv}
use Rattle.std.specs.List.{dedup, flat_map}
use Rattle.std.specs.List.Sorted.{IsPermutation, IsSorted, IsStrictlyIncreasing}
use Rattle.std.specs.Ordering.{nat_cmp}
use Rattle.std.proofs.lemmas.Bool.{eq-eqb, eqb-true, false≢true, ne_eqb}
use Rattle.std.proofs.lemmas.List.{append_assoc}
use Rattle.std.proofs.lemmas.List.Kept.{Contains-dedup_nat, Contains-from_dedup}
use Rattle.std.proofs.lemmas.List.Sorted.{list_any-IsPermutation}
use Rattle.std.proofs.lemmas.Map.Keys.{IsStrictlyIncreasing-dedup}
use Rattle.std.proofs.lemmas.Map.Views.{Contains-from_any, list_any-from_Contains}
use Rattle.nim_command.specs.declared.last_uses.LastUses.{LastUses}
use Rattle.nim_command.specs.Before.{Footprint, before_of, is_before}
use Rattle.nim_command.specs.LastUses.{IsPastOf, Rises, is_in, is_last_user, number_at, numbers_at}
use Rattle.nim_command.proofs.LastUses.{is_waited, met_waited}

same_by : (a b : Bool) → (a ≡ true → b ≡ true) → (b ≡ true → a ≡ true) → a ≡ b
same_by true b to back = sym (to refl)
same_by false true to back = back refl
same_by false false to back = refl

-- what is left without doubles
dedup_in : (p : ℕ) (xs : List ℕ) → is_in p (dedup eqb xs) ≡ is_in p xs
dedup_in p xs =
    same_by (is_in p (dedup eqb xs)) (is_in p xs)
    (λ is. list_any-from_Contains nat_eq_equiv p xs (Contains-from_dedup eqb xs p (Contains-from_any eqb-true p (dedup eqb xs) is)))
    (λ is. list_any-from_Contains nat_eq_equiv p (dedup eqb xs) (Contains-dedup_nat xs p (Contains-from_any eqb-true p xs is)))

-- the same places are there after a sort and without doubles
pub sorted_in : (xs ys zs : List ℕ) (p : ℕ) → IsPermutation xs ys → zs ≡ dedup eqb ys → is_in p zs ≡ is_in p xs
sorted_in xs ys zs p moved is = ap (is_in p) is ∙ dedup_in p ys ∙ sym (list_any-IsPermutation (λ other. p == other) xs ys moved)

rises_behind : (x : ℕ) (xs : List ℕ) → IsStrictlyIncreasing (x ∷ xs) → Rises (suc x) xs
rises_behind x [] up = search rules
rises_behind x (y ∷ ys) up =
    let next : (k : ℕ) → suc k + 1 ≡ suc (k + 1) = λ k. omega arith in (
      omega (arith, up 0 (omega arith)),
      rises_behind y ys (λ k within. subst (λ (n : ℕ). get_or (y ∷ ys) k 0 < get_or (x ∷ y ∷ ys) n 0) (next k) (up (suc k) (omega (arith, within)))),
    )

rises : (xs : List ℕ) → IsStrictlyIncreasing xs → Rises 0 xs
rises [] up = search rules
rises (x ∷ xs) up = (omega arith, rises_behind x xs up)

-- they rise
pub sorted_rises : (ys zs : List ℕ) → IsSorted nat_cmp ys → zs ≡ dedup eqb ys → Rises 0 zs
sorted_rises ys zs sorted is = subst (Rises 0) (sym is) (rises (dedup eqb ys) (IsStrictlyIncreasing-dedup ys sorted))

-- a place below all isn't there
below_in : (from : ℕ) (xs : List ℕ) (p : ℕ) → Rises from xs → p < from → is_in p xs ≡ false
below_in from [] p up less = refl
below_in from (x ∷ xs) p up less =
    ap₂ (λ (a b : Bool). a || b) (ne_eqb p x (λ is. omega (arith, is, up.0, less))) (below_in (suc x) xs p up.1 (omega (arith, up.0, less)))

below_waited : (from : ℕ) (past : List Footprint) (later : Footprint) (p : ℕ) → p < from → is_waited from past later p ≡ false
below_waited from [] later p less = refl
below_waited from (f ∷ fs) later p less =
    ap₂ (λ (a b : Bool). (a && is_before f fs later) || b) (ne_eqb p from (λ is. omega (arith, is, less)))
    (below_waited (suc from) fs later p (omega (arith, less)))

-- the numbers of a list, from a place on
abbrev Names : (ℕ → List ℕ) → ℕ → List Footprint → Type 0
Names numbers from [] = from ≤ from
Names numbers from (f ∷ fs) = (numbers from ≡ f.number ∷ []) × Names numbers (suc from) fs

-- whether the first is waited for
first_told : (from : ℕ) (f : Footprint) (fs : List Footprint) (later : Footprint) (xs : List ℕ)
    → ((p : ℕ) → is_in p xs ≡ is_waited from (f ∷ fs) later p) → is_in from xs ≡ is_before f fs later
first_told from f fs later xs told =
    told from
    ∙ ap₂ (λ (a b : Bool). (a && is_before f fs later) || b) (eq-eqb from from refl) (below_waited (suc from) fs later from (omega arith))
    ∙ nothing_else (is_before f fs later)
  where
    nothing_else : (b : Bool) → (b || false) ≡ b
    nothing_else true = refl
    nothing_else false = refl

-- the others, where the first isn't waited for
rest_told : (from : ℕ) (f : Footprint) (fs : List Footprint) (later : Footprint) (xs : List ℕ) → is_before f fs later ≡ false
    → ((p : ℕ) → is_in p xs ≡ is_waited from (f ∷ fs) later p) → (p : ℕ) → is_in p xs ≡ is_waited (suc from) fs later p
rest_told from f fs later xs free told p = told p ∙ dropped (p == from) (is_before f fs later) (is_waited (suc from) fs later p) free where
  dropped : (e b w : Bool) → b ≡ false → ((e && b) || w) ≡ w
  dropped true b w is = ap (λ (c : Bool). c || w) is
  dropped false b w is = refl

-- the others, where the first is waited for
tail_told : (from : ℕ) (f : Footprint) (fs : List Footprint) (later : Footprint) (xs : List ℕ) → is_before f fs later ≡ true → Rises (suc from) xs
    → ((p : ℕ) → is_in p (from ∷ xs) ≡ is_waited from (f ∷ fs) later p) → (p : ℕ) → is_in p xs ≡ is_waited (suc from) fs later p
tail_told from f fs later xs waited up told p =
    by (p == from) refl (told p ∙ ap (λ (b : Bool). (p == from && b) || is_waited (suc from) fs later p) waited)
  where
    by : (e : Bool) → (p == from) ≡ e → (e || is_in p xs) ≡ ((e && true) || is_waited (suc from) fs later p) → is_in p xs ≡ is_waited (suc from) fs later p
    by true here same =
        let less : p < suc from = omega (arith, eqb-true p from here) in
        below_in (suc from) xs p up less ∙ sym (below_waited (suc from) fs later p less)
    by false here same = same

-- one place further, where a place is the first of all
told_step : (numbers : ℕ → List ℕ) (from : ℕ) (f : Footprint) (fs : List Footprint) (later : Footprint) → numbers from ≡ f.number ∷ []
    → ((ys : List ℕ) → Rises (suc from) ys → ((p : ℕ) → is_in p ys ≡ is_waited (suc from) fs later p) → flat_map numbers ys ≡ before_of fs later)
    → (x : ℕ) (xs : List ℕ) → Rises from (x ∷ xs) → ((p : ℕ) → is_in p (x ∷ xs) ≡ is_waited from (f ∷ fs) later p)
    → (e : Bool) → (from == x) ≡ e → flat_map numbers (x ∷ xs) ≡ before_of (f ∷ fs) later
told_step numbers from f fs later named again x xs up told true is =
    let here : x ≡ from = sym (eqb-true from x is) in
    let waited : is_before f fs later ≡ true = sym (first_told from f fs later (x ∷ xs) told) ∙ ap (λ (b : Bool). b || is_in from xs) is in
    let above : Rises (suc from) xs = subst (λ (n : ℕ). Rises (suc n) xs) here up.1 in
    ap₂ (λ (ns ms : List ℕ). ns ++ ms) (ap numbers here ∙ named)
    (again xs above (tail_told from f fs later xs waited above (subst (λ (n : ℕ). (p : ℕ) → is_in p (n ∷ xs) ≡ is_waited from (f ∷ fs) later p) here told)))
    ∙ ap (λ (b : Bool). if b then f.number ∷ before_of fs later else before_of fs later) (sym waited)
told_step numbers from f fs later named again x xs up told false is =
    let apart : from ≡ x → ⊥ = λ same. false≢true (sym is ∙ eq-eqb from x same) in
    let above : suc from ≤ x = omega (arith, apart, up.0) in
    let free : is_before f fs later ≡ false = sym (first_told from f fs later (x ∷ xs) told) ∙ below_in (suc from) (x ∷ xs) from (above, up.1) (omega arith) in
    again (x ∷ xs) (above, up.1) (rest_told from f fs later (x ∷ xs) free told)
    ∙ ap (λ (b : Bool). if b then f.number ∷ before_of fs later else before_of fs later) (sym free)

-- places that rise and are those that are waited for give the before set
told_before : (numbers : ℕ → List ℕ) (from : ℕ) (past : List Footprint) (later : Footprint) → Names numbers from past
    → (xs : List ℕ) → Rises from xs → ((p : ℕ) → is_in p xs ≡ is_waited from past later p) → flat_map numbers xs ≡ before_of past later
told_before numbers from [] later names [] up told = refl
told_before numbers from [] later names (x ∷ xs) up told =
    absurd (false≢true (sym (told x) ∙ ap (λ (b : Bool). b || is_in x xs) (eq-eqb x x refl)))
told_before numbers from (f ∷ fs) later names [] up told =
    let free : is_before f fs later ≡ false = sym (first_told from f fs later [] told) in
    told_before numbers (suc from) fs later names.1 [] up (rest_told from f fs later [] free told)
    ∙ ap (λ (b : Bool). if b then f.number ∷ before_of fs later else before_of fs later) (sym free)
told_before numbers from (f ∷ fs) later names (x ∷ xs) up told =
    told_step numbers from f fs later names.0 (told_before numbers (suc from) fs later names.1) x xs up told (from == x) refl

at_seam : (before : List Footprint) (f : Footprint) (fs : List Footprint) → number_at (before ++ f ∷ fs) (length before) ≡ f.number ∷ []
at_seam [] f fs = refl
at_seam (b ∷ before) f fs = at_seam before f fs

all_named : (before past : List Footprint) → Names (number_at (before ++ past)) (length before) past
all_named before [] = omega arith
all_named before (f ∷ fs) = (
  at_seam before f fs,
  subst (λ (all : List Footprint). Names (number_at all) (suc (length before)) fs) (append_assoc before (f ∷ []) fs)
      (subst (λ (n : ℕ). Names (number_at ((before ++ f ∷ []) ++ fs)) n fs) (one_longer before) (all_named (before ++ f ∷ []) fs)),
) where
  one_longer : (xs : List Footprint) → length (xs ++ f ∷ []) ≡ suc (length xs)
  one_longer [] = refl
  one_longer (x ∷ xs) = ap suc (one_longer xs)

-- the before set from the last uses
pub before_told : (uses : LastUses) (past : List Footprint) (later : Footprint) (places : List ℕ) → IsPastOf uses past
    → Rises 0 places → ((p : ℕ) → is_in p places ≡ is_last_user uses later p) → numbers_at past places ≡ before_of past later
before_told uses past later places of up met =
    told_before (number_at past) 0 past later (all_named [] past) places up (λ p. met p ∙ met_waited uses past later p of)
