-- Numbers that ascend and what is among them: two such lists with the same numbers are the same.
use Rattle.std.proofs.Common.{◌≡◌, Bool, true, false, ◌||◌, ℤ, List, [], ◌∷◌, fold, Ordering, Less, Equal, Greater, refl, sym, true≢false, ◌∙◌, ap, ap₂}
use Rattle.std.specs.Cmp.{int_cmp_total}
use Rattle.std.specs.List.{AllByRecursion, list_any}
use Rattle.std.specs.List.Sorted.{IsStrictlySortedBy}
use Rattle.std.specs.Ordering.{int_cmp, int_eq, is_eq, match_ordering, ordering_reverse}
use Rattle.std.proofs.lemmas.Map.Keys.{sorted_head, sorted_tail}
use Rattle.nim_base.specs.Functions.{different, with_number}
use Rattle.nim_funcs.proofs.Grouping.{ascends-with_number, below-trans, int_eq-refl, same_number, with_number_is}

-- whether a number is among some
abbrev pub among : ℤ → List ℤ → Bool
among number numbers = list_any (int_eq number) numbers

or_swap : (a b c : Bool) → (a || (b || c)) ≡ (b || (a || c))
or_swap true true c = refl
or_swap true false c = refl
or_swap false true c = refl
or_swap false false c = refl

or_twice : (a b : Bool) → (a || b) ≡ (a || (a || b))
or_twice true b = refl
or_twice false b = refl

or_onto : (a b c : Bool) → ((a || b) || c) ≡ (b || (a || c))
or_onto true true c = refl
or_onto true false c = refl
or_onto false true c = refl
or_onto false false c = refl

or_none : (a : Bool) → a ≡ (a || false)
or_none true = refl
or_none false = refl

-- one number more is among them
among_by : (order : Ordering) (asked number least : ℤ) (more later : List ℤ) → int_cmp number least ≡ order
    → among asked later ≡ (int_eq asked number || among asked more)
    → among asked (match_ordering order (number ∷ least ∷ more) (least ∷ more) (least ∷ later)) ≡ (int_eq asked number || among asked (least ∷ more))
among_by Less asked number least more later is found = refl
among_by Equal asked number least more later is found =
    let same : number ≡ least = same_number number least (ap is_eq is) in
    or_twice (int_eq asked least) (among asked more)
    ∙ ap (λ n. int_eq asked n || (int_eq asked least || among asked more)) (sym same)
among_by Greater asked number least more later is found =
    ap (λ b. int_eq asked least || b) found ∙ or_swap (int_eq asked least) (int_eq asked number) (among asked more)

among-with_number : (asked number : ℤ) (numbers : List ℤ) → among asked (with_number number numbers) ≡ (int_eq asked number || among asked numbers)
among-with_number asked number [] = refl
among-with_number asked number (least ∷ more) =
    ap (among asked) (with_number_is number least more)
    ∙ among_by (int_cmp number least) asked number least more (with_number number more) refl (among-with_number asked number more)

among_from : (asked : ℤ) (so_far numbers : List ℤ) → among asked (fold (λ some number. with_number number some) so_far numbers)
    ≡ (among asked so_far || among asked numbers)
among_from asked so_far [] = or_none (among asked so_far)
among_from asked so_far (number ∷ numbers) =
    among_from asked (with_number number so_far) numbers
    ∙ ap (λ b. b || among asked numbers) (among-with_number asked number so_far)
    ∙ or_onto (int_eq asked number) (among asked so_far) (among asked numbers)

-- the different numbers are just the numbers, and ascend
pub among-different : (asked : ℤ) (numbers : List ℤ) → among asked (different numbers) ≡ among asked numbers
among-different asked numbers = among_from asked [] numbers

ascends_from : (so_far numbers : List ℤ) → IsStrictlySortedBy int_cmp so_far
    → IsStrictlySortedBy int_cmp (fold (λ some number. with_number number some) so_far numbers)
ascends_from so_far [] ascends = ascends
ascends_from so_far (number ∷ numbers) ascends = ascends_from (with_number number so_far) numbers (ascends-with_number number so_far ascends)

pub ascends-different : (numbers : List ℤ) → IsStrictlySortedBy int_cmp (different numbers)
unfolding IsStrictlySortedBy
ascends-different numbers = ascends_from [] numbers tt

-- a number below some is not among them
pub below_all : (least : ℤ) (numbers : List ℤ) → AllByRecursion (λ n. int_cmp least n ≡ Less) numbers → among least numbers ≡ false
below_all least [] below = refl
below_all least (number ∷ numbers) below = ap₂ (λ a b. a || b) (ap is_eq below.0) (below_all least numbers below.1)

below_first : (least first : ℤ) (numbers : List ℤ) → int_cmp least first ≡ Less → IsStrictlySortedBy int_cmp (first ∷ numbers)
    → among least (first ∷ numbers) ≡ false
below_first least first numbers is ascends =
    below_all least (first ∷ numbers) (is, below-trans least first numbers is (sorted_head int_cmp first numbers ascends))

among-first : (first : ℤ) (numbers : List ℤ) → among first (first ∷ numbers) ≡ true
among-first first numbers = ap (λ b. b || among first numbers) (int_eq-refl first)

-- the same numbers, of which the first are the same
among_rest : (first asked : ℤ) (here : Bool) (xs ys : List ℤ) → int_eq asked first ≡ here → among first xs ≡ false → among first ys ≡ false
    → (here || among asked xs) ≡ (here || among asked ys) → among asked xs ≡ among asked ys
among_rest first asked true xs ys is absent never same =
    let at_first : asked ≡ first = same_number asked first is in
    ap (λ n. among n xs) at_first ∙ absent ∙ sym (ap (λ n. among n ys) at_first ∙ never)
among_rest first asked false xs ys is absent never same = same

firsts_same : (order : Ordering) (x y : ℤ) (xs ys : List ℤ) → int_cmp x y ≡ order → IsStrictlySortedBy int_cmp (x ∷ xs) → IsStrictlySortedBy int_cmp (y ∷ ys)
    → ((n : ℤ) → among n (x ∷ xs) ≡ among n (y ∷ ys)) → x ≡ y
firsts_same Less x y xs ys is up rising same = absurd (true≢false (sym (among-first x xs) ∙ same x ∙ below_first x y ys is rising))
firsts_same Equal x y xs ys is up rising same = same_number x y (ap is_eq is)
firsts_same Greater x y xs ys is up rising same =
    absurd (true≢false (sym (among-first y ys) ∙ sym (same y) ∙ below_first y x xs (int_cmp_total.antisymm y x ∙ ap ordering_reverse is) up))

pub same_ascending : (xs ys : List ℤ) → IsStrictlySortedBy int_cmp xs → IsStrictlySortedBy int_cmp ys → ((n : ℤ) → among n xs ≡ among n ys) → xs ≡ ys
same_ascending [] [] up rising same = refl
same_ascending [] (y ∷ ys) up rising same = absurd (true≢false (sym (among-first y ys) ∙ sym (same y)))
same_ascending (x ∷ xs) [] up rising same = absurd (true≢false (sym (among-first x xs) ∙ same x))
same_ascending (x ∷ xs) (y ∷ ys) up rising same =
    let first : x ≡ y = firsts_same (int_cmp x y) x y xs ys refl up rising same in
    let absent : among x xs ≡ false = below_all x xs (sorted_head int_cmp x xs up) in
    let never : among x ys ≡ false = ap (λ n. among n ys) first ∙ below_all y ys (sorted_head int_cmp y ys rising) in
    let rest : xs ≡ ys = same_ascending xs ys (sorted_tail int_cmp x xs up) (sorted_tail int_cmp y ys rising)
    (λ n. among_rest x n (int_eq n x) xs ys refl absent never (same n ∙ ap (λ k. int_eq n k || among n ys) (sym first))) in
    ap₂ (λ (n : ℤ) (ns : List ℤ). n ∷ ns) first rest
