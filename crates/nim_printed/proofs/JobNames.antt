-- Names: where one stands among others, and those of arguments, scalars and functions.
use Rattle.std.proofs.Common.{◌≡◌, ℕ, ◌+◌, ◌<◌, ◌≤◌, zero, suc, Bool, true, false, cond, not, List, [], ◌∷◌, ◌++◌, length, take, drop, map, refl, ap, ap₂, sym, ◌∙◌, arith, Some}
use Rattle.std.specs.Prelude.{◌||◌, nat_lt, nat_le, bytes_eq, slice_index_or, if◌then◌else◌}
use Rattle.std.specs.List.{list_all, range_with_len}
use Rattle.std.specs.Char.{is_ascii_alphabetic}
use Rattle.std.specs.Fmt.{digits}
use Rattle.std.proofs.lemmas.Bool.{and_parts, both_ways, cond-true, cond-false, false_from_ne_true, lt-ltb, not-true, not_from_true, not_from_false, or_from, or_left, or_parts, or_right}
use Rattle.std.proofs.lemmas.Bool.Decides.{nat_tests}
use Rattle.std.proofs.lemmas.List.{take-append-drop}
use Rattle.std.proofs.lemmas.List.FromFn.{get_or-map-range_with_len, length-map-range_with_len, take-map-range_with_len}
use Rattle.std.proofs.lemmas.Slice.Eq.{bytes_eq-Decides}
use Rattle.nim_base.specs.declared.task.Func.{Func}
use Rattle.nim_base.specs.declared.task.Func.TheVariants as func
use Rattle.nim_job.proofs.Lists.{list_all_item}
use Rattle.nim_lex.specs.Bytes.{is_name_byte}
use Rattle.nim_lex.specs.Texts.{is_name}
use Rattle.nim_check.specs.Made.{ascii_text}
use Rattle.nim_check.specs.Names.{func_of, functions, has_twice, is_in, place_in, reserved}
use Rattle.nim_printed.specs.Printer.{argument_name, func_name, scalar_name}
use Rattle.nim_printed.specs.Spelled.{is_unreserved}
use Rattle.nim_printed.specs.Words.{Word, is_short_name}
use Rattle.nim_check.proofs.Places.{lt_suc}
use Rattle.nim_printed.proofs.TreeWordKinds.{bytes_same}

bytes_back : (v w : Word) → bytes_eq v w ≡ false → bytes_eq w v ≡ false
bytes_back v w differ =
    false_from_ne_true (bytes_eq w v) (λ same. both_ways (bytes_eq v w) differ ((bytes_eq-Decides v w).1 (sym ((bytes_eq-Decides w v).0 same))))

in_step : (same : Bool) (place names : ℕ) → nat_lt (cond (not same) (1 + place) 0) (suc names) ≡ (same || nat_lt place names)
in_step true place names = lt-ltb 0 (suc names) (omega arith)
in_step false place names = lt_suc place names

in_cons : (name word : Word) (names : List Word) → is_in (name ∷ names) word ≡ (bytes_eq name word || is_in names word)
in_cons name word names = in_step (bytes_eq name word) (place_in names word) (length names)

-- a word that isn't in two lists is in neither
pub in_neither : (xs ys : List Word) (word : Word) → is_in (xs ++ ys) word ≡ false → (is_in xs word ≡ false) × (is_in ys word ≡ false)
in_neither [] ys word none = (refl, none)
in_neither (x ∷ xs) ys word none =
    let parts = or_parts (bytes_eq x word) (is_in (xs ++ ys) word) (sym (in_cons x word (xs ++ ys)) ∙ none) in
    let rest = in_neither xs ys word parts.1 in
    (in_cons x word xs ∙ or_from (bytes_eq x word) (is_in xs word) parts.0 rest.0, rest.1)

-- of words of which none stands twice, one isn't among those before it
pub apart : (xs : List Word) (word : Word) (ys : List Word) → has_twice (xs ++ word ∷ ys) ≡ false → is_in xs word ≡ false
apart [] word ys once = refl
apart (x ∷ xs) word ys once =
    let parts = or_parts (is_in (xs ++ word ∷ ys) x) (has_twice (xs ++ word ∷ ys)) once in
    let behind = in_neither xs (word ∷ ys) x parts.0 in
    let here = or_parts (bytes_eq word x) (is_in ys x) (sym (in_cons word x ys) ∙ behind.1) in
    in_cons x word xs ∙ or_from (bytes_eq x word) (is_in xs word) (bytes_back word x here.0) (apart xs word ys parts.1)

-- none stands twice in a part
pub once_parts : (xs ys : List Word) → has_twice (xs ++ ys) ≡ false → (has_twice xs ≡ false) × (has_twice ys ≡ false)
once_parts [] ys once = (refl, once)
once_parts (x ∷ xs) ys once =
    let parts = or_parts (is_in (xs ++ ys) x) (has_twice (xs ++ ys)) once in
    let rest = once_parts xs ys parts.1 in
    (or_from (is_in xs x) (has_twice xs) (in_neither xs ys x parts.0).0 rest.0, rest.1)

pub in_at : (names : List Word) (k : ℕ) → k < length names → is_in names (slice_index_or names k []) ≡ true
in_at [] k there = absurd (omega arith)
in_at (x ∷ xs) zero there = in_cons x x xs ∙ or_left (bytes_eq x x) (is_in xs x) (bytes_same x)
in_at (x ∷ xs) (suc k) there =
    in_cons x (slice_index_or xs k []) xs
    ∙ or_right (bytes_eq x (slice_index_or xs k [])) (is_in xs (slice_index_or xs k [])) (in_at xs k (omega arith))

absent_at : (names : List Word) (k : ℕ) (word : Word) → is_in names word ≡ false → k < length names → bytes_eq (slice_index_or names k []) word ≡ false
absent_at [] k word none there = absurd (omega arith)
absent_at (x ∷ xs) zero word none there = (or_parts (bytes_eq x word) (is_in xs word) (sym (in_cons x word xs) ∙ none)).0
absent_at (x ∷ xs) (suc k) word none there = absent_at xs k word (or_parts (bytes_eq x word) (is_in xs word) (sym (in_cons x word xs) ∙ none)).1 (omega arith)

-- where a name stands, of names of which none stands twice
pub place_at : (names : List Word) (k : ℕ) → has_twice names ≡ false → k < length names → place_in names (slice_index_or names k []) ≡ k
place_at [] k once there = absurd (omega arith)
place_at (x ∷ xs) zero once there = cond-false (not (bytes_eq x x)) (1 + place_in xs x) 0 (not_from_true (bytes_eq x x) (bytes_same x))
place_at (x ∷ xs) (suc k) once there =
    let word = slice_index_or xs k [] in
    let parts = or_parts (is_in xs x) (has_twice xs) once in
    let differ : bytes_eq x word ≡ false = bytes_back word x (absent_at xs k x parts.0 (omega arith)) in
    let rest : place_in xs word ≡ k = place_at xs k parts.1 (omega arith) in
    let next : 1 + place_in xs word ≡ suc k = omega arith in
    cond-true (not (bytes_eq x word)) (1 + place_in xs word) 0 (not_from_false (bytes_eq x word) differ) ∙ next

-- ---- names by number

-- so many names, each by its number
abbrev pub first_names : (ℕ → Word) → ℕ → List Word
first_names f n = map f (range_with_len 0 n)

pub once_fewer : (f : ℕ → Word) (n k : ℕ) → k ≤ n → has_twice (first_names f n) ≡ false → has_twice (first_names f k) ≡ false
once_fewer f n k fewer once =
    ap has_twice (sym (take-map-range_with_len f 0 n k fewer))
    ∙ (once_parts (take k (first_names f n)) (drop k (first_names f n)) (ap has_twice (take-append-drop k (first_names f n)) ∙ once)).0

name_at : (f : ℕ → Word) (n k : ℕ) → k < n → slice_index_or (first_names f n) k [] ≡ f k
name_at f n k there = get_or-map-range_with_len f 0 n k k [] there (omega arith)

pub name_place : (f : ℕ → Word) (n k : ℕ) → k < n → has_twice (first_names f n) ≡ false → place_in (first_names f n) (f k) ≡ k
name_place f n k there once =
    ap (place_in (first_names f n)) (sym (name_at f n k there)) ∙ place_at (first_names f n) k once (omega (arith, length-map-range_with_len f 0 n))

pub name_in : (f : ℕ → Word) (n k : ℕ) → k < n → is_in (first_names f n) (f k) ≡ true
name_in f n k there =
    ap (is_in (first_names f n)) (sym (name_at f n k there)) ∙ in_at (first_names f n) k (omega (arith, length-map-range_with_len f 0 n))

pub name_free : (f : ℕ → Word) (n k : ℕ) → k < n → list_all is_unreserved (first_names f n) ≡ true → is_unreserved (f k) ≡ true
name_free f n k there all =
    list_all_item is_unreserved (first_names f n) k (f k) all (omega (arith, length-map-range_with_len f 0 n))
    (sym (get_or-map-range_with_len f 0 n k k (f k) there (omega arith)))

pub scalars_once : has_twice (first_names scalar_name 64) ≡ false
unfolding digits
scalars_once = refl

pub scalars_free : list_all is_unreserved (first_names scalar_name 64) ≡ true
unfolding reserved digits
scalars_free = refl

pub arguments_once : has_twice (first_names argument_name 8) ≡ false
unfolding digits
arguments_once = refl

pub arguments_free : list_all is_unreserved (first_names argument_name 8) ≡ true
unfolding reserved digits
arguments_free = refl

-- ---- functions

pub func_back : (f : Func) → func_of (func_name f) ≡ Some f
unfolding func_of functions
func_back func.Set = refl
func_back func.Copy = refl
func_back func.Addc = refl
func_back func.Mulc = refl
func_back func.Add = refl
func_back func.Sub = refl
func_back func.Max = refl
func_back func.Sum = refl
func_back func.Total = refl
func_back func.Count = refl
func_back func.Stencil = refl
func_back func.Keep = refl
func_back func.Group = refl
func_back func.Merge = refl
func_back func.Split = refl

pub func_free : (f : Func) → is_unreserved (func_name f) ≡ true
unfolding reserved
func_free func.Set = refl
func_free func.Copy = refl
func_free func.Addc = refl
func_free func.Mulc = refl
func_free func.Add = refl
func_free func.Sub = refl
func_free func.Max = refl
func_free func.Sum = refl
func_free func.Total = refl
func_free func.Count = refl
func_free func.Stencil = refl
func_free func.Keep = refl
func_free func.Group = refl
func_free func.Merge = refl
func_free func.Split = refl

-- ---- bytes

letter_small : (b : ℕ) → is_ascii_alphabetic b ≡ true → nat_lt b 128 ≡ true
letter_small b is = grind (arith, nat_tests)

byte_small : (b : ℕ) → is_name_byte b ≡ true → nat_lt b 128 ≡ true
byte_small b is = grind (arith, nat_tests)

-- what is no byte of a text becomes a question mark
abbrev shown : ℕ → ℕ
shown b = if nat_lt b 128 then b else 63

bytes_shown : (bytes : List ℕ) → list_all is_name_byte bytes ≡ true → map shown bytes ≡ bytes
bytes_shown [] are = refl
bytes_shown (b ∷ bytes) are =
    let parts = and_parts (is_name_byte b) (list_all is_name_byte bytes) are in
    ap₂ (λ (x : ℕ) (xs : List ℕ). x ∷ xs) (cond-true (nat_lt b 128) b 63 (byte_small b parts.0)) (bytes_shown bytes parts.1)

name_shown : (word : Word) → is_name word ≡ true → ascii_text word ≡ word
name_shown [] is = refl
name_shown (b ∷ bytes) is =
    let parts = and_parts (is_ascii_alphabetic b) (list_all is_name_byte bytes) is in
    ap₂ (λ (x : ℕ) (xs : List ℕ). x ∷ xs) (cond-true (nat_lt b 128) b 63 (letter_small b parts.0)) (bytes_shown bytes parts.1)

free_parts : (word : Word) → is_unreserved word ≡ true → (is_name word ≡ true) × (is_in reserved word ≡ false)
free_parts word free =
    let parts = and_parts (is_short_name word) (not (is_in reserved word)) free in
    ((and_parts (is_name word) (nat_le (length word) 16) parts.0).0, not-true (is_in reserved word) parts.1)

-- a free name has only bytes of a text
pub text_same : (word : Word) → is_unreserved word ≡ true → ascii_text word ≡ word
text_same word free = name_shown word (free_parts word free).0

pub not_reserved : (word : Word) → is_unreserved word ≡ true → is_in reserved word ≡ false
not_reserved word free = (free_parts word free).1

-- ---- scalars and arguments that are few enough

pub scalars_apart : (n : ℕ) → n ≤ 64 → has_twice (first_names scalar_name n) ≡ false
scalars_apart n few = once_fewer scalar_name 64 n few scalars_once

pub scalar_free : (s : ℕ) → s < 64 → is_unreserved (scalar_name s) ≡ true
scalar_free s few = name_free scalar_name 64 s few scalars_free
