-- Words with a space between are read as these words, and decimals as their numbers.
use Rattle.std.proofs.Common.{◌≡◌, ℕ, suc, ◌+◌, ◌*◌, ◌-◌, ◌^◌, ◌<◌, ◌≤◌, ◌==◌, ℤ, pos, negsuc, Bool, true, false, ◌&&◌, List, [], ◌∷◌, ◌++◌, length, take, drop, refl, sym, ◌∙◌, ap, rules, arith, Some}
use Rattle.std.specs.Prelude.{not, nat_le}
use Rattle.std.specs.List.{fold, list_all, prefix_len}
use Rattle.std.specs.Char.{is_ascii_digit}
use Rattle.std.specs.Fmt.{decimal, signed_decimal}
use Rattle.std.specs.Str.{all_ascii_digits}
use Rattle.std.proofs.lemmas.Bool.{and_parts, ne_eqb}
use Rattle.std.proofs.lemmas.Bool.Decides.{nat_tests}
use Rattle.std.proofs.lemmas.Int.{ints}
use Rattle.std.proofs.lemmas.Fmt.{digits_decimal, digits_value-decimal, decimal_nonempty}
use Rattle.std.proofs.lemmas.Str.Parse.{IsNumeralModel, numerals_by_fold}
use Rattle.std.proofs.lemmas.List.{take_at, drop_at}
use Rattle.nim_base.proofs.ReadsBack.{IsSmall}
use Rattle.nim_lex.specs.Bytes.{is_blank, is_newline, is_word_byte}
use Rattle.nim_lex.specs.Numbers.{in_range, decimal_value, signed}
use Rattle.nim_data.specs.Lines.{behind_first_word, bounded, cell, is_bare, is_numeral, unblanked, whole, word}
use Rattle.nim_base.proofs.Lists.{all_weaker}

-- ---- words

-- a byte of a word
abbrev pub is_plain : ℕ → Bool
is_plain b = is_word_byte b && not (is_newline b)

abbrev pub IsPlain : List ℕ → Type 0
IsPlain word = (0 < length word) × (list_all is_plain word ≡ true)

-- nothing is left, or a space comes next
abbrev pub Ends : List ℕ → Type 0
Ends [] = Unit {0}
Ends (b ∷ rest) = b ≡ 32

solid : (b : ℕ) → is_plain b ≡ true → (is_blank b ≡ false) × (is_word_byte b ≡ true)
solid b plain =
    let is : is_word_byte b ≡ true = (and_parts (is_word_byte b) (not (is_newline b)) plain).0 in
    (elim (is_blank b) as (λ t. not t ≡ true → t ≡ false) [ true ↦ λ e. cc | false ↦ λ e. refl ] is, is)

word_len : (w rest : List ℕ) → list_all is_plain w ≡ true → Ends rest → prefix_len is_word_byte (w ++ rest) ≡ length w
word_len [] [] plain ends = refl
word_len [] (b ∷ rest) plain ends = rw ends refl
word_len (b ∷ w) rest plain ends =
    let parts = and_parts (is_plain b) (list_all is_plain w) plain in
    let here : is_word_byte b ≡ true = (solid b parts.0).1 in
    let later : prefix_len is_word_byte (w ++ rest) ≡ length w = word_len w rest parts.1 ends in
    rw here (omega (arith, later))

unblanked_solid : (b : ℕ) (text : List ℕ) → is_blank b ≡ false → unblanked (b ∷ text) ≡ b ∷ text
unblanked_solid b text is = rw is refl

unblanked_space : (text : List ℕ) → unblanked (32 ∷ text) ≡ unblanked text
unblanked_space text =
    let one : 1 + prefix_len is_blank text ≡ suc (prefix_len is_blank text) = omega arith in
    ap (λ (n : ℕ). drop n (32 ∷ text)) one

abbrev word_in : List ℕ → List ℕ
word_in text = take (prefix_len is_word_byte text) text

abbrev behind_in : List ℕ → List ℕ
behind_in text = drop (prefix_len is_word_byte text) text

-- the first word of a line
pub word_first : (w rest : List ℕ) → IsPlain w → Ends rest → word (w ++ rest) ≡ w
unfolding word
word_first [] rest plain ends = absurd (omega arith)
word_first (b ∷ w) rest plain ends =
    let parts = and_parts (is_plain b) (list_all is_plain w) plain.1 in
    ap word_in (unblanked_solid b (w ++ rest) (solid b parts.0).0)
    ∙ ap (λ (n : ℕ). take n (b ∷ (w ++ rest))) (word_len (b ∷ w) rest plain.1 ends)
    ∙ take_at (b ∷ w) rest (length (b ∷ w)) refl

pub behind_first : (w rest : List ℕ) → IsPlain w → Ends rest → behind_first_word (w ++ rest) ≡ rest
unfolding behind_first_word
behind_first [] rest plain ends = absurd (omega arith)
behind_first (b ∷ w) rest plain ends =
    let parts = and_parts (is_plain b) (list_all is_plain w) plain.1 in
    ap behind_in (unblanked_solid b (w ++ rest) (solid b parts.0).0)
    ∙ ap (λ (n : ℕ). drop n (b ∷ (w ++ rest))) (word_len (b ∷ w) rest plain.1 ends)
    ∙ drop_at (b ∷ w) rest (length (b ∷ w)) refl

-- a word behind a space
pub word_next : (w rest : List ℕ) → IsPlain w → Ends rest → word (32 ∷ (w ++ rest)) ≡ w
unfolding word
word_next w rest plain ends = ap word_in (unblanked_space (w ++ rest)) ∙ word_first w rest plain ends

pub behind_next : (w rest : List ℕ) → IsPlain w → Ends rest → behind_first_word (32 ∷ (w ++ rest)) ≡ rest
unfolding behind_first_word
behind_next w rest plain ends = ap behind_in (unblanked_space (w ++ rest)) ∙ behind_first w rest plain ends

pub not_bare : (w rest : List ℕ) → IsPlain w → is_bare (w ++ rest) ≡ false
not_bare [] rest plain = absurd (omega arith)
not_bare (b ∷ w) rest plain =
    let parts = and_parts (is_plain b) (list_all is_plain w) plain.1 in
    rw (solid b parts.0).0 refl

-- ---- numbers

is_numeral_model : IsNumeralModel (λ digits. all_ascii_digits digits ≡ true) (λ digits. decimal_value digits)
is_numeral_model = numerals_by_fold _ (search rules) (λ (before : ℕ) (digits : List ℕ). fold (λ (n digit : ℕ). n * 10 + (digit - 48)) before digits)
    (search rules)

same_digits : (digits : List ℕ) → all_ascii_digits digits ≡ list_all is_ascii_digit digits
same_digits [] = refl
same_digits (digit ∷ digits) = ap (λ (t : Bool). is_ascii_digit digit && t) (same_digits digits)

are_digits : (n : ℕ) → n < 2 ^ 64 → list_all is_ascii_digit (decimal n) ≡ true
are_digits n fits = sym (same_digits (decimal n)) ∙ digits_decimal is_numeral_model n fits

digit_plain : (b : ℕ) → is_ascii_digit b ≡ true → is_plain b ≡ true
digit_plain b digit = grind (arith, nat_tests)

digits_plain : (digits : List ℕ) → list_all is_ascii_digit digits ≡ true → list_all is_plain digits ≡ true
digits_plain digits are = all_weaker is_ascii_digit is_plain digit_plain digits are

pub decimal_plain : (n : ℕ) → n < 2 ^ 64 → IsPlain (decimal n)
decimal_plain n fits = (decimal_nonempty n fits, digits_plain (decimal n) (are_digits n fits))

value : (n : ℕ) → n < 2 ^ 64 → decimal_value (decimal n) ≡ n
value n fits = digits_value-decimal is_numeral_model n fits

some_digits : (digits : List ℕ) → 0 < length digits → list_all is_ascii_digit digits ≡ true → is_numeral digits ≡ true
some_digits [] some are = absurd (omega arith)
some_digits (digit ∷ digits) some are =
    let no : (length (digit ∷ digits) == 0) ≡ false = ne_eqb (length (digit ∷ digits)) 0 (λ h. omega arith) in
    rw no are

pub bounded_read : (most n : ℕ) → n < 2 ^ 64 → n ≤ most → bounded most (decimal n) ≡ Some n
unfolding bounded
bounded_read most n fits small =
    let least : nat_le n most ≡ true = grind (arith, nat_tests) in
    rw (some_digits (decimal n) (decimal_nonempty n fits) (are_digits n fits), value n fits, least) refl

whole_read : (negative : Bool) (n : ℕ) → n < 2 ^ 64 → in_range negative n ≡ true → whole negative (decimal n) ≡ Some (signed negative n)
unfolding whole
whole_read negative n fits small =
    rw (some_digits (decimal n) (decimal_nonempty n fits) (are_digits n fits), value n fits, small) refl

no_sign : (digits : List ℕ) → 0 < length digits → list_all is_ascii_digit digits ≡ true → cell digits ≡ whole false digits
unfolding cell
no_sign [] some are = absurd (omega arith)
no_sign (digit ∷ digits) some are =
    let first : is_ascii_digit digit ≡ true = (and_parts (is_ascii_digit digit) (list_all is_ascii_digit digits) are).0 in
    let no : (digit == 45) ≡ false = grind (arith, nat_tests) in
    rw no refl

pub cell_read : (cell_value : ℤ) → IsSmall cell_value → cell (signed_decimal cell_value) ≡ Some cell_value
unfolding cell
cell_read (pos n) small =
    let fits : n < 2 ^ 64 = omega arith in
    let range : in_range false n ≡ true = grind (arith, nat_tests) in
    no_sign (decimal n) (decimal_nonempty n fits) (are_digits n fits) ∙ whole_read false n fits range
cell_read (negsuc n) small =
    let fits : suc n < 2 ^ 64 = omega arith in
    let range : in_range true (suc n) ≡ true = grind (arith, nat_tests) in
    let below : signed true (suc n) ≡ negsuc n = grind (arith, ints) in
    whole_read true (suc n) fits range ∙ ap Some below

pub cell_plain : (cell_value : ℤ) → IsSmall cell_value → IsPlain (signed_decimal cell_value)
cell_plain (pos n) small = decimal_plain n (omega arith)
cell_plain (negsuc n) small = (omega arith, (decimal_plain (suc n) (omega arith)).1)
