-- Which words are names, numerals and signs, and where words differ.
use Rattle.std.proofs.Common.{◌≡◌, ℕ, suc, ◌+◌, ◌-◌, ◌*◌, ◌%◌, ◌^◌, ◌<◌, ◌≤◌, Bool, true, false, List, [], ◌∷◌, ◌++◌, refl, sym, ◌∙◌, ap, arith}
use Rattle.std.specs.Prelude.{bytes_eq, nat_le, decimal}
use Rattle.std.specs.Char.{is_ascii_alphabetic, is_ascii_digit}
use Rattle.std.specs.List.{fold, list_all}
use Rattle.std.proofs.lemmas.Bool.{and_parts, leb-true, le-leb, false_from_ne_true, false≢true}
use Rattle.std.proofs.lemmas.Fmt.{decimal_by_steps}
use Rattle.std.proofs.lemmas.List.Folds.{list_all-append}
use Rattle.std.proofs.lemmas.Slice.Eq.{bytes_eq-Decides}
use Rattle.std.proofs.lemmas.Bool.Decides.{nat_tests}
use Rattle.nim_lex.specs.declared.token.TokenKind.TheVariants.{Name, Number}
use Rattle.nim_lex.specs.Numbers.{decimal_value}
use Rattle.nim_lex.specs.Texts.{is_name, is_numeral}
use Rattle.nim_printed.specs.Spelled.{is_unreserved, is_small}
use Rattle.nim_printed.specs.Words.{Word, is_short_name, is_small_numeral, kind_of}

pub bytes_same : (word : Word) → bytes_eq word word ≡ true
bytes_same word = (bytes_eq-Decides word word).1 refl

-- words that a test tells apart differ
pub differ : (test : Word → Bool) (word text : Word) → test word ≡ true → test text ≡ false → bytes_eq word text ≡ false
differ test word text passes fails =
    false_from_ne_true (bytes_eq word text)
    (λ same. false≢true (sym fails ∙ ap test (sym ((bytes_eq-Decides word text).0 same)) ∙ passes))

-- ---- free names

pub free_short : (word : Word) → is_unreserved word ≡ true → is_short_name word ≡ true
free_short word free = (and_parts (is_short_name word) _ free).0

pub free_name : (word : Word) → is_unreserved word ≡ true → is_name word ≡ true
free_name word free = (and_parts (is_name word) _ (free_short word free)).0

pub kind_name : (word : Word) → is_name word ≡ true → kind_of word ≡ Name
kind_name word named = rw named refl

-- ---- numerals

abbrev IsNumeralOf : ℕ → List ℕ → Type 0
IsNumeralOf n digits = (is_numeral digits ≡ true) × (decimal_value digits ≡ n)

one_digit : (n : ℕ) → n < 10 → is_ascii_digit (48 + n) ≡ true
one_digit n small = grind (arith, nat_tests)

fold_append : (f : ℕ → ℕ → ℕ) (a : ℕ) (xs ys : List ℕ) → fold f a (xs ++ ys) ≡ fold f (fold f a xs) ys
fold_append f a [] ys = refl
fold_append f a (x ∷ xs) ys = fold_append f (f a x) xs ys

longer_numeral : (digits : List ℕ) (digit : ℕ) → is_numeral digits ≡ true → is_ascii_digit digit ≡ true → is_numeral (digits ++ digit ∷ []) ≡ true
longer_numeral [] digit are is = absurd (false≢true are)
longer_numeral (d ∷ digits) digit are is =
    let both = and_parts (is_ascii_digit d) (list_all is_ascii_digit digits) are in
    rw (both.0, list_all-append is_ascii_digit digits (digit ∷ []), both.1, is) refl

decimal_numeral : (n : ℕ) → n < 2 ^ 64 → IsNumeralOf n (decimal n)
decimal_numeral n fits =
    decimal_by_steps IsNumeralOf
    (λ m small. (rw (one_digit m small) refl, omega arith))
    (λ m digits big before. (
      longer_numeral digits (48 + m % 10) before.0 (one_digit (m % 10) (omega arith)),
      fold_append (λ k digit. k * 10 + (digit - 48)) 0 digits ((48 + m % 10) ∷ []) ∙ omega (arith, before.1),
    ))
    n fits

pub small_bound : (n : ℕ) → is_small n ≡ true → n ≤ 9223372036854775808
small_bound n small = leb-true n 9223372036854775808 small

pub decimal_is_numeral : (n : ℕ) → is_small n ≡ true → is_numeral (decimal n) ≡ true
decimal_is_numeral n small = let bound = small_bound n small in (decimal_numeral n (omega arith)).0

pub decimal_number : (n : ℕ) → is_small n ≡ true → decimal_value (decimal n) ≡ n
decimal_number n small = let bound = small_bound n small in (decimal_numeral n (omega arith)).1

pub decimal_is_small : (n : ℕ) → is_small n ≡ true → is_small_numeral (decimal n) ≡ true
decimal_is_small n small = rw (decimal_is_numeral n small, decimal_number n small) small

pub digit_no_letter : (b : ℕ) → is_ascii_digit b ≡ true → is_ascii_alphabetic b ≡ false
digit_no_letter b digit = grind (arith, nat_tests)

pub numeral_no_name : (word : Word) → is_numeral word ≡ true → is_name word ≡ false
numeral_no_name [] are = refl
numeral_no_name (b ∷ rest) are = rw (digit_no_letter b (and_parts (is_ascii_digit b) _ are).0) refl

pub kind_decimal : (n : ℕ) → is_small n ≡ true → kind_of (decimal n) ≡ Number n
kind_decimal n small =
    let numeral = decimal_is_numeral n small in
    rw (numeral_no_name (decimal n) numeral, numeral, decimal_number n small) refl

-- a number is no word that isn't one
pub decimal_differs : (n : ℕ) (text : Word) → is_small n ≡ true → is_numeral text ≡ false → bytes_eq (decimal n) text ≡ false
decimal_differs n text small other = differ is_numeral (decimal n) text (decimal_is_numeral n small) other

-- ints
pub small_enough : (n : ℕ) → nat_le n 9223372036854775807 ≡ true → is_small n ≡ true
small_enough n small = let bound = leb-true n 9223372036854775807 small in le-leb n 9223372036854775808 (omega arith)

pub one_more_small : (n : ℕ) → nat_le n 9223372036854775807 ≡ true → is_small (suc n) ≡ true
one_more_small n small = let bound = leb-true n 9223372036854775807 small in le-leb (suc n) 9223372036854775808 (omega arith)
