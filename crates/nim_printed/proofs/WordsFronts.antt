-- What stands at the front of a text that begins with a word.
use Rattle.std.proofs.Common.{◌≡◌, ℕ, ◌≤◌, ◌&&◌, ◌||◌, Bool, true, false, List, [], ◌∷◌, ◌++◌, length, map, take, refl, sym, subst, ◌∙◌, ap, arith, None, Some}
use Rattle.std.specs.Prelude.{bytes_eq, codes, nat_le, nat_lt, not, ◌==◌}
use Rattle.std.specs.Char.{is_ascii_alphabetic, is_ascii_digit}
use Rattle.std.specs.List.{list_all, list_any, prefix_len, take_while}
use Rattle.std.proofs.lemmas.Bool.{and_parts, false≢true, le-ltb, leb-true, ne_eqb}
use Rattle.std.proofs.lemmas.List.{take_at}
use Rattle.std.proofs.lemmas.Slice.Eq.{bytes_eq-Decides}
use Rattle.nim_lex.specs.declared.token.TokenKind.{TokenKind}
use Rattle.nim_lex.specs.declared.token.TokenKind.TheVariants.{Name, Number, Sign}
use Rattle.nim_lex.specs.Bytes.{is_blank, is_hash, is_name_byte}
use Rattle.nim_lex.specs.Numbers.{decimal_value}
use Rattle.nim_lex.specs.Pieces.{Front, front_of, piece}
use Rattle.nim_lex.specs.Rules.{broken_by}
use Rattle.nim_lex.specs.Texts.{is_name, is_numeral}
use Rattle.nim_lex.proofs.FrontTexts.{letter_is_name_byte}
use Rattle.nim_lex.proofs.SourceSteps.{is_inner}
use Rattle.nim_printed.specs.Words.{Word, is_short_name, is_sign, is_small_numeral, is_word, kind_of}
use Rattle.nim_printed.proofs.TreeWordKinds.{kind_name, numeral_no_name}
use Rattle.nim_printed.proofs.TreeWordKinds.{digit_no_letter}

-- a token that is a whole word
abbrev pub front_at : Word → TokenKind → Front
front_at word kind = record { len = length word; kind = Some kind }

-- a word has a byte, and begins with neither a comment nor a blank
abbrev pub starts : Word → Bool
starts [] = false
starts (b ∷ rest) = not (is_hash b) && not (is_blank b)

-- A word is a token of this kind where the text ends behind it, or goes on with a space. No rule refuses it.
pub record ReadsAs (word : Word) (sort : TokenKind) : Type 0 where
  pub alone : front_of (word ++ []) ≡ front_at word sort
  pub spaced : (after : List ℕ) → front_of (word ++ 32 ∷ after) ≡ front_at word sort
  pub begun : starts word ≡ true
  pub one_line : list_all is_inner word ≡ true
  pub sound : broken_by (piece 0 (front_at word sort) ∷ []) ≡ None

abbrev pub Reads : Word → Type 0
Reads word = ReadsAs word (kind_of word)

-- ---- bytes

-- a byte that passes isn't one that fails
not_that : (p : ℕ → Bool) (b other : ℕ) → p b ≡ true → p other ≡ false → (b == other) ≡ false
not_that p b other passes fails = ne_eqb b other (λ same. false≢true (sym fails ∙ ap p (sym same) ∙ passes))

weaker : (p q : ℕ → Bool) → ((b : ℕ) → p b ≡ true → q b ≡ true) → (xs : List ℕ) → list_all p xs ≡ true → list_all q xs ≡ true
weaker p q gives [] are = refl
weaker p q gives (x ∷ xs) are =
    let both = and_parts (p x) (list_all p xs) are in
    rw (gives x both.0, weaker p q gives xs both.1) refl

start_from : (p : ℕ → Bool) (b : ℕ) (rest : List ℕ) → p b ≡ true → p 35 ≡ false → p 32 ≡ false → p 9 ≡ false → p 13 ≡ false → starts (b ∷ rest) ≡ true
start_from p b rest passes hash space tab back =
    rw (not_that p b 35 passes hash, not_that p b 32 passes space, not_that p b 9 passes tab, not_that p b 13 passes back) refl

inner_from : (p : ℕ → Bool) → p 10 ≡ false → (b : ℕ) → p b ≡ true → is_inner b ≡ true
inner_from p fails b passes = ap not (not_that p b 10 passes fails)

-- ---- names and numerals

-- what stands behind a run of bytes doesn't go on with it
abbrev Ends : (ℕ → Bool) → List ℕ → Type 0
Ends p [] = Unit {0}
Ends p (b ∷ rest) = p b ≡ false

prefix_all : (p : ℕ → Bool) (xs after : List ℕ) → Ends p after → list_all p xs ≡ true → prefix_len p (xs ++ after) ≡ length xs
prefix_all p [] [] ends are = refl
prefix_all p [] (b ∷ after) ends are = rw ends refl
prefix_all p (x ∷ xs) after ends are =
    let both = and_parts (p x) (list_all p xs) are in
    let later = prefix_all p xs after ends both.1 in
    rw both.0 (omega (arith, later))

name_front : (b : ℕ) (rest after : List ℕ) → is_ascii_alphabetic b ≡ true → list_all is_name_byte rest ≡ true → Ends is_name_byte after
    → front_of (b ∷ rest ++ after) ≡ front_at (b ∷ rest) Name
name_front b rest after letter are ends =
    let all : list_all is_name_byte (b ∷ rest) ≡ true = rw (letter_is_name_byte b letter, are) refl in
    rw (prefix_all is_name_byte (b ∷ rest) after ends all, letter) refl

numeral_front : (b : ℕ) (rest after : List ℕ) → is_ascii_digit b ≡ true → list_all is_ascii_digit rest ≡ true → Ends is_ascii_digit after
    → front_of (b ∷ rest ++ after) ≡ front_at (b ∷ rest) (Number (decimal_value (b ∷ rest)))
numeral_front b rest after digit are ends =
    let all : list_all is_ascii_digit (b ∷ rest) ≡ true = rw (digit, are) refl in
    let long : prefix_len is_ascii_digit (b ∷ rest ++ after) ≡ length (b ∷ rest) = prefix_all is_ascii_digit (b ∷ rest) after ends all in
    let taken : take_while is_ascii_digit (b ∷ rest ++ after) ≡ b ∷ rest =
    ap (λ n. take n (b ∷ rest ++ after)) long ∙ take_at (b ∷ rest) after (length (b ∷ rest)) refl in
    rw (taken, long, digit_no_letter b digit, digit) refl

name_sound : (n : ℕ) → n ≤ 16 → broken_by (piece 0 (record { len = n; kind = Some Name }) ∷ []) ≡ None
unfolding broken_by
name_sound n small = let fits : nat_lt 16 n ≡ false = le-ltb 16 n small in rw fits refl

numeral_sound : (n value : ℕ) → value ≤ 9223372036854775808 → broken_by (piece 0 (record { len = n; kind = Some (Number value) }) ∷ []) ≡ None
unfolding broken_by
numeral_sound n value small =
    let fits : nat_lt 9223372036854775808 value ≡ false = le-ltb 9223372036854775808 value small in rw fits refl

sign_sound : (n : ℕ) → broken_by (piece 0 (record { len = n; kind = Some Sign }) ∷ []) ≡ None
unfolding broken_by
sign_sound n = refl

name_reads : (word : Word) → is_short_name word ≡ true → Reads word
name_reads [] named = absurd (false≢true named)
name_reads (b ∷ rest) named =
    let parts = and_parts (is_name (b ∷ rest)) (nat_le (length (b ∷ rest)) 16) named in
    let bytes = and_parts (is_ascii_alphabetic b) (list_all is_name_byte rest) parts.0 in
    let read : ReadsAs (b ∷ rest) Name = record {
      alone = name_front b rest [] bytes.0 bytes.1 tt;
      spaced = λ after. name_front b rest (32 ∷ after) bytes.0 bytes.1 refl;
      begun = start_from is_ascii_alphabetic b rest bytes.0 refl refl refl refl;
      one_line = weaker is_name_byte is_inner (inner_from is_name_byte refl) (b ∷ rest) (rw (letter_is_name_byte b bytes.0, bytes.1) refl);
      sound = name_sound (length (b ∷ rest)) (leb-true (length (b ∷ rest)) 16 parts.1);
    } in
    subst (ReadsAs (b ∷ rest)) (sym (kind_name (b ∷ rest) parts.0)) read

kind_numeral : (word : Word) → is_numeral word ≡ true → kind_of word ≡ Number (decimal_value word)
kind_numeral word numeral = rw (numeral_no_name word numeral, numeral) refl

numeral_reads : (word : Word) → is_small_numeral word ≡ true → Reads word
numeral_reads [] numeral = absurd (false≢true numeral)
numeral_reads (b ∷ rest) numeral =
    let value : ℕ = decimal_value (b ∷ rest) in
    let parts = and_parts (is_numeral (b ∷ rest)) (nat_le value 9223372036854775808) numeral in
    let bytes = and_parts (is_ascii_digit b) (list_all is_ascii_digit rest) parts.0 in
    let read : ReadsAs (b ∷ rest) (Number value) = record {
      alone = numeral_front b rest [] bytes.0 bytes.1 tt;
      spaced = λ after. numeral_front b rest (32 ∷ after) bytes.0 bytes.1 refl;
      begun = start_from is_ascii_digit b rest bytes.0 refl refl refl refl;
      one_line = weaker is_ascii_digit is_inner (inner_from is_ascii_digit refl) (b ∷ rest) parts.0;
      sound = numeral_sound (length (b ∷ rest)) value (leb-true value 9223372036854775808 parts.1);
    } in
    subst (ReadsAs (b ∷ rest)) (sym (kind_numeral (b ∷ rest) parts.0)) read

-- ---- signs

-- a word, and that it is read
record Known : Type 0 where
  word : Word
  reads : Reads word

found : (word : Word) (all : List Known) → list_any (bytes_eq word) (map (λ (one : Known). one.word) all) ≡ true → Reads word
found word [] any = absurd (false≢true any)
found word (one ∷ all) any =
    elim (bytes_eq word one.word) as (λ t. bytes_eq word one.word ≡ t → (t || list_any (bytes_eq word) (map (λ (other : Known). other.word) all)) ≡ true
    → Reads word) [
      | true ↦ λ same h. subst Reads (sym ((bytes_eq-Decides word one.word).0 same)) one.reads
      | false ↦ λ apart h. found word all h
    ] refl any

sign : (word : Word) → kind_of word ≡ Sign → front_of (word ++ []) ≡ front_at word Sign
    → ((after : List ℕ) → front_of (word ++ 32 ∷ after) ≡ front_at word Sign)
    → (starts word && list_all is_inner word) ≡ true → Known
sign word is_kind alone spaced plain =
    let both = and_parts (starts word) (list_all is_inner word) plain in
    let read : ReadsAs word Sign = record { alone = alone; spaced = spaced; begun = both.0; one_line = both.1; sound = sign_sound (length word) } in
    record { word = word; reads = subst (ReadsAs word) (sym is_kind) read }

abbrev known : List Known
known =
    sign (codes "<=") refl refl (λ after. refl) refl
    ∷ sign (codes ">=") refl refl (λ after. refl) refl
    ∷ sign (codes "!=") refl refl (λ after. refl) refl
    ∷ sign (codes "->") refl refl (λ after. refl) refl
    ∷ sign (codes "[") refl refl (λ after. refl) refl
    ∷ sign (codes "]") refl refl (λ after. refl) refl
    ∷ sign (codes "(") refl refl (λ after. refl) refl
    ∷ sign (codes ")") refl refl (λ after. refl) refl
    ∷ sign (codes ",") refl refl (λ after. refl) refl
    ∷ sign (codes "+") refl refl (λ after. refl) refl
    ∷ sign (codes "-") refl refl (λ after. refl) refl
    ∷ sign (codes "*") refl refl (λ after. refl) refl
    ∷ sign (codes "/") refl refl (λ after. refl) refl
    ∷ sign (codes "%") refl refl (λ after. refl) refl
    ∷ sign (codes "=") refl refl (λ after. refl) refl
    ∷ sign (codes "<") refl refl (λ after. refl) refl
    ∷ sign (codes ">") refl refl (λ after. refl) refl
    ∷ []

sign_read : (word : Word) → is_sign word ≡ true → Reads word
unfolding sign
sign_read word is = found word known is

-- ---- words

one_of_three : (P : Type 0) (a b c : Bool) → (a ≡ true → P) → (b ≡ true → P) → (c ≡ true → P) → ((a || b) || c) ≡ true → P
one_of_three P true b c f g h e = f refl
one_of_three P false true c f g h e = g refl
one_of_three P false false true f g h e = h refl
one_of_three P false false false f g h e = absurd (false≢true e)

pub word_reads : (word : Word) → is_word word ≡ true → Reads word
word_reads word is =
    one_of_three (Reads word) (is_short_name word) (is_small_numeral word) (is_sign word)
    (name_reads word) (numeral_reads word) (sign_read word) is
