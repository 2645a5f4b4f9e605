-- What is written as the text of a part is read as that part.
use Rattle.std.proofs.Common.{◌≡◌, ◌≢◌, ℕ, suc, ◌^◌, ◌<◌, ◌≤◌, ◌==◌, ℤ, pos, negsuc, neg_ℤ, true, false, List, [], ◌∷◌, ◌++◌, length, get_or, drop, map, refl, ◌∙◌, ap, rules, arith, Some, eq-eqb}
use Rattle.std.specs.Option.{option_map}
use Rattle.std.specs.List.{All, flat_map, join_with_byte}
use Rattle.std.specs.Fmt.{decimal, signed_decimal}
use Rattle.std.specs.Str.{all_ascii_digits}
use Rattle.std.specs.Int.{IsInRange}
use Rattle.std.proofs.lemmas.Bool.{ne_eqb}
use Rattle.std.proofs.lemmas.Fmt.{digits_decimal, digits_value-decimal, decimal_nonempty}
use Rattle.std.proofs.lemmas.Str.Parse.{IsNumeralModel, numerals_by_fold, digit_at}
use Rattle.std.proofs.lemmas.List.{append_assoc, length-map, drop_at}
use Rattle.std.proofs.lemmas.List.Elements.{All-cons, All-head, All-tail, All-nil, All-append, All-weaker, All-map, All-from_get_or}
use lib.Signed.{mag}
use Rattle.nim_base.specs.Value.{Grid, IsGrid}
use Rattle.nim_base.specs.Text.{row_text, text_of}
use Rattle.nim_base.specs.ReadBack.{IsInner, IsWord, up_to_newline, words_of, digits_from, natural_of, signed_number_of, numbers_of, number_row, row_lines, header_of, read_part}

abbrev IsEnd : ℕ → Type 0
IsEnd byte = byte ≢ 10

-- a line is read up to its newline
line-read : (line rest : List ℕ) → All IsEnd line → up_to_newline (line ++ 10 ∷ rest) ≡ Some (record { line = line; rest = rest })
line-read [] rest inner = refl
line-read (byte ∷ line) rest inner =
    let no : (byte == 10) ≡ false = ne_eqb byte 10 (All-head IsEnd byte line inner) in
    rw (no, line-read line rest (All-tail IsEnd byte line inner))

-- words with a space between are these words
word-last : (word : List ℕ) → IsWord word → words_of word ≡ word ∷ []
word-last [] inner = refl
word-last (byte ∷ word) inner =
    let no : (byte == 32) ≡ false = ne_eqb byte 32 (All-head IsInner byte word inner).0 in
    rw (no, word-last word (All-tail IsInner byte word inner))

word-next : (word rest : List ℕ) → IsWord word → words_of (word ++ 32 ∷ rest) ≡ word ∷ words_of rest
word-next [] rest inner = refl
word-next (byte ∷ word) rest inner =
    let no : (byte == 32) ≡ false = ne_eqb byte 32 (All-head IsInner byte word inner).0 in
    rw (no, word-next word rest (All-tail IsInner byte word inner))

words-read : (words : List (List ℕ)) → 0 < length words → All IsWord words → words_of (join_with_byte 32 words) ≡ words
words-read [] some inner = absurd (omega arith)
words-read (word ∷ []) some inner = word-last word (All-head IsWord word [] inner)
words-read (word ∷ next ∷ words) some inner =
    word-next word (join_with_byte 32 (next ∷ words)) (All-head IsWord word (next ∷ words) inner)
    ∙ ap (λ (more : List (List ℕ)). word ∷ more) (words-read (next ∷ words) (omega arith) (All-tail IsWord word (next ∷ words) inner))

word-line : (word : List ℕ) → IsWord word → All IsEnd word
word-line word inner = All-weaker IsInner IsEnd (λ byte h. h.1) word inner

words-line : (words : List (List ℕ)) → All IsWord words → All IsEnd (join_with_byte 32 words)
words-line [] inner = All-nil IsEnd
words-line (word ∷ []) inner = word-line word (All-head IsWord word [] inner)
words-line (word ∷ next ∷ words) inner =
    All-append IsEnd word (32 ∷ join_with_byte 32 (next ∷ words)) (word-line word (All-head IsWord word (next ∷ words) inner))
    (All-cons IsEnd 32 (join_with_byte 32 (next ∷ words)) (λ h. omega arith) (words-line (next ∷ words) (All-tail IsWord word (next ∷ words) inner)))

-- decimals
is_numeral_model : IsNumeralModel (λ digits. all_ascii_digits digits ≡ true) (digits_from 0)
is_numeral_model = numerals_by_fold _ (search rules) digits_from (search rules)

digits-word : (digits : List ℕ) → all_ascii_digits digits ≡ true → IsWord digits
digits-word digits are =
    All-from_get_or IsInner digits 0 (λ i low.
    let range : IsInRange 48 57 (get_or digits i 0) = digit_at digits i (is_numeral_model.to digits are) low in
    (λ h. omega (arith, range, h), λ h. omega (arith, range, h)))

natural-digits : (digits : List ℕ) (n : ℕ) → 0 < length digits → all_ascii_digits digits ≡ true → digits_from 0 digits ≡ n → natural_of digits ≡ Some n
natural-digits [] n some are is = absurd (omega arith)
natural-digits (digit ∷ digits) n some are is = rw are (ap Some is)

natural-read : (n : ℕ) → n < 2 ^ 64 → natural_of (decimal n) ≡ Some n
natural-read n fits = natural-digits (decimal n) n (decimal_nonempty n fits) (digits_decimal is_numeral_model n fits)
    (digits_value-decimal is_numeral_model n fits)

natural-word : (n : ℕ) → n < 2 ^ 64 → IsWord (decimal n)
natural-word n fits = digits-word (decimal n) (digits_decimal is_numeral_model n fits)

number-digits : (digits : List ℕ) (n : ℕ) → 0 < length digits → all_ascii_digits digits ≡ true → digits_from 0 digits ≡ n
    → signed_number_of digits ≡ Some (pos n)
number-digits [] n some are is = absurd (omega arith)
number-digits (digit ∷ digits) n some are is =
    let range : IsInRange 48 57 digit = digit_at (digit ∷ digits) 0 (is_numeral_model.to (digit ∷ digits) are) (omega arith) in
    let no : (digit == 45) ≡ false = ne_eqb digit 45 (λ h. omega (arith, range, h)) in
    rw (no, natural-digits (digit ∷ digits) n some are is)

-- what 64 bits can hold
abbrev pub IsSmall : ℤ → Type 0
IsSmall cell = mag cell < 2 ^ 63

number-read : (cell : ℤ) → IsSmall cell → signed_number_of (signed_decimal cell) ≡ Some cell
number-read (pos n) small =
    number-digits (decimal n) n (decimal_nonempty n (omega arith)) (digits_decimal is_numeral_model n (omega arith))
    (digits_value-decimal is_numeral_model n (omega arith))
number-read (negsuc n) small =
    let natural : natural_of (decimal (suc n)) ≡ Some (suc n) = natural-read (suc n) (omega arith) in
    ap (option_map (λ number. neg_ℤ (pos number))) natural

number-word : (cell : ℤ) → IsSmall cell → IsWord (signed_decimal cell)
number-word (pos n) small = natural-word n (omega arith)
number-word (negsuc n) small = All-cons IsInner 45 (decimal (suc n)) (λ h. omega arith, λ h. omega arith) (natural-word (suc n) (omega arith))

-- rows
numbers-read : (row : List ℤ) → All IsSmall row → numbers_of (map signed_decimal row) ≡ Some row
numbers-read [] small = refl
numbers-read (cell ∷ row) small = rw (number-read cell (All-head IsSmall cell row small), numbers-read row (All-tail IsSmall cell row small))

numbers-words : (row : List ℤ) → All IsSmall row → All IsWord (map signed_decimal row)
numbers-words row small = All-map IsWord signed_decimal row (All-weaker IsSmall (λ cell. IsWord (signed_decimal cell)) number-word row small)

row-read : (row : List ℤ) (width : ℕ) → 1 ≤ width → length row ≡ width → All IsSmall row
    → number_row width (join_with_byte 32 (map signed_decimal row)) ≡ Some row
row-read row width wide whole small =
    let some : 0 < length (map signed_decimal row) = omega (arith, length-map row signed_decimal) in
    let even : (length row == width) ≡ true = eq-eqb (length row) width whole in
    rw (words-read (map signed_decimal row) some (numbers-words row small), numbers-read row small, even)

abbrev IsEven : ℕ → List ℤ → Type 0
IsEven width row = length row ≡ width

rows-read : (rows : List (List ℤ)) (width : ℕ) (rest : List ℕ) → 1 ≤ width → All (IsEven width) rows → All (All IsSmall) rows
    → row_lines (length rows) width (flat_map row_text rows ++ rest) ≡ Some (record { rows = rows; rest = rest })
rows-read [] width rest wide even small = refl
rows-read (row ∷ rows) width rest wide even small =
    let line : List ℕ = join_with_byte 32 (map signed_decimal row) in
    let after : List ℕ = flat_map row_text rows ++ rest in
    let begins : flat_map row_text (row ∷ rows) ++ rest ≡ line ++ 10 ∷ after = simp append_assoc in
    let cells : All IsSmall row = All-head (All IsSmall) row rows small in
    let first : up_to_newline (line ++ 10 ∷ after) ≡ Some (record { line = line; rest = after }) =
    line-read line after (words-line (map signed_decimal row) (numbers-words row cells)) in
    let this : number_row width line ≡ Some row = row-read row width wide (All-head (IsEven width) row rows even) cells in
    rw (begins, first, this, rows-read rows width rest wide (All-tail (IsEven width) row rows even) (All-tail (All IsSmall) row rows small))

-- the header
abbrev header_words : List ℕ → ℕ → ℕ → ℕ → List (List ℕ)
header_words name part rows width = name ∷ decimal part ∷ decimal rows ∷ decimal width ∷ []

header-words : (name : List ℕ) (part rows width : ℕ) → IsWord name → part < 2 ^ 64 → rows < 2 ^ 64 → width < 2 ^ 64
    → All IsWord (header_words name part rows width)
header-words name part rows width word p r w =
    All-cons IsWord name (decimal part ∷ decimal rows ∷ decimal width ∷ []) word
    (All-cons IsWord (decimal part) (decimal rows ∷ decimal width ∷ []) (natural-word part p)
    (All-cons IsWord (decimal rows) (decimal width ∷ []) (natural-word rows r)
    (All-cons IsWord (decimal width) [] (natural-word width w) (All-nil IsWord))))

header-read : (name : List ℕ) (part rows width : ℕ) → IsWord name → part < 2 ^ 64 → rows < 2 ^ 64 → width < 2 ^ 64
    → header_of (words_of (join_with_byte 32 (header_words name part rows width))) ≡ Some (record { name = name; part = part; rows = rows; width = width })
header-read name part rows width word p r w =
    rw (
      words-read (header_words name part rows width) (omega arith) (header-words name part rows width word p r w),
      natural-read part p,
      natural-read rows r,
      natural-read width w,
    )

-- the whole part
pub part-read : (name : List ℕ) (part : ℕ) (grid : Grid) (rest : List ℕ) → IsWord name → part < 2 ^ 64 → grid.width < 2 ^ 64 → IsGrid grid
    → All (All IsSmall) grid.rows → read_part (text_of name part grid ++ rest) ≡ Some (record { name = name; part = part; value = grid; rest = rest })
unfolding read_part
part-read name part grid rest word p w shaped small =
    let r : length grid.rows < 2 ^ 64 = omega (arith, shaped.few) in
    let line : List ℕ = join_with_byte 32 (header_words name part (length grid.rows) grid.width) in
    let after : List ℕ = flat_map row_text grid.rows ++ rest in
    let begins : text_of name part grid ++ rest ≡ line ++ 10 ∷ after = simp append_assoc in
    let first : up_to_newline (line ++ 10 ∷ after) ≡ Some (record { line = line; rest = after }) =
    line-read line after (words-line (header_words name part (length grid.rows) grid.width) (header-words name part (length grid.rows) grid.width word p r w))
    in
    rw (begins, first, header-read name part (length grid.rows) grid.width word p r w, rows-read grid.rows grid.width rest shaped.wide shaped.even small)

-- behind what was written before
pub written-read : (before after name : List ℕ) (part : ℕ) (grid : Grid) → after ≡ before ++ text_of name part grid → part < 2 ^ 64 → grid.width < 2 ^ 64
    → IsGrid grid → All (All IsSmall) grid.rows → (rest : List ℕ) → IsWord name
    → read_part (drop (length before) after ++ rest) ≡ Some (record { name = name; part = part; value = grid; rest = rest })
written-read before after name part grid is p w shaped small rest word =
    let text : drop (length before) after ≡ text_of name part grid =
    ap (drop (length before)) is ∙ drop_at before (text_of name part grid) (length before) refl in
    ap (λ (bytes : List ℕ). read_part (bytes ++ rest)) text ∙ part-read name part grid rest word p w shaped small
