-- The lines of a data file: their words, and the numbers that they write.
use Rattle.std.specs.Prelude.{ℕ, zero, suc, ◌==◌, nat_le, nat_lt, ◌&&◌, not, Bool, true, false, if◌then◌else◌, List, [], ◌∷◌, ◌++◌, length, take, drop, slice_index, ℤ, Option, None, Some}
use Rattle.std.specs.List.{list_all, prefix_len}
use Rattle.std.specs.Char.{is_ascii_alphabetic, is_ascii_digit}
use Rattle.nim_lex.specs.Bytes.{is_blank, is_name_byte, is_word_byte}
use Rattle.nim_lex.specs.Numbers.{in_range, decimal_value, signed}
use Rattle.nim_data.specs.declared.lines.Header.{Header}

-- a text from its first word on
abbrev pub unblanked : List ℕ → List ℕ
unblanked text = drop (prefix_len is_blank text) text

-- the first word of a text, without bytes where there is none
unfoldable pub word : List ℕ → List ℕ
word text = take (prefix_len is_word_byte (unblanked text)) (unblanked text)

-- the text behind its first word
unfoldable pub behind_first_word : List ℕ → List ℕ
behind_first_word text = drop (prefix_len is_word_byte (unblanked text)) (unblanked text)

-- a text without words
abbrev pub is_bare : List ℕ → Bool
is_bare text = list_all is_blank text

-- what is read next, from what was read before; nothing where nothing was
abbrev pub then_read : {A B : Type 0} → Option A → (A → Option B) → Option B
then_read None f = None
then_read (Some x) f = f x

-- one digit or more
abbrev pub is_numeral : List ℕ → Bool
is_numeral text = not (length text == 0) && list_all is_ascii_digit text

-- digits, of a number that is at most this
unfoldable pub bounded : ℕ → List ℕ → Option ℕ
bounded most digits = if is_numeral digits && nat_le (decimal_value digits) most then Some
    (decimal_value digits) else None

-- digits behind a sign, of a number in the range
unfoldable pub whole : Bool → List ℕ → Option ℤ
whole negative digits = if is_numeral digits && in_range negative (decimal_value digits)
    then Some (signed negative (decimal_value digits)) else None

-- an optional `-` directly followed by digits
unfoldable pub cell : List ℕ → Option ℤ
cell [] = None
cell (b ∷ rest) = if b == 45 then whole true rest else whole false (b ∷ rest)

-- so many cells, and no word behind them
unfoldable pub cells_from : ℕ → List ℤ → List ℕ → Option (List ℤ)
cells_from zero found text = if is_bare text then Some found else None
cells_from (suc n) found text = then_read (cell (word text))
    (λ x. cells_from n (found ++ x ∷ []) (behind_first_word text))

-- a row of a width
abbrev pub row : ℕ → List ℕ → Option (List ℤ)
row width text = cells_from width [] text

-- a name of at most 16 bytes: a letter, then letters, digits and underscores
unfoldable pub is_short_name : List ℕ → Bool
is_short_name text = (nat_le (length text) 16 && is_ascii_alphabetic (slice_index text 0)) && list_all is_name_byte text

-- a header of these words and numbers, where the name is one, the width is 1 or more, and no word is left
abbrev pub header_from : List ℕ → List ℕ → ℕ → ℕ → ℕ → Option Header
header_from name rest part rows width =
    if is_short_name name && (nat_lt 0 width && is_bare rest)
    then Some (record { name = name; part = part; rows = rows; width = width }) else None

-- NAME PART ROWS WIDTH, and no word behind them
unfoldable pub header : List ℕ → Option Header
header text =
    then_read (bounded 63 (word (behind_first_word text))) (λ part.
    then_read (bounded 65536 (word (behind_first_word (behind_first_word text)))) (λ rows.
    then_read (bounded 65536 (word (behind_first_word (behind_first_word (behind_first_word text))))) (λ width.
    header_from (word text)
    (behind_first_word (behind_first_word (behind_first_word (behind_first_word text)))) part rows width)))
