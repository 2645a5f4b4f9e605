-- How the text of a part is read, whatever wrote it.
use Rattle.std.specs.Prelude.{◌≢◌, ℕ, zero, suc, ◌+◌, ◌-◌, ◌*◌, ℤ, pos, neg_ℤ, List, [], ◌∷◌, ◌==◌, if◌then◌else◌, length, Option, Some, None, All}
use Rattle.std.specs.Option.{option_map, option_and_then}
use Rattle.std.specs.Str.{all_ascii_digits}
use Rattle.nim_base.specs.Value.{Grid}

-- no byte of a word is a space or a newline
abbrev pub IsInner : ℕ → Type 0
IsInner byte = (byte ≢ 32) × (byte ≢ 10)

-- bytes without a space and without a newline
abbrev pub IsWord : List ℕ → Type 0
IsWord word = All IsInner word

-- the bytes before the first newline, and those behind it
pub record LineRead : Type 0 where
  pub line : List ℕ
  pub rest : List ℕ

-- there is none where there is no newline
abbrev pub up_to_newline : List ℕ → Option LineRead
up_to_newline [] = None
up_to_newline (byte ∷ bytes) = if byte == 10 then Some (record { line = []; rest = bytes })
    else option_map (λ (found : LineRead). record found { line = byte ∷ found.line }) (up_to_newline bytes)

-- a byte before the first word
abbrev pub in_front : ℕ → List (List ℕ) → List (List ℕ)
in_front byte [] = (byte ∷ []) ∷ []
in_front byte (word ∷ words) = (byte ∷ word) ∷ words

-- the words of a line, which is cut at each space
abbrev pub words_of : List ℕ → List (List ℕ)
words_of [] = [] ∷ []
words_of (byte ∷ bytes) = if byte == 32 then [] ∷ words_of bytes else in_front byte (words_of bytes)

-- the number that digits stand for, behind those that were read
abbrev pub digits_from : ℕ → List ℕ → ℕ
digits_from before [] = before
digits_from before (digit ∷ digits) = digits_from (10 * before + (digit - 48)) digits

-- a word of one digit or more
abbrev pub natural_of : List ℕ → Option ℕ
natural_of [] = None
natural_of (digit ∷ digits) = if all_ascii_digits (digit ∷ digits) then Some (digits_from 0 (digit ∷ digits)) else None

-- with `-` before it, a number below 0
abbrev pub signed_number_of : List ℕ → Option ℤ
signed_number_of [] = None
signed_number_of (byte ∷ bytes) = if byte == 45 then option_map (λ number. neg_ℤ (pos number)) (natural_of bytes)
    else option_map pos (natural_of (byte ∷ bytes))

-- every word a number
abbrev pub numbers_of : List (List ℕ) → Option (List ℤ)
numbers_of [] = Some []
numbers_of (word ∷ words) =
    option_and_then (λ number. option_map (λ numbers. number ∷ numbers) (numbers_of words)) (signed_number_of word)

-- a line of just so many numbers
abbrev pub number_row : ℕ → List ℕ → Option (List ℤ)
number_row width line =
    option_and_then (λ numbers. if length numbers == width then Some numbers else None) (numbers_of (words_of line))

-- rows, and the bytes behind them
pub record RowLines : Type 0 where
  pub rows : List (List ℤ)
  pub rest : List ℕ

-- so many lines, each a row
abbrev pub row_lines : ℕ → ℕ → List ℕ → Option RowLines
row_lines zero width bytes = Some (record { rows = []; rest = bytes })
row_lines (suc n) width bytes =
    option_and_then
    (λ first. option_and_then (λ row. option_map (λ (more : RowLines). record more { rows = row ∷ more.rows })
    (row_lines n width first.rest)) (number_row width first.line))
    (up_to_newline bytes)

-- what the first line of a part says: the variable's name, the part's number, and how many rows of how many cells
pub record Header : Type 0 where
  pub name : List ℕ
  pub part : ℕ
  pub rows : ℕ
  pub width : ℕ

-- four words: a name, and three numbers
abbrev pub header_of : List (List ℕ) → Option Header
header_of (name ∷ part ∷ rows ∷ width ∷ []) =
    option_and_then
    (λ p. option_and_then (λ r. option_map (λ w. record { name = name; part = p; rows = r; width = w })
    (natural_of width)) (natural_of rows))
    (natural_of part)
header_of _ = None

-- a part of a variable, and the bytes behind it
pub record PartRead : Type 0 where
  pub name : List ℕ
  pub part : ℕ
  pub value : Grid
  pub rest : List ℕ

-- a header, and as many rows as it says
unfoldable pub read_part : List ℕ → Option PartRead
read_part bytes =
    option_and_then
    (λ first. option_and_then
    (λ header. option_map
    (λ read. record {
      name = header.name;
      part = header.part;
      value =
          record { width = header.width; rows = read.rows };
      rest = read.rest;
    })
    (row_lines header.rows header.width first.rest))
    (header_of (words_of first.line)))
    (up_to_newline bytes)
