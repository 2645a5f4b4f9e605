-- The text of a part of a variable, as `output` prints it.
use Rattle.std.specs.Prelude.{ℕ, ℤ, List, [], ◌∷◌, ◌++◌, length, map}
use Rattle.std.specs.List.{flat_map, join_with_byte}
use Rattle.std.specs.Fmt.{decimal, signed_decimal}
use Rattle.nim_base.specs.Value.{Grid}

-- the cells as decimals with one space between, and a newline
abbrev pub row_text : List ℤ → List ℕ
row_text row = join_with_byte 32 (map signed_decimal row) ++ 10 ∷ []

-- the name, the part, the number of rows and the width, with one space between, and a newline
abbrev pub header_text : List ℕ → ℕ → Grid → List ℕ
header_text name part grid =
    name ++ 32 ∷ (decimal part ++ 32 ∷ (decimal (length grid.rows) ++ 32 ∷ (decimal grid.width ++ 10 ∷ [])))

-- the header, and then each row
abbrev pub text_of : List ℕ → ℕ → Grid → List ℕ
text_of name part grid = header_text name part grid ++ flat_map row_text grid.rows
