-- A line cut into its tokens and the bytes where no token begins.
use Rattle.std.specs.Prelude.{ℕ, zero, suc, ◌+◌, ◌-◌, ◌==◌, nat_eq, if◌then◌else◌, List, [], ◌∷◌, length, codes, Option, None, Some}
use Rattle.std.specs.List.{find, prefix_len, starts_with, take_while}
use Rattle.std.specs.Char.{is_ascii_alphabetic, is_ascii_digit}
use Rattle.nim_lex.specs.declared.token.TokenKind.{TokenKind}
use Rattle.nim_lex.specs.declared.token.TokenKind.TheVariants.{Name, Number, Sign}
use Rattle.nim_lex.specs.Bytes.{is_blank, is_hash, is_name_byte}
use Rattle.nim_lex.specs.Numbers.{decimal_value}

-- the signs, the longest first
abbrev pub signs : List (List ℕ)
signs =
    codes "<=" ∷ codes ">=" ∷ codes "!=" ∷ codes "->"
    ∷ codes "[" ∷ codes "]" ∷ codes "(" ∷ codes ")" ∷ codes ","
    ∷ codes "+" ∷ codes "-" ∷ codes "*" ∷ codes "/" ∷ codes "%"
    ∷ codes "=" ∷ codes "<" ∷ codes ">" ∷ []

-- What stands at the front of a text: so many bytes, and which token they are. No kind: no token begins there.
pub record Front : Type 0 where
  pub len : ℕ
  pub kind : Option TokenKind

-- how many bytes a text has, 0 where there is none
abbrev pub found_length : Option (List ℕ) → ℕ
found_length None = 0
found_length (Some text) = length text

-- how many bytes the sign at the front has, 0 where there is none
abbrev pub sign_length : List ℕ → ℕ
sign_length text = found_length (find (starts_with nat_eq text) signs)

-- the longest token at the front: a name begins with a letter, a number is digits
abbrev pub front_of : List ℕ → Front
front_of [] = record { len = 1; kind = None }
front_of (b ∷ rest) =
    if is_ascii_alphabetic b then record { len = prefix_len is_name_byte (b ∷ rest); kind = Some Name }
    else (if is_ascii_digit b then record {
      len = prefix_len is_ascii_digit (b ∷ rest);
      kind =
          Some (Number (decimal_value (take_while is_ascii_digit (b ∷ rest))));
    }
    else (if sign_length (b ∷ rest) == 0 then record { len = 1; kind = None }
    else record { len = sign_length (b ∷ rest); kind = Some Sign }))

-- a piece of a line, and where it begins in the source
pub record Piece : Type 0 where
  pub at : ℕ
  pub len : ℕ
  pub kind : Option TokenKind

-- the piece at a place
abbrev pub piece : ℕ → Front → Piece
piece at front = record { at = at; len = front.len; kind = front.kind }

-- The pieces of the bytes of a line from a place on; the first `inside` of them belong to the piece before.
-- Blanks stand between pieces, and a comment goes to the end of the line.
abbrev pub pieces : ℕ → ℕ → List ℕ → List Piece
pieces at inside [] = []
pieces at (suc inside) (b ∷ rest) = pieces (at + 1) inside rest
pieces at zero (b ∷ rest) =
    if is_hash b then []
    else (if is_blank b then pieces (at + 1) zero rest
    else (piece at (front_of (b ∷ rest)) ∷ pieces (at + 1) ((front_of (b ∷ rest)).len - 1) rest))
