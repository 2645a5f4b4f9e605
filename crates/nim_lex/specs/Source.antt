-- The lines and tokens of a text, and the first refused line.
use Rattle.std.specs.Prelude.{ℕ, ◌+◌, if◌then◌else◌, List, [], ◌∷◌, length, Option, None, Some}
use Rattle.std.specs.List.{filter_map, flat_map}
use Rattle.std.specs.Option.{option_map, option_or}
use Rattle.nim_lex.specs.declared.fault.Refusal.{Refusal}
use Rattle.nim_lex.specs.declared.token.Token.{Token}
use Rattle.nim_lex.specs.Bytes.{is_newline}
use Rattle.nim_lex.specs.Pieces.{Piece, pieces}
use Rattle.nim_lex.specs.Refusals.{refused}
use Rattle.nim_lex.specs.Rules.{broken_by, is_too_long}

-- a byte before the first of some lines
abbrev pub before_lines : ℕ → List (List ℕ) → List (List ℕ)
before_lines b [] = (b ∷ []) ∷ []
before_lines b (line ∷ lines) = (b ∷ line) ∷ lines

-- a text cut at its newlines: the last piece is one only if it isn't empty
abbrev pub cut : List ℕ → List (List ℕ)
cut [] = []
cut (b ∷ rest) = if is_newline b then [] ∷ cut rest else before_lines b (cut rest)

-- how many lines a text has
abbrev pub line_count : List ℕ → ℕ
line_count source = length (cut source)

-- a line: its number, where it begins in the source, and its bytes without the newline
pub record Line : Type 0 where
  pub number : ℕ
  pub at : ℕ
  pub bytes : List ℕ

-- the line with a number, at a place
abbrev pub line_at : ℕ → ℕ → List ℕ → Line
line_at number at bytes = record { number = number; at = at; bytes = bytes }

-- the lines that follow in the source, the first with this number and at this place
abbrev pub numbered_lines : ℕ → ℕ → List (List ℕ) → List Line
numbered_lines number at [] = []
numbered_lines number at (bytes ∷ rest) =
    line_at number at bytes ∷ numbered_lines (number + 1) (at + length bytes + 1) rest

-- the lines of a driver: their numbers count from 1
abbrev pub lines_of : List ℕ → List Line
lines_of bytes = numbered_lines 1 0 (cut bytes)

-- the pieces of a line
abbrev pub pieces_of : Line → List Piece
pieces_of line = pieces line.at 0 line.bytes

-- the token of a line that a piece is
abbrev pub token_of : ℕ → Piece → Option Token
token_of number p = option_map (λ kind. record { line = number; at = p.at; len = p.len; kind = kind }) p.kind

-- the tokens of a line
abbrev pub line_tokens : Line → List Token
line_tokens line = filter_map (token_of line.number) (pieces_of line)

-- the tokens of a driver
abbrev pub tokens_of : List ℕ → List Token
tokens_of bytes = flat_map line_tokens (lines_of bytes)

-- the first of the lines that breaks a rule, and the smallest that it breaks
abbrev pub first_refusal : List Line → Option Refusal
first_refusal [] = None
first_refusal (line ∷ lines) =
    option_or (refused line.number (broken_by (pieces_of line))) (first_refusal lines)

-- why a driver is refused, if it is
abbrev pub token_refusal : List ℕ → Option Refusal
token_refusal bytes =
    if is_too_long bytes then Some (record { line = 0; rule = 1 }) else first_refusal (lines_of bytes)
