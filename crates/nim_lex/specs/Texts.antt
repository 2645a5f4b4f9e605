-- What the text of each token is, and how the tokens lie in the source.
use Rattle.std.specs.Prelude.{◌≡◌, ℕ, ◌+◌, ◌≤◌, ◌&&◌, Bool, false, true, List, [], ◌∷◌, take, drop, Contains}
use Rattle.std.specs.List.{list_all}
use Rattle.std.specs.Char.{is_ascii_alphabetic, is_ascii_digit}
use Rattle.nim_lex.specs.declared.token.Token.{Token}
use Rattle.nim_lex.specs.declared.token.TokenKind.{TokenKind}
use Rattle.nim_lex.specs.declared.token.TokenKind.TheVariants.{Name, Number, Sign}
use Rattle.nim_lex.specs.Bytes.{is_name_byte}
use Rattle.nim_lex.specs.Numbers.{decimal_value}
use Rattle.nim_lex.specs.Pieces.{signs}

-- the bytes of a token
abbrev pub token_text : List ℕ → Token → List ℕ
token_text source t = take t.len (drop t.at source)

-- a letter followed by letters, digits and underscores
abbrev pub is_name : List ℕ → Bool
is_name [] = false
is_name (b ∷ rest) = is_ascii_alphabetic b && list_all is_name_byte rest

-- one digit or more
abbrev pub is_numeral : List ℕ → Bool
is_numeral [] = false
is_numeral (b ∷ rest) = is_ascii_digit b && list_all is_ascii_digit rest

-- a text is of its kind, and a number is the value of its digits
abbrev pub IsOfKind : TokenKind → List ℕ → Type 0
IsOfKind Name text = is_name text ≡ true
IsOfKind (Number value) text = (is_numeral text ≡ true) × (value ≡ decimal_value text)
IsOfKind Sign text = Contains signs text

-- the bytes of a token are what its kind says
abbrev pub HasItsText : List ℕ → Token → Type 0
HasItsText source t = IsOfKind t.kind (token_text source t)

-- tokens between two places: each ends before the next begins
abbrev pub InOrder : ℕ → ℕ → List Token → Type 0
InOrder from end [] = from ≤ end
InOrder from end (t ∷ ts) = (from ≤ t.at) × InOrder (t.at + t.len) end ts
