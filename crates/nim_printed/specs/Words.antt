-- Words that are read back as one token each, and the tokens of a text of such words.
use Rattle.std.specs.Prelude.{ℕ, ◌+◌, Bool, ◌&&◌, ◌||◌, nat_le, if◌then◌else◌, List, [], ◌∷◌, ◌++◌, length, bytes_eq}
use Rattle.std.specs.List.{flat_map, list_any}
use Rattle.nim_lex.specs.declared.token.Token.{Token}
use Rattle.nim_lex.specs.declared.token.TokenKind.{TokenKind}
use Rattle.nim_lex.specs.declared.token.TokenKind.TheVariants.{Name, Number, Sign}
use Rattle.nim_lex.specs.Numbers.{decimal_value}
use Rattle.nim_lex.specs.Pieces.{signs}
use Rattle.nim_lex.specs.Texts.{is_name, is_numeral}

-- a word is its bytes
abbrev pub Word : Type 0
Word = List ℕ

-- a name of at most 16 bytes
abbrev pub is_short_name : Word → Bool
is_short_name word = is_name word && nat_le (length word) 16

-- a number that isn't too great
abbrev pub is_small_numeral : Word → Bool
is_small_numeral word = is_numeral word && nat_le (decimal_value word) 9223372036854775808

-- one of the signs of the language
abbrev pub is_sign : Word → Bool
is_sign word = list_any (bytes_eq word) signs

-- a name, a number or a sign, as tokens may be
abbrev pub is_word : Word → Bool
is_word word = is_short_name word || is_small_numeral word || is_sign word

-- ---- text

-- words with a space between them, and a newline at the end
abbrev pub line_text : List Word → List ℕ
line_text [] = 10 ∷ []
line_text (word ∷ []) = word ++ 10 ∷ []
line_text (word ∷ more ∷ words) = word ++ 32 ∷ line_text (more ∷ words)

-- lines of words, each with a newline at its end
abbrev pub lines_text : List (List Word) → List ℕ
lines_text lines = flat_map line_text lines

-- ---- tokens

-- a name, a number with its value, or else a sign
abbrev pub kind_of : Word → TokenKind
kind_of word = if is_name word then Name else if is_numeral word then Number (decimal_value word) else Sign

-- the tokens of the words of a line of this number, the first of them at a place
abbrev pub line_tokens_of : ℕ → ℕ → List Word → List Token
line_tokens_of line at [] = []
line_tokens_of line at (word ∷ words) =
    record { line = line; at = at; len = length word; kind = kind_of word }
    ∷ line_tokens_of line (at + length word + 1) words

-- the tokens of lines, the first of them of this number and at this place
abbrev pub lines_tokens_of : ℕ → ℕ → List (List Word) → List Token
lines_tokens_of line at [] = []
lines_tokens_of line at (words ∷ lines) =
    line_tokens_of line at words ++ lines_tokens_of (line + 1) (at + length (line_text words)) lines
