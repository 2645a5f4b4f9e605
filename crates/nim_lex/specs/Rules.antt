-- The rules that refuse a driver's text, by number.
use Rattle.std.specs.Prelude.{ℕ, nat_lt, if◌then◌else◌, Bool, true, false, List, [], ◌∷◌, length, min, Option, None, Some}
use Rattle.std.specs.List.{list_any}
use Rattle.nim_lex.specs.declared.token.TokenKind.{TokenKind}
use Rattle.nim_lex.specs.declared.token.TokenKind.TheVariants.{Name, Number}
use Rattle.nim_lex.specs.Pieces.{Piece, front_of, piece}

-- the driver has more than 1,048,576 bytes
abbrev pub is_too_long : List ℕ → Bool
is_too_long bytes = nat_lt 1048576 (length bytes)

-- no token begins here
abbrev pub is_stray : Piece → Bool
is_stray p = stray_kind p.kind where
  stray_kind : Option TokenKind → Bool
  stray_kind None = true
  stray_kind (Some kind) = false

-- a name of more than 16 bytes
abbrev pub is_long_name : Piece → Bool
is_long_name p = long_kind p.len p.kind where
  long_kind : ℕ → Option TokenKind → Bool
  long_kind len (Some Name) = nat_lt 16 len
  long_kind len _ = false

-- a number greater than 9,223,372,036,854,775,808
abbrev pub is_big_number : Piece → Bool
is_big_number p = big_kind p.kind where
  big_kind : Option TokenKind → Bool
  big_kind (Some (Number value)) = nat_lt 9223372036854775808 value
  big_kind _ = false

-- a rule that a piece of a line may break
pub record LineRule : Type 0 where
  pub number : ℕ
  pub breaks : Piece → Bool

-- the rules of a line, the smallest number first
abbrev pub line_rules : List LineRule
line_rules =
    record { number = 2; breaks = is_stray }
    ∷ record { number = 3; breaks = is_long_name }
    ∷ record { number = 4; breaks = is_big_number }
    ∷ []

-- the first of the rules that some piece breaks
abbrev pub first_broken : List LineRule → List Piece → Option ℕ
first_broken [] ps = None
first_broken (rule ∷ rules) ps = if list_any rule.breaks ps then Some rule.number else first_broken rules ps

-- the smallest rule that the pieces of a line break
unfoldable pub broken_by : List Piece → Option ℕ
broken_by ps = first_broken line_rules ps

-- the smallest rule that what stands at the front of a text breaks
abbrev pub front_rule : List ℕ → Option ℕ
front_rule text = broken_by (piece 0 (front_of text) ∷ [])

-- the smaller of two broken rules, where there are two
abbrev pub smaller : Option ℕ → Option ℕ → Option ℕ
smaller None other = other
smaller (Some rule) None = Some rule
smaller (Some rule) (Some other) = Some (min rule other)
