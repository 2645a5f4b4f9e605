-- What a production of the grammar reads from, and the steps that each is made of.
use Rattle.std.specs.Prelude.{◌≡◌, ℕ, ◌==◌, Bool, true, false, if◌then◌else◌, List, [], ◌∷◌, length, drop, bytes_eq, ℤ, pos, codes, is_some, Option, None, Some, Result, Ok, Err, refl}
use Rattle.std.specs.Coded.{Coded, code_by, coded×, coded_ℕ, coded_bool, coded_list}
use Rattle.nim_lex.specs.declared.token.Token.{Token}
use Rattle.nim_lex.specs.declared.token.TokenKind.{TokenKind}
use Rattle.nim_lex.specs.declared.token.TokenKind.TheVariants.{Name, Number}
use Rattle.nim_lex.specs.contracts.token.Token as token
use Rattle.nim_lex.specs.contracts.token.TokenKind as kind
use Rattle.nim_lex.specs.Numbers.{in_range, signed}
use Rattle.nim_lex.specs.Texts.{token_text}
use Rattle.nim_parse.specs.declared.fault.Unread.{Unread}
use Rattle.nim_parse.specs.declared.fault.Unread.TheVariants.{Malformed}

-- the rest of a line
pub record Input : Type 0 where
  -- the bytes of the driver
  pub source : List ℕ
  -- the tokens that are left of the line
  pub tokens : List Token
  -- each `int` that was read is in the range of 64 bits with a sign
  pub fits : Bool

-- a code that tells kinds of tokens apart
abbrev pub kind_code : Coded TokenKind
kind_code = kind.the_row.coded

-- a code that tells tokens apart
abbrev pub token_code : Coded Token
token_code = token.the_row.coded

-- a code that tells rests of lines apart, made of those of the three fields
abbrev pub input_code : Coded Input
input_code =
    code_by (List ℕ × (List Token × Bool)) (coded× (coded_list coded_ℕ) (coded× (coded_list token_code) coded_bool))
    (λ i. (i.source, (i.tokens, i.fits))) (λ p. record { source = p.0; tokens = p.1.0; fits = p.1.1 }) (λ _. refl)

-- a line of which nothing was read
abbrev pub unread_line : List ℕ → List Token → Input
unread_line source tokens = record { source = source; tokens = tokens; fits = true }

-- ---- productions

-- what was read and the rest of the line, if it has the form
abbrev pub Outcome : Type 0 → Type 0
Outcome A = Option (A × Input)

-- reads one production from the rest of a line, or refuses it
abbrev pub Parser : Type 0 → Type 0
Parser A = Input → Outcome A

-- a further production on what one read and left; nothing where that one refused
abbrev pub and_then : {A B : Type 0} → Outcome A → (A → Parser B) → Outcome B
and_then None f = None
and_then (Some p) f = f p.0 p.1

infixl 10 ◌>>=◌
-- one production and then another that depends on what was read
abbrev pub ◌>>=◌ : {A B : Type 0} → Parser A → (A → Parser B) → Parser B
p >>= f = λ i. and_then (p i) f

infixl 10 ◌>>◌
-- one production and then another; only what the second read is kept
abbrev pub ◌>>◌ : {A B : Type 0} → Parser A → Parser B → Parser B
p >> q = p >>= (λ _. q)

-- takes no token, and gives this
abbrev pub pure : {A : Type 0} → A → Parser A
pure a = λ i. Some (a, i)

infixr 11 ◌<$>◌
-- a production, and what it read made into something else
abbrev pub ◌<$>◌ : {A B : Type 0} → (A → B) → Parser A → Parser B
f <$> p = p >>= (λ x. pure (f x))

-- no line has this form
abbrev pub refuse : {A : Type 0} → Parser A
refuse = λ i. None

-- ---- the next token

-- how many tokens are left
unfoldable pub left : Input → ℕ
left i = length i.tokens

-- the next of some tokens has this text
abbrev pub has_text : List ℕ → List ℕ → List Token → Bool
has_text text source [] = false
has_text text source (t ∷ ts) = bytes_eq (token_text source t) text

-- this word or sign comes next
unfoldable pub sees : List ℕ → Input → Bool
sees text i = has_text text i.source i.tokens

-- the line without its next token
unfoldable pub past_token : Input → Input
past_token i = record i { tokens = drop 1 i.tokens }

-- the line without its next token where that is this word or sign, else the whole line
unfoldable pub past_if_seen : List ℕ → Input → Input
past_if_seen text i = if sees text i then past_token i else i

-- takes this word or sign, if it comes next
abbrev pub eat : List ℕ → Parser Bool
eat text = λ i. Some (sees text i, past_if_seen text i)

-- this word or sign
unfoldable pub expect : List ℕ → Parser (Unit {0})
expect text = λ i. if sees text i then Some (tt, past_token i) else None

-- the end of the line
unfoldable pub done : Parser (Unit {0})
done = λ i. if left i == 0 then Some (tt, i) else None

-- the name that the first of some tokens is
abbrev pub first_name : List ℕ → List Token → Option (List ℕ)
first_name source [] = None
first_name source (t ∷ ts) = by_kind t.kind where
  by_kind : TokenKind → Option (List ℕ)
  by_kind Name = Some (token_text source t)
  by_kind _ = None

-- the number that the first of some tokens is
abbrev pub first_number : List Token → Option ℕ
first_number [] = None
first_number (t ∷ ts) = by_kind t.kind where
  by_kind : TokenKind → Option ℕ
  by_kind (Number value) = Some value
  by_kind _ = None

-- takes the next token, if it is something
abbrev pub taken : {A : Type 0} → Option A → Parser A
taken None = refuse
taken (Some x) = λ i. Some (x, past_token i)

-- a name
unfoldable pub name : Parser (List ℕ)
name = λ i. taken (first_name i.source i.tokens) i

-- a number
unfoldable pub number : Parser ℕ
number = λ i. taken (first_number i.tokens) i

-- a name comes next
unfoldable pub sees_name : Input → Bool
sees_name i = is_some (first_name i.source i.tokens)

-- ---- ints

-- A number with its sign. One that is out of the range is read as 0, and its line is refused.
unfoldable pub with_sign : Bool → ℕ → Parser ℤ
with_sign negative n =
    λ i. if in_range negative n then Some (signed negative n, i) else Some (pos 0, record i { fits = false })

-- ["-"] number
unfoldable pub int : Parser ℤ
int = do
  negative ← eat (codes "-")
  n ← number
  with_sign negative n

-- ---- what a function that reads ensures: the outcome of the production, unless memory was refused
abbrev pub Reads : {A : Type 0} → Outcome A → Result A Unread → Input → Type 0
Reads outcome (Ok a) new = outcome ≡ Some (a, new)
Reads outcome (Err e) new = e ≡ Malformed → outcome ≡ None
