-- The tokens of lines of words, line by line.
use Rattle.std.proofs.Common.{◌≡◌, ℕ, ◌+◌, cond, Bool, true, false, List, [], ◌∷◌, ◌++◌, length, map, refl, sym, ◌∙◌, ap, arith}
use Rattle.std.specs.Prelude.{◌==◌}
use Rattle.std.specs.List.{flat_map}
use Rattle.std.proofs.lemmas.Bool.{eq-eqb, ne_eqb, false≢true}
use Rattle.nim_lex.specs.declared.token.Token.{Token}
use Rattle.nim_lex.specs.Texts.{token_text}
use Rattle.nim_parse.specs.Driver.{before, lines, number_of}
use Rattle.nim_printed.specs.Words.{Word, kind_of, line_text, line_tokens_of, lines_tokens_of}
use Rattle.nim_base.proofs.Lists.{same_first, same_rest}
use Rattle.nim_printed.proofs.TreeReads.{Spells, SpellsOne}

-- a line has a word
abbrev pub is_line : List Word → Bool
is_line [] = false
is_line (word ∷ words) = true

-- each line of these has a word
abbrev pub AreLines : List (List Word) → Type 0
AreLines [] = Unit {0}
AreLines (words ∷ more) = (is_line words ≡ true) × AreLines more

-- the tokens of each line
abbrev pub grouped : ℕ → ℕ → List (List Word) → List (List Token)
grouped line at [] = []
grouped line at (words ∷ more) = line_tokens_of line at words ∷ grouped (line + 1) (at + length (line_text words)) more

-- the first of some tokens, if there is one, stands on another line
abbrev Apart : ℕ → List Token → Type 0
Apart n [] = Unit {0}
Apart n (t ∷ ts) = (t.line == n) ≡ false

-- some tokens are a line that begins with the first of them, and more lines
record Begins (t : Token) (lss : List (List Token)) : Type 0 where
  rest : List Token
  others : List (List Token)
  shape : lss ≡ (t ∷ rest) ∷ others

begins : (t : Token) (lss : List (List Token)) → Begins t (before t lss)
begins t [] = record { rest = []; others = []; shape = refl }
begins t ([] ∷ lss) = record { rest = []; others = lss; shape = refl }
begins t ((u ∷ line) ∷ lss) =
    elim (u.line == t.line) as (λ b. Begins t (cond b ((t ∷ u ∷ line) ∷ lss) ((t ∷ []) ∷ (u ∷ line) ∷ lss))) [
      | true ↦ record { rest = u ∷ line; others = lss; shape = refl }
      | false ↦ record { rest = []; others = (u ∷ line) ∷ lss; shape = refl }
    ]

-- a token before others on another line
last_one : (t : Token) (tail : List Token) → Apart t.line tail → lines (t ∷ tail) ≡ (t ∷ []) ∷ lines tail
last_one t [] apart = refl
last_one t (u ∷ us) apart =
    let later = begins u (lines us) in
    ap (before t) later.shape
    ∙ (rw apart (ap (λ (lss : List (List Token)). (t ∷ []) ∷ lss) (sym later.shape)))

one_line : (line at : ℕ) (word : Word) (words : List Word) (tail : List Token) → Apart line tail
    → lines (line_tokens_of line at (word ∷ words) ++ tail) ≡ line_tokens_of line at (word ∷ words) ∷ lines tail
one_line line at word [] tail apart = last_one (record { line = line; at = at; len = length word; kind = kind_of word }) tail apart
one_line line at word (next ∷ words) tail apart =
    let t : Token = record { line = line; at = at; len = length word; kind = kind_of word } in
    let same : (line == line) ≡ true = eq-eqb line line refl in
    ap (before t) (one_line line (at + length word + 1) next words tail apart) ∙ (rw same refl)

apart : (line at : ℕ) (more : List (List Word)) → AreLines more → Apart line (lines_tokens_of (line + 1) at more)
apart line at [] are = tt
apart line at ([] ∷ more) are = absurd (false≢true are.0)
apart line at ((word ∷ words) ∷ more) are = ne_eqb (line + 1) line (λ e. omega arith)

pub lines_grouped : (line at : ℕ) (all : List (List Word)) → AreLines all → lines (lines_tokens_of line at all) ≡ grouped line at all
lines_grouped line at [] are = refl
lines_grouped line at ([] ∷ more) are = absurd (false≢true are.0)
lines_grouped line at ((word ∷ words) ∷ more) are =
    let next : ℕ = at + length (line_text (word ∷ words)) in
    one_line line at word words (lines_tokens_of (line + 1) next more) (apart line next more are.1)
    ∙ ap (λ (lss : List (List Token)). line_tokens_of line at (word ∷ words) ∷ lss) (lines_grouped (line + 1) next more are.1)

-- the tokens of each line spell its words
abbrev pub LinesSpell : List ℕ → ℕ → List (List Token) → List (List Word) → Type 0
LinesSpell source line [] [] = Unit {0}
LinesSpell source line [] (words ∷ more) = ⊥
LinesSpell source line (ts ∷ tss) [] = ⊥
LinesSpell source line (ts ∷ tss) (words ∷ more) = (number_of ts ≡ line) × Spells source ts words × LinesSpell source (line + 1) tss more

line_spells : (source : List ℕ) (line at : ℕ) (words : List Word) (tail : List Token) (rest : List Word)
    → map (token_text source) (line_tokens_of line at words ++ tail) ≡ words ++ rest
    → Spells source (line_tokens_of line at words) words × (map (token_text source) tail ≡ rest)
line_spells source line at [] tail rest texts = (tt, texts)
line_spells source line at (word ∷ words) tail rest texts =
    let t : Token = record { line = line; at = at; len = length word; kind = kind_of word } in
    let ts : List Token = line_tokens_of line (at + length word + 1) words in
    let later = line_spells source line (at + length word + 1) words tail rest
    (same_rest (token_text source t) word (map (token_text source) (ts ++ tail)) (words ++ rest) texts) in
    let here : SpellsOne source t word =
    record { text = same_first (token_text source t) word (map (token_text source) (ts ++ tail)) (words ++ rest) texts; kind = refl } in
    ((here, later.0), later.1)

pub lines_spell : (source : List ℕ) (line at : ℕ) (all : List (List Word)) → AreLines all
    → map (token_text source) (lines_tokens_of line at all) ≡ flat_map (λ words. words) all → LinesSpell source line (grouped line at all) all
lines_spell source line at [] are texts = tt
lines_spell source line at ([] ∷ more) are texts = absurd (false≢true are.0)
lines_spell source line at ((word ∷ words) ∷ more) are texts =
    let next : ℕ = at + length (line_text (word ∷ words)) in
    let both = line_spells source line at (word ∷ words) (lines_tokens_of (line + 1) next more) (flat_map (λ ws. ws) more) texts in
    (refl, both.0, lines_spell source (line + 1) next more are.1 both.1)
