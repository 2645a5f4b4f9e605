-- The tokens of a source have their texts, and lie in order.
use Rattle.std.proofs.Common.{◌≡◌, ℕ, zero, suc, ◌+◌, ◌-◌, ◌<◌, ◌≤◌, List, [], ◌∷◌, ◌++◌, length, take, drop, refl, ap, arith, inl, inr}
use Rattle.std.specs.Prelude.{not}
use Rattle.std.specs.List.{All, flat_map, position_or_len}
use Rattle.std.proofs.lemmas.Bool.{cases_lt}
use Rattle.std.proofs.lemmas.List.{drop_all, length-drop, length-take-le}
use Rattle.std.proofs.lemmas.List.Sums.{prefix_len-le-length}
use Rattle.std.proofs.lemmas.List.Elements.{All-nil, All-append}
use Rattle.nim_lex.specs.declared.token.Token.{Token}
use Rattle.nim_lex.specs.Bytes.{is_newline}
use Rattle.nim_lex.specs.Source.{cut, line_at, line_tokens, numbered_lines, tokens_of}
use Rattle.nim_lex.specs.Texts.{HasItsText, InOrder}
use Rattle.nim_lex.proofs.LineTexts.{pieces_texts, pieces_order}
use Rattle.nim_lex.proofs.SourceSteps.{step_line}

-- the tokens of what is left of a source
abbrev left : List ℕ → ℕ → ℕ → List Token
left source number at = flat_map line_tokens (numbered_lines number at (cut (drop at source)))

none_left : (source : List ℕ) (number at : ℕ) → length source ≤ at → left source number at ≡ []
none_left source number at past = rw (drop_all at source past) refl

-- the length of the line at a place
abbrev line_length : List ℕ → ℕ → ℕ
line_length source at = position_or_len is_newline (drop at source)

line_within : (source : List ℕ) (at : ℕ) → line_length source at ≤ length (drop at source)
line_within source at = prefix_len-le-length (λ b. not (is_newline b)) (drop at source)

line_left : (source : List ℕ) (number at : ℕ) → at < length source
    → left source number at
    ≡ line_tokens (line_at number at (take (line_length source at) (drop at source))) ++ left source (number + 1) (at + (line_length source at + 1))
line_left source number at within = ap (flat_map line_tokens) (step_line number at (line_length source at) source within refl)

left_texts : (source : List ℕ) (fuel number at : ℕ) → length source ≤ at + fuel → All (HasItsText source) (left source number at)
left_texts source zero number at h = rw (none_left source number at (omega arith)) (All-nil (HasItsText source))
left_texts source (suc fuel) number at h =
    let n : ℕ = line_length source at in
    let all : length (take n (drop at source)) ≡ n = length-take-le n (drop at source) (line_within source at) in
    elim (cases_lt at (length source)) [
      | inl within ↦ rw (line_left source number at within)
          (All-append (HasItsText source) _ _
          (pieces_texts source number at 0 (take n (drop at source)) (ap (λ k. take k (drop at source)) all))
          (left_texts source fuel (number + 1) (at + (n + 1)) (omega arith)))
      | inr past ↦ rw (none_left source number at past) (All-nil (HasItsText source))
    ]

pub texts : (source : List ℕ) → All (HasItsText source) (tokens_of source)
texts source = left_texts source (length source) 1 0 (omega arith)

-- tokens after tokens
earlier : (from mid end : ℕ) (ts : List Token) → from ≤ mid → InOrder mid end ts → InOrder from end ts
earlier from mid end [] h order = omega arith
earlier from mid end (t ∷ ts) h order = (omega (arith, order.0), order.1)

joined : (from mid end : ℕ) (ts us : List Token) → InOrder from mid ts → InOrder mid end us → InOrder from end (ts ++ us)
joined from mid end [] us first second = earlier from mid end us first second
joined from mid end (t ∷ ts) us first second = (first.0, joined (t.at + t.len) mid end ts us first.1 second)

left_order : (source : List ℕ) (fuel number at from : ℕ) → length source ≤ at + fuel → from ≤ at → from ≤ length source
    → InOrder from (length source) (left source number at)
left_order source zero number at from h f l = rw (none_left source number at (omega arith)) l
left_order source (suc fuel) number at from h f l =
    let n : ℕ = line_length source at in
    let all : length (take n (drop at source)) ≡ n = length-take-le n (drop at source) (line_within source at) in
    let size : n ≤ length source - at = (rw length-drop at (line_within source at)) in
    elim (cases_lt at (length source)) [
      | inl within ↦ rw (line_left source number at within)
          (joined from (at + n) (length source) (line_tokens (line_at number at (take n (drop at source)))) (left source (number + 1) (at + (n + 1)))
          (pieces_order number (at + n) at 0 from (take n (drop at source)) (omega arith) (omega arith) (omega arith))
          (left_order source fuel (number + 1) (at + (n + 1)) (at + n) (omega arith) (omega arith) (omega arith)))
      | inr past ↦ rw (none_left source number at past) l
    ]

pub order : (source : List ℕ) → InOrder 0 (length source) (tokens_of source)
order source = left_order source (length source) 1 0 0 (omega arith) (omega arith) (omega arith)
