-- The lines of what is left of the tokens, one at a time.
use Rattle.std.proofs.Common.{◌≡◌, ℕ, suc, ◌+◌, ◌<◌, cond, true, false, List, [], ◌∷◌, length, take, drop, refl, sym, ◌∙◌, ap, arith, None, Some}
use Rattle.std.specs.Prelude.{◌==◌, Bool}
use Rattle.std.specs.List.{prefix_len}
use Rattle.std.proofs.lemmas.List.{drop-drop, length-drop}
use Rattle.std.proofs.lemmas.Bool.Decides.{Decides-eqb}
use Rattle.nim_lex.specs.declared.token.Token.{Token}
use Rattle.nim_parse.specs.declared.state.State.{State}
use Rattle.nim_parse.specs.Driver.{before, first_refusal, found_line, lines, next_state, number_of}
use Rattle.nim_parse.specs.Rules.{rule_of}

abbrev is_on : ℕ → Token → Bool
is_on n t = t.line == n

same : (n : ℕ) → (n == n) ≡ true
same n = (Decides-eqb n n).1 refl

equal : (m n : ℕ) → (m == n) ≡ true → m ≡ n
equal m n h = (Decides-eqb m n).0 h

-- the first line goes on as long as the number stays
first_line : (t : Token) (ts : List Token) → lines (t ∷ ts) ≡ (t ∷ take (prefix_len (is_on t.line) ts) ts) ∷ lines (drop (prefix_len (is_on t.line) ts) ts)
first_line t [] = refl
first_line t (u ∷ us) =
    let k : ℕ = prefix_len (is_on u.line) us in
    let m : ℕ = prefix_len (is_on t.line) us in
    let later : lines (u ∷ us) ≡ (u ∷ take k us) ∷ lines (drop k us) = first_line u us in
    ap (before t) later
    ∙ elim (u.line == t.line) as (λ b. (u.line == t.line) ≡ b
    → cond b ((t ∷ u ∷ take k us) ∷ lines (drop k us)) ((t ∷ []) ∷ (u ∷ take k us) ∷ lines (drop k us))
    ≡ (t ∷ take (cond b (1 + m) 0) (u ∷ us)) ∷ lines (drop (cond b (1 + m) 0) (u ∷ us))) [
      | true ↦ λ e.
          let turn : 1 + m ≡ suc k = omega (arith, ap (λ n. prefix_len (is_on n) us) (equal u.line t.line e)) in
          rw turn refl
      | false ↦ λ e. ap (λ ls. (t ∷ []) ∷ ls) (sym later)
    ] refl

at_front : (ts : List Token) (len : ℕ) → 0 < length ts → len ≡ prefix_len (is_on (number_of ts)) ts → lines ts ≡ take len ts ∷ lines (drop len ts)
at_front [] len some is_len = absurd (omega arith)
at_front (t ∷ ts) len some is_len =
    let turn : len ≡ suc (prefix_len (is_on t.line) ts) = omega (arith, (rw (same t.line) at is_len)) in
    rw turn (first_line t ts)

pub step_lines : (ts : List Token) (at len : ℕ) → at < length ts → len ≡ prefix_len (is_on (number_of (drop at ts))) (drop at ts)
    → lines (drop at ts) ≡ take len (drop at ts) ∷ lines (drop (at + len) ts)
step_lines ts at len within is_len =
    rw (← drop-drop len at ts) (at_front (drop at ts) len (omega (arith, length-drop at ts)) is_len)

-- a line that a rule refuses, and one that none does
pub refusal_here : (source : List ℕ) (st : State) (line : List Token) (rest : List (List Token)) (rule : ℕ) → rule_of st (found_line source st line) ≡ Some rule
    → first_refusal source st (line ∷ rest) ≡ Some (record { line = number_of line; rule = rule })
refusal_here source st line rest rule broken = rw broken refl

pub refusal_later : (source : List ℕ) (st : State) (line : List Token) (rest : List (List Token)) → rule_of st (found_line source st line) ≡ None
    → first_refusal source st (line ∷ rest) ≡ first_refusal source (next_state source st line) rest
refusal_later source st line rest sound = rw sound refl
