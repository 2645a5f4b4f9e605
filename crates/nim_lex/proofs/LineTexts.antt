-- The tokens of a line have their texts, and lie in order.
use Rattle.std.proofs.Common.{◌≡◌, ℕ, zero, suc, ◌+◌, ◌-◌, ◌≤◌, cond, true, false, List, [], ◌∷◌, length, take, drop, refl, sym, ◌∙◌, ap, arith, None, Some}
use Rattle.std.specs.List.{All, filter_map, cons_option}
use Rattle.std.specs.Option.{option_map}
use Rattle.std.proofs.lemmas.List.{drop-drop}
use Rattle.std.proofs.lemmas.List.Elements.{All-nil, All-cons}
use Rattle.nim_lex.specs.declared.token.Token.{Token}
use Rattle.nim_lex.specs.declared.token.TokenKind.{TokenKind}
use Rattle.nim_lex.specs.Bytes.{is_blank, is_hash}
use Rattle.nim_lex.specs.Pieces.{Front, Piece, front_of, piece, pieces}
use Rattle.nim_lex.specs.Source.{token_of}
use Rattle.nim_lex.specs.Texts.{HasItsText, InOrder, IsOfKind}
use Rattle.nim_lex.proofs.FrontTexts.{front_text, front_within}

-- what stands after the first byte of a part of the source
after_first_byte : (ys : List ℕ) (b n : ℕ) (rest : List ℕ) → take (suc n) ys ≡ b ∷ rest → take n (drop 1 ys) ≡ rest
after_first_byte [] b n rest e = cc
after_first_byte (y ∷ ys) b n rest e = cc

tail_at : (source : List ℕ) (at b : ℕ) (rest : List ℕ) → take (length (b ∷ rest)) (drop at source) ≡ b ∷ rest → take (length rest) (drop (at + 1) source) ≡ rest
tail_at source at b rest here = rw (← drop-drop 1 at source) (after_first_byte (drop at source) b (length rest) rest here)

-- a part of a part at the front
take_less : (k n : ℕ) (xs : List ℕ) → k ≤ n → take k (take n xs) ≡ take k xs
take_less zero n xs h = refl
take_less (suc k) zero xs h = absurd (omega arith)
take_less (suc k) (suc n) [] h = refl
take_less (suc k) (suc n) (x ∷ xs) h = ap (λ ys. x ∷ ys) (take_less k n xs (omega arith))

text_at : (source bs : List ℕ) (at n : ℕ) → take (length bs) (drop at source) ≡ bs → n ≤ length bs → take n (drop at source) ≡ take n bs
text_at source bs at n here within = sym (take_less n (length bs) (drop at source) within) ∙ ap (take n) here

-- one more piece
more_texts : (source : List ℕ) (number : ℕ) (p : Piece) (ps : List Piece)
    → ((kind : TokenKind) → p.kind ≡ Some kind → IsOfKind kind (take p.len (drop p.at source)))
    → All (HasItsText source) (filter_map (token_of number) ps) → All (HasItsText source) (filter_map (token_of number) (p ∷ ps))
more_texts source number p ps here later =
    let found : TokenKind → Token = λ kind. record { line = number; at = p.at; len = p.len; kind = kind } in
    let ts : List Token = filter_map (token_of number) ps in
    elim p.kind as (λ o. p.kind ≡ o → All (HasItsText source) (cons_option (option_map found o) ts))
    [ None ↦ λ e. later | Some kind ↦ λ e. All-cons (HasItsText source) (found kind) ts (here kind e) later ] refl

more_order : (number from end : ℕ) (p : Piece) (ps : List Piece) → from ≤ p.at
    → InOrder from end (filter_map (token_of number) ps) → InOrder (p.at + p.len) end (filter_map (token_of number) ps)
    → InOrder from end (filter_map (token_of number) (p ∷ ps))
more_order number from end p ps before without after =
    let found : TokenKind → Token = λ kind. record { line = number; at = p.at; len = p.len; kind = kind } in
    let ts : List Token = filter_map (token_of number) ps in
    elim p.kind as (λ o. InOrder from end (cons_option (option_map found o) ts))
    [ None ↦ without | Some kind ↦ (before, after) ]

-- the pieces of a part of the source
pub pieces_texts : (source : List ℕ) (number at inside : ℕ) (bs : List ℕ) → take (length bs) (drop at source) ≡ bs
    → All (HasItsText source) (filter_map (token_of number) (pieces at inside bs))
pieces_texts source number at zero [] here = All-nil (HasItsText source)
pieces_texts source number at (suc inside) [] here = All-nil (HasItsText source)
pieces_texts source number at (suc inside) (b ∷ rest) here = pieces_texts source number (at + 1) inside rest (tail_at source at b rest here)
pieces_texts source number at zero (b ∷ rest) here =
    let front : Front = front_of (b ∷ rest) in
    let next : take (length rest) (drop (at + 1) source) ≡ rest = tail_at source at b rest here in
    let token = more_texts source number (piece at front) (pieces (at + 1) (front.len - 1) rest)
    (λ kind e. rw (text_at source (b ∷ rest) at front.len here (front_within b rest).1) (front_text b rest kind e))
    (pieces_texts source number (at + 1) (front.len - 1) rest next) in
    elim (is_hash b) as (λ t. All (HasItsText source) (filter_map (token_of number)
    (cond t [] (cond (is_blank b) (pieces (at + 1) 0 rest) (piece at front ∷ pieces (at + 1) (front.len - 1) rest))))) [
      | true ↦ All-nil (HasItsText source)
      | false ↦ elim (is_blank b) as (λ t. All (HasItsText source) (filter_map (token_of number)
          (cond t (pieces (at + 1) 0 rest) (piece at front ∷ pieces (at + 1) (front.len - 1) rest))))
          [ true ↦ pieces_texts source number (at + 1) 0 rest next | false ↦ token ]
    ]

pub pieces_order : (number end at inside from : ℕ) (bs : List ℕ) → inside ≤ length bs → from ≤ at + inside → at + length bs ≤ end
    → InOrder from end (filter_map (token_of number) (pieces at inside bs))
pieces_order number end at zero from [] i f e = omega arith
pieces_order number end at (suc inside) from [] i f e = absurd (omega arith)
pieces_order number end at (suc inside) from (b ∷ rest) i f e = pieces_order number end (at + 1) inside from rest (omega arith) (omega arith) (omega arith)
pieces_order number end at zero from (b ∷ rest) i f e =
    let front : Front = front_of (b ∷ rest) in
    let size = front_within b rest in
    let token = more_order number from end (piece at front) (pieces (at + 1) (front.len - 1) rest) (omega arith)
    (pieces_order number end (at + 1) (front.len - 1) from rest (omega (arith, size)) (omega (arith, size)) (omega arith))
    (pieces_order number end (at + 1) (front.len - 1) (at + front.len) rest (omega (arith, size)) (omega (arith, size)) (omega arith)) in
    elim (is_hash b) as (λ t. InOrder from end (filter_map (token_of number)
    (cond t [] (cond (is_blank b) (pieces (at + 1) 0 rest) (piece at front ∷ pieces (at + 1) (front.len - 1) rest))))) [
      | true ↦ omega arith
      | false ↦ elim (is_blank b) as (λ t. InOrder from end (filter_map (token_of number)
          (cond t (pieces (at + 1) 0 rest) (piece at front ∷ pieces (at + 1) (front.len - 1) rest))))
          [ true ↦ pieces_order number end (at + 1) 0 from rest (omega arith) (omega arith) (omega arith) | false ↦ token ]
    ]
