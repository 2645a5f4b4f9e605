-- The pieces of what is left of a line, one step at a time.
use Rattle.std.proofs.Common.{◌≡◌, ℕ, zero, suc, ◌+◌, ◌-◌, ◌<◌, ◌≤◌, cond, ◌||◌, Bool, true, false, List, [], ◌∷◌, ◌++◌, append_assoc, length, get_or, drop, refl, sym, subst, ◌∙◌, ap, add-zero, add-one, add_assoc, arith, Option, None, Some}
use Rattle.std.proofs.Math.Seq.{drop-cons}
use Rattle.std.proofs.lemmas.List.{drop-drop, drop_all}
use Rattle.std.specs.List.{list_any, filter_map}
use Rattle.nim_lex.specs.declared.token.Token.{Token}
use Rattle.nim_lex.specs.declared.token.TokenKind.{TokenKind}
use Rattle.nim_lex.specs.Source.{token_of}
use Rattle.nim_lex.specs.Bytes.{is_blank, is_hash}
use Rattle.nim_lex.specs.Pieces.{Front, Piece, front_of, piece, pieces}
use Rattle.nim_lex.specs.Rules.{broken_by, smaller, is_stray, is_long_name, is_big_number}

-- after the bytes that belong to the piece before
skip : (at n : ℕ) (xs : List ℕ) → pieces at n xs ≡ pieces (at + n) 0 (drop n xs)
skip at zero [] = refl
skip at (suc n) [] = refl
skip at zero (b ∷ rest) = rw add-zero refl
skip at (suc n) (b ∷ rest) = skip (at + 1) n rest ∙ ap (λ k. pieces k 0 (drop n rest)) (omega arith)

pub step_blank : (start i : ℕ) (line : List ℕ) → i < length line → is_hash (get_or line i 0) ≡ false → is_blank (get_or line i 0) ≡ true
    → pieces (start + i) 0 (drop i line) ≡ pieces (start + (i + 1)) 0 (drop (i + 1) line)
step_blank start i line within no_hash blank =
    rw (drop-cons line i 0 within, no_hash, blank)
    (ap (λ k. pieces k 0 (drop (suc i) line)) (add_assoc start i 1) ∙ ap (λ k. pieces (start + (i + 1)) 0 (drop k line)) (sym (add-one i)))

-- a token at the front
token_at : (at n b : ℕ) (rest : List ℕ) → is_hash b ≡ false → is_blank b ≡ false → 0 < n → n ≡ (front_of (b ∷ rest)).len
    → pieces at 0 (b ∷ rest) ≡ piece at (front_of (b ∷ rest)) ∷ pieces (at + n) 0 (drop n (b ∷ rest))
token_at at zero b rest no_hash no_blank some is_len = absurd (omega arith)
token_at at (suc m) b rest no_hash no_blank some is_len =
    let inside : (front_of (b ∷ rest)).len - 1 ≡ m = omega arith in
    rw (no_hash, no_blank, inside)
    (ap (λ ps. piece at (front_of (b ∷ rest)) ∷ ps) (skip (at + 1) m rest ∙ ap (λ k. pieces k 0 (drop m rest)) (omega arith)))

pub step_token : (start i n : ℕ) (line : List ℕ) → i < length line → is_hash (get_or line i 0) ≡ false → is_blank (get_or line i 0) ≡ false
    → 0 < n → n ≡ (front_of (drop i line)).len
    → pieces (start + i) 0 (drop i line) ≡ piece (start + i) (front_of (drop i line)) ∷ pieces (start + (i + n)) 0 (drop (i + n) line)
step_token start i n line within no_hash no_blank some is_len =
    let P : List ℕ → Type 0 = λ xs. n ≡ (front_of xs).len → pieces (start + i) 0 xs ≡ piece (start + i) (front_of xs) ∷ pieces (start + i + n) 0 (drop n xs) in
    let at_front : P (drop i line) =
    subst P (sym (drop-cons line i 0 within)) (token_at (start + i) n (get_or line i 0) (drop (suc i) line) no_hash no_blank some) in
    rw (← drop-drop n i line, ← add_assoc start i n) (at_front is_len)

pub at_hash : (start i : ℕ) (line : List ℕ) → i < length line → is_hash (get_or line i 0) ≡ true → pieces (start + i) 0 (drop i line) ≡ []
at_hash start i line within hash = rw (drop-cons line i 0 within, hash) refl

pub at_end : (start i : ℕ) (line : List ℕ) → length line ≤ i → pieces (start + i) 0 (drop i line) ≡ []
at_end start i line past = rw (drop_all i line past) refl

-- the smallest rule that several pieces break
tests : (a b c d e f : Bool)
    → cond (a || d) (Some 2) (cond (b || e) (Some 3) (cond (c || f) (Some 4) None))
    ≡ smaller (cond (a || false) (Some 2) (cond (b || false) (Some 3) (cond (c || false) (Some 4) None)))
    (cond d (Some 2) (cond e (Some 3) (cond f (Some 4) None)))
tests true b c true e f = refl
tests true b c false true f = refl
tests true b c false false true = refl
tests true b c false false false = refl
tests false true c true e f = refl
tests false true c false true f = refl
tests false true c false false true = refl
tests false true c false false false = refl
tests false false true true e f = refl
tests false false true false true f = refl
tests false false true false false true = refl
tests false false true false false false = refl
tests false false false true e f = refl
tests false false false false true f = refl
tests false false false false false true = refl
tests false false false false false false = refl

pub broken-cons : (p : Piece) (ps : List Piece) → broken_by (p ∷ ps) ≡ smaller (broken_by (p ∷ [])) (broken_by ps)
unfolding broken_by
broken-cons p ps = tests (is_stray p) (is_long_name p) (is_big_number p) (list_any is_stray ps) (list_any is_long_name ps) (list_any is_big_number ps)

pub broken-nil : broken_by [] ≡ None
unfolding broken_by
broken-nil = refl

pub broken-piece : (at : ℕ) (front : Front) → broken_by (piece at front ∷ []) ≡ broken_by (piece 0 front ∷ [])
unfolding broken_by
broken-piece at front = refl

pub smaller_assoc : (a b c : Option ℕ) → smaller (smaller a b) c ≡ smaller a (smaller b c)
smaller_assoc None b c = refl
smaller_assoc (Some x) None c = refl
smaller_assoc (Some x) (Some y) None = refl
smaller_assoc (Some x) (Some y) (Some z) = ap Some (omega arith)

pub smaller-none : (a : Option ℕ) → smaller a None ≡ a
smaller-none None = refl
smaller-none (Some x) = refl

pub smaller-some : (a : Option ℕ) (rule : ℕ) → smaller a (Some rule) ≡ None → ⊥
smaller-some None rule e = cc
smaller-some (Some x) rule e = cc

-- after a piece that breaks no rule, and after one that breaks one
pub after_sound : (broken : Option ℕ) (p : Piece) (rest whole : List Piece) → broken_by (p ∷ []) ≡ None
    → smaller broken (broken_by (p ∷ rest)) ≡ broken_by whole → smaller broken (broken_by rest) ≡ broken_by whole
after_sound broken p rest whole sound before = rw (broken-cons p rest, sound) at before

pub after_broken : (broken : Option ℕ) (p : Piece) (rest whole : List Piece) (rule : ℕ) → broken_by (p ∷ []) ≡ Some rule
    → smaller broken (broken_by (p ∷ rest)) ≡ broken_by whole → smaller (smaller broken (Some rule)) (broken_by rest) ≡ broken_by whole
after_broken broken p rest whole rule is_broken before =
    smaller_assoc broken (Some rule) (broken_by rest) ∙ (rw (broken-cons p rest, is_broken) at before)

-- after a piece that is a token
pub after_token : (number len : ℕ) (p : Piece) (kind : TokenKind) (rest : List Piece) (tokens all : List Token) → len ≡ p.len → p.kind ≡ Some kind
    → tokens ++ filter_map (token_of number) (p ∷ rest) ≡ all
    → (tokens ++ record { line = number; at = p.at; len = len; kind = kind } ∷ []) ++ filter_map (token_of number) rest ≡ all
after_token number len p kind rest tokens all is_len is_kind before =
    append_assoc tokens (record { line = number; at = p.at; len = len; kind = kind } ∷ []) (filter_map (token_of number) rest)
    ∙ rw is_len (rw is_kind at before)
