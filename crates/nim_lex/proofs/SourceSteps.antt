-- The lines of what is left of a source, one line at a time.
use Rattle.std.proofs.Common.{◌≡◌, ℕ, suc, ◌+◌, ◌<◌, cond, true, false, List, [], ◌∷◌, length, get_or, take, drop, refl, sym, subst, ◌∙◌, ap, arith, None, Some}
use Rattle.std.specs.Prelude.{Bool, not, ◌++◌}
use Rattle.std.proofs.Math.Seq.{drop-cons}
use Rattle.std.proofs.lemmas.List.{drop-drop, length-take-le}
use Rattle.std.proofs.lemmas.List.Sums.{prefix_len-le-length}
use Rattle.std.proofs.lemmas.Bool.{and_parts, not-true}
use Rattle.std.specs.List.{list_all, position_or_len}
use Rattle.nim_lex.specs.Bytes.{is_newline}
use Rattle.nim_lex.specs.Source.{Line, before_lines, cut, first_refusal, numbered_lines, pieces_of}
use Rattle.nim_lex.specs.Rules.{broken_by}

-- a byte before a line
longer : (b k : ℕ) (cs : List ℕ) → (b ∷ take k cs) ∷ cut (drop (k + 1) cs) ≡ take (1 + k) (b ∷ cs) ∷ cut (drop (1 + k + 1) (b ∷ cs))
longer b k cs =
    let one_more : 1 + k ≡ suc k = omega arith in
    let and_newline : suc k + 1 ≡ suc (k + 1) = omega arith in
    rw (one_more, and_newline) refl

-- the first line ends at the first newline
first_line : (b : ℕ) (rest : List ℕ)
    → cut (b ∷ rest) ≡ take (position_or_len is_newline (b ∷ rest)) (b ∷ rest) ∷ cut (drop (position_or_len is_newline (b ∷ rest) + 1) (b ∷ rest))
first_line b [] =
    elim (is_newline b) as (λ t. cond t ([] ∷ []) (before_lines b []) ≡ take (cond (not t) (1 + 0) 0) (b ∷ [])
    ∷ cut (drop (cond (not t) (1 + 0) 0 + 1) (b ∷ [])))
    [ true ↦ refl | false ↦ refl ]
first_line b (c ∷ rest) =
    let cs : List ℕ = c ∷ rest in
    let k : ℕ = position_or_len is_newline cs in
    elim (is_newline b) as (λ t. cond t ([] ∷ cut cs) (before_lines b (cut cs)) ≡ take (cond (not t) (1 + k) 0) (b ∷ cs)
    ∷ cut (drop (cond (not t) (1 + k) 0 + 1) (b ∷ cs)))
    [ true ↦ refl | false ↦ ap (before_lines b) (first_line c rest) ∙ longer b k cs ]

line_at : (number start n b : ℕ) (rest : List ℕ) → n ≡ position_or_len is_newline (b ∷ rest)
    → numbered_lines number start (cut (b ∷ rest))
    ≡ record { number = number; at = start; bytes = take n (b ∷ rest) } ∷ numbered_lines (number + 1) (start + (n + 1)) (cut (drop (n + 1) (b ∷ rest)))
line_at number start n b rest is_len =
    let bs : List ℕ = b ∷ rest in
    let m : ℕ = position_or_len is_newline bs in
    let all : length (take m bs) ≡ m = length-take-le m bs (prefix_len-le-length (λ x. not (is_newline x)) bs) in
    let next : start + length (take m bs) + 1 ≡ start + (m + 1) = omega arith in
    let here : Line = record { number = number; at = start; bytes = take m bs } in
    rw is_len (ap (numbered_lines number start) (first_line b rest) ∙ ap (λ k. here ∷ numbered_lines (number + 1) k (cut (drop (m + 1) bs))) next)

pub step_line : (number start n : ℕ) (bytes : List ℕ) → start < length bytes → n ≡ position_or_len is_newline (drop start bytes)
    → numbered_lines number start (cut (drop start bytes))
    ≡ record { number = number; at = start; bytes = take n (drop start bytes) } ∷ numbered_lines (number + 1) (start + (n + 1))
    (cut (drop (start + (n + 1)) bytes))
step_line number start n bytes within is_len =
    let P : List ℕ → Type 0 = λ xs. n ≡ position_or_len is_newline xs → numbered_lines number start (cut xs)
    ≡ record { number = number; at = start; bytes = take n xs } ∷ numbered_lines (number + 1) (start + (n + 1)) (cut (drop (n + 1) xs)) in
    let at_front : P (drop start bytes) =
    subst P (sym (drop-cons bytes start 0 within)) (line_at number start n (get_or bytes start 0) (drop (suc start) bytes)) in
    rw (← drop-drop (n + 1) start bytes) (at_front is_len)

-- a byte of a line
abbrev pub is_inner : ℕ → Bool
is_inner b = not (is_newline b)

-- the first line of a text, where it is known
pub cut_line : (line rest : List ℕ) → list_all is_inner line ≡ true → cut (line ++ 10 ∷ rest) ≡ line ∷ cut rest
cut_line [] rest inner = refl
cut_line (b ∷ line) rest inner =
    let parts = and_parts (is_inner b) (list_all is_inner line) inner in
    let no : is_newline b ≡ false = not-true (is_newline b) parts.0 in
    let later_lines : cut (line ++ 10 ∷ rest) ≡ line ∷ cut rest = cut_line line rest parts.1 in
    rw (no, later_lines) refl

-- a line that breaks a rule, and one that breaks none
pub refusal_here : (line : Line) (lines : List Line) (rule : ℕ) → broken_by (pieces_of line) ≡ Some rule
    → first_refusal (line ∷ lines) ≡ Some (record { line = line.number; rule = rule })
refusal_here line lines rule broken = rw broken refl

pub refusal_later : (line : Line) (lines : List Line) → broken_by (pieces_of line) ≡ None → first_refusal (line ∷ lines) ≡ first_refusal lines
refusal_later line lines sound = rw sound refl
