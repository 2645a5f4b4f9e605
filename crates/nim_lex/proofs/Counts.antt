-- How many lines a text has: one for each newline, and one more where the last byte is none.
use Rattle.std.proofs.Common.{◌≡◌, ℕ, ◌+◌, ◌-◌, ◌<◌, ◌≤◌, cond, true, false, List, [], ◌∷◌, length, get_or, refl, sym, ◌∙◌, ap, arith, None, Some}
use Rattle.std.specs.Prelude.{◌==◌}
use Rattle.std.specs.List.{count_by}
use Rattle.std.proofs.lemmas.List.Sums.{sum_by-cons}
use Rattle.std.proofs.lemmas.Bool.Decides.{Decides-eqb, nat_tests}
use Rattle.nim_lex.specs.Bytes.{is_newline}
use Rattle.nim_lex.specs.Rules.{is_too_long}
use Rattle.nim_lex.specs.declared.fault.Refusal.{Refusal}
use Rattle.nim_lex.specs.Source.{before_lines, cut, first_refusal, line_count, lines_of, token_refusal}

before-some : (b : ℕ) (ls : List (List ℕ)) → 0 < length ls → length (before_lines b ls) ≡ length ls
before-some b [] some = absurd (omega arith)
before-some b (l ∷ ls) some = refl

before-positive : (b : ℕ) (ls : List (List ℕ)) → 0 < length (before_lines b ls)
before-positive b [] = omega arith
before-positive b (l ∷ ls) = omega arith

before-within : (b : ℕ) (ls : List (List ℕ)) → length (before_lines b ls) ≤ 1 + length ls
before-within b [] = omega arith
before-within b (l ∷ ls) = omega arith

cut-some : (b : ℕ) (rest : List ℕ) → 0 < length (cut (b ∷ rest))
cut-some b rest = elim (is_newline b) as (λ t. 0 < length (cond t ([] ∷ cut rest) (before_lines b (cut rest))))
    [ true ↦ omega arith | false ↦ before-positive b (cut rest) ]

count-cons : (b : ℕ) (rest : List ℕ) → count_by is_newline (b ∷ rest) ≡ cond (b == 10) 1 0 + count_by is_newline rest
count-cons b rest = sum_by-cons (λ x. cond (is_newline x) 1 0) b rest

-- one more line where the last byte is no newline
abbrev open_end : ℕ → List ℕ → ℕ
open_end b rest = cond (get_or (b ∷ rest) (length rest) 0 == 10) 0 1

counted : (b : ℕ) (rest : List ℕ) → length (cut (b ∷ rest)) ≡ count_by is_newline (b ∷ rest) + open_end b rest
counted b [] =
    elim (b == 10) as (λ t. length (cond t ([] ∷ []) ((b ∷ []) ∷ [])) ≡ cond t 1 0 + 0 + cond t 0 1) [ true ↦ refl | false ↦ refl ]
    ∙ sym (ap (λ n. n + open_end b []) (count-cons b []))
counted b (c ∷ cs) =
    let later = counted c cs in
    elim (b == 10) as (λ t. length (cond t ([] ∷ cut (c ∷ cs)) (before_lines b (cut (c ∷ cs)))) ≡ cond t 1 0 + count_by is_newline (c ∷ cs) + open_end c cs)
    [ true ↦ omega (arith, later) | false ↦ omega (arith, later, before-some b (cut (c ∷ cs)) (cut-some c cs)) ]
    ∙ sym (ap (λ n. n + open_end c cs) (count-cons b (c ∷ cs)))

not_equal : (m n : ℕ) → (m ≡ n → ⊥) → (m == n) ≡ false
not_equal m n differ = elim (m == n) as (λ t. (m == n) ≡ t → t ≡ false) [ true ↦ λ e. absurd (differ ((Decides-eqb m n).0 e)) | false ↦ λ e. refl ] refl

-- the last byte is a newline, or another
pub last_ended : (source : List ℕ) → 0 < length source → get_or source (length source - 1) 0 ≡ 10 → line_count source ≡ count_by is_newline source
last_ended [] some ended = absurd (omega arith)
last_ended (b ∷ rest) some ended =
    let at_last : length (b ∷ rest) - 1 ≡ length rest = omega arith in
    let last : get_or (b ∷ rest) (length rest) 0 ≡ 10 = (rw at_last at ended) in
    let here = counted b rest in
    (rw last at here) ∙ omega arith

pub last_open : (source : List ℕ) → 0 < length source → (get_or source (length source - 1) 0 ≡ 10 → ⊥) → line_count source ≡ count_by is_newline source + 1
last_open [] some other = absurd (omega arith)
last_open (b ∷ rest) some other =
    let at_last : length (b ∷ rest) - 1 ≡ length rest = omega arith in
    let fails : (get_or (b ∷ rest) (length rest) 0 == 10) ≡ false = not_equal (get_or (b ∷ rest) (length rest) 0) 10 (rw at_last at other) in
    let here = counted b rest in
    (rw fails at here)

pub count_within : (source : List ℕ) → line_count source ≤ length source
count_within [] = omega arith
count_within (b ∷ rest) =
    let later = count_within rest in
    elim (is_newline b) as (λ t. length (cond t ([] ∷ cut rest) (before_lines b (cut rest))) ≤ length (b ∷ rest))
    [ true ↦ omega (arith, later) | false ↦ omega (arith, later, before-within b (cut rest)) ]

-- a driver that the rules of its text take is short
pub short : (source : List ℕ) → token_refusal source ≡ None → length source ≤ 1048576
short source taken =
    let whole : Refusal = record { line = 0; rule = 1 } in
    elim (is_too_long source) as (λ t. is_too_long source ≡ t → cond t (Some whole) (first_refusal (lines_of source)) ≡ None → length source ≤ 1048576)
    [ true ↦ λ e refused. absurd (let no : Some whole ≡ None = refused in cc) | false ↦ λ e refused. grind (arith, nat_tests) ] refl taken
