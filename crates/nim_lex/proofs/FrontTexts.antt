-- The text of the token at the front of a text.
use Rattle.std.proofs.Common.{◌≡◌, ℕ, suc, ◌<◌, ◌≤◌, cond, ◌||◌, Bool, true, false, List, [], ◌∷◌, length, take, refl, sym, subst, ◌∙◌, ap, arith, None, Some}
use Rattle.std.specs.Prelude.{Contains, nat_eq, Option, ◌==◌}
use Rattle.std.specs.List.{find, list_all, prefix_len, starts_with, take_while}
use Rattle.std.specs.Int.{is_in_range}
use Rattle.std.specs.Char.{is_ascii_alphabetic, is_ascii_digit}
use Rattle.std.proofs.lemmas.List.Sums.{take_while-cons, prefix_len-le-length}
use Rattle.std.proofs.lemmas.List.{length-take}
use Rattle.std.proofs.lemmas.Slice.Eq.{slice_eq-Decides}
use Rattle.std.proofs.lemmas.Bool.Decides.{Decides-eqb}
use Rattle.nim_lex.specs.declared.token.TokenKind.{TokenKind}
use Rattle.nim_lex.specs.declared.token.TokenKind.TheVariants.{Name, Number, Sign}
use Rattle.nim_lex.specs.Bytes.{is_name_byte}
use Rattle.nim_lex.specs.Numbers.{decimal_value}
use Rattle.nim_lex.specs.Pieces.{Front, found_length, front_of, sign_length, signs}
use Rattle.nim_lex.specs.Texts.{IsOfKind, is_name, is_numeral}

-- the front of a list that passes a test passes it
front_passes : (p : ℕ → Bool) (xs : List ℕ) → list_all p (take (prefix_len p xs) xs) ≡ true
front_passes p [] = refl
front_passes p (x ∷ xs) =
    let passes : list_all p (take (prefix_len p xs) xs) ≡ true = front_passes p xs in
    rw take_while-cons
    (elim (p x) as (λ t. p x ≡ t → list_all p (cond t (x ∷ take (prefix_len p xs) xs) []) ≡ true)
    [ true ↦ λ e. rw (e, passes) refl | false ↦ λ e. refl ] refl)

-- what follows the first byte that passes
after_one : (p : ℕ → Bool) (b : ℕ) (rest : List ℕ) → p b ≡ true → take (prefix_len p (b ∷ rest)) (b ∷ rest) ≡ b ∷ take (prefix_len p rest) rest
after_one p b rest passes = take_while-cons p b rest ∙ (rw passes refl)

or_more : (d u l o : Bool) → (u || l) ≡ true → (((d || u) || l) || o) ≡ true
or_more true u l o h = refl
or_more false true l o h = refl
or_more false false true o h = refl
or_more false false false o h = cc

pub letter_is_name_byte : (b : ℕ) → is_ascii_alphabetic b ≡ true → is_name_byte b ≡ true
letter_is_name_byte b h = or_more (is_in_range 48 57 b) (is_in_range 65 90 b) (is_in_range 97 122 b) (b == 95) h

name_text : (b : ℕ) (rest : List ℕ) → is_ascii_alphabetic b ≡ true → is_name (take (prefix_len is_name_byte (b ∷ rest)) (b ∷ rest)) ≡ true
name_text b rest letter = rw (after_one is_name_byte b rest (letter_is_name_byte b letter), letter, front_passes is_name_byte rest) refl

number_text : (b : ℕ) (rest : List ℕ) → is_ascii_digit b ≡ true → is_numeral (take (prefix_len is_ascii_digit (b ∷ rest)) (b ∷ rest)) ≡ true
number_text b rest digit = rw (after_one is_ascii_digit b rest digit, digit, front_passes is_ascii_digit rest) refl

-- what a search finds is in the list, and passes
found_there : (p : List ℕ → Bool) (xs : List (List ℕ)) (x : List ℕ) → find p xs ≡ Some x → Contains xs x × (p x ≡ true)
found_there p [] x h = cc
found_there p (y ∷ ys) x h =
    elim (p y) as (λ t. p y ≡ t → cond t (Some y) (find p ys) ≡ Some x → Contains (y ∷ ys) x × (p x ≡ true)) [
      | true ↦ λ passes found.
          let same : y ≡ x = cc in
          ((0, omega arith, same), subst (λ (z : List ℕ). p z ≡ true) same passes)
      | false ↦ λ fails found.
          let later = found_there p ys x found in
          ((suc later.0.0, omega arith, later.0.2), later.1)
    ] refl h

-- a text begins with the sign that it starts with
starts_at : (text sign : List ℕ) → starts_with nat_eq text sign ≡ true → take (length sign) text ≡ sign
starts_at text sign h = sym ((slice_eq-Decides Decides-eqb sign (take (length sign) text) (starts_with nat_eq text sign) refl).0 h)

sign_found : (text : List ℕ) (found : Option (List ℕ)) → find (starts_with nat_eq text) signs ≡ found
    → (found_length found ≡ 0 → ⊥) → Contains signs (take (found_length found) text)
sign_found text None e some = absurd (some refl)
sign_found text (Some sign) e some =
    let there = found_there (starts_with nat_eq text) signs sign e in
    rw (starts_at text sign there.1) there.0

sign_within : (text : List ℕ) (found : Option (List ℕ)) → find (starts_with nat_eq text) signs ≡ found → found_length found ≤ length text
sign_within text None e = omega arith
sign_within text (Some sign) e =
    let there = found_there (starts_with nat_eq text) signs sign e in
    omega (arith, ap length (starts_at text sign there.1), length-take (length sign) text)

-- what stands at the front, case by case
front_cases : (P : Front → Type 0) (b : ℕ) (rest : List ℕ)
    → (is_ascii_alphabetic b ≡ true → P (record { len = prefix_len is_name_byte (b ∷ rest); kind = Some Name }))
    → (is_ascii_digit b ≡ true → P (record {
      len = prefix_len is_ascii_digit (b ∷ rest);
      kind =
          Some (Number (decimal_value (take_while is_ascii_digit (b ∷ rest))));
    }))
    → P (record { len = 1; kind = None })
    → ((sign_length (b ∷ rest) ≡ 0 → ⊥) → P (record { len = sign_length (b ∷ rest); kind = Some Sign }))
    → P (front_of (b ∷ rest))
front_cases P b rest named numbered stray signed =
    let n : ℕ = sign_length (b ∷ rest) in
    let D : Front = record { len = n; kind = Some Sign } in
    let C : Front = record { len = 1; kind = None } in
    let B : Front = record { len = prefix_len is_ascii_digit (b ∷ rest); kind = Some (Number (decimal_value (take_while is_ascii_digit (b ∷ rest)))) } in
    let A : Front = record { len = prefix_len is_name_byte (b ∷ rest); kind = Some Name } in
    let by_sign : P (cond (n == 0) C D) =
    elim (n == 0) as (λ t. (n == 0) ≡ t → P (cond t C D))
    [ true ↦ λ e. stray | false ↦ λ e. signed (λ z. let hit = (Decides-eqb n 0).1 z in cc) ] refl in
    let by_digit : P (cond (is_ascii_digit b) B (cond (n == 0) C D)) =
    elim (is_ascii_digit b) as (λ t. is_ascii_digit b ≡ t → P (cond t B (cond (n == 0) C D)))
    [ true ↦ numbered | false ↦ λ e. by_sign ] refl in
    elim (is_ascii_alphabetic b) as (λ t. is_ascii_alphabetic b ≡ t → P (cond t A (cond (is_ascii_digit b) B (cond (n == 0) C D))))
    [ true ↦ named | false ↦ λ e. by_digit ] refl

-- the text of the token at the front is of its kind
pub front_text : (b : ℕ) (rest : List ℕ) (kind : TokenKind) → (front_of (b ∷ rest)).kind ≡ Some kind
    → IsOfKind kind (take (front_of (b ∷ rest)).len (b ∷ rest))
front_text b rest kind is_kind =
    front_cases (λ front. front.kind ≡ Some kind → IsOfKind kind (take front.len (b ∷ rest))) b rest
    (λ letter e.
    let same : Name ≡ kind = cc in
    subst (λ k. IsOfKind k (take (prefix_len is_name_byte (b ∷ rest)) (b ∷ rest))) same (name_text b rest letter))
    (λ digit e.
    let same : Number (decimal_value (take_while is_ascii_digit (b ∷ rest))) ≡ kind = cc in
    subst (λ k. IsOfKind k (take (prefix_len is_ascii_digit (b ∷ rest)) (b ∷ rest))) same (number_text b rest digit, refl))
    (λ e. cc)
    (λ some e.
    let same : Sign ≡ kind = cc in
    subst (λ k. IsOfKind k (take (sign_length (b ∷ rest)) (b ∷ rest))) same (sign_found (b ∷ rest) (find (starts_with nat_eq (b ∷ rest)) signs) refl some))
    is_kind

passes_some : (p : ℕ → Bool) (b : ℕ) (rest : List ℕ) → p b ≡ true → 0 < prefix_len p (b ∷ rest)
passes_some p b rest passes = rw passes (omega arith)

-- it is within the text, and has a byte at least
pub front_within : (b : ℕ) (rest : List ℕ) → (0 < (front_of (b ∷ rest)).len) × ((front_of (b ∷ rest)).len ≤ length (b ∷ rest))
front_within b rest =
    front_cases (λ front. (0 < front.len) × (front.len ≤ length (b ∷ rest))) b rest
    (λ letter. (passes_some is_name_byte b rest (letter_is_name_byte b letter), prefix_len-le-length is_name_byte (b ∷ rest)))
    (λ digit. (passes_some is_ascii_digit b rest digit, prefix_len-le-length is_ascii_digit (b ∷ rest)))
    (omega arith, omega arith)
    (λ some. (omega arith, sign_within (b ∷ rest) (find (starts_with nat_eq (b ∷ rest)) signs) refl))
