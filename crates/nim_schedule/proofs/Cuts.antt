-- The first word of a text, and the words behind it.
use Rattle.std.proofs.Common.{◌≡◌, ◌∙◌, ℕ, zero, suc, ◌+◌, cond, true, false, List, [], ◌∷◌, take, drop, refl, sym, ap, arith}
use Rattle.std.specs.List.{prefix_len}
use Rattle.nim_lex.specs.Bytes.{is_blank, is_word_byte}
use Rattle.nim_schedule.specs.Words.{words_from, words_in}

one_more : (n : ℕ) → 1 + n ≡ suc n
one_more n = omega arith

-- the bytes that belong to the word before
behind_word : (n : ℕ) (text : List ℕ) → words_from n text ≡ words_in (drop n text)
unfolding words_from
behind_word zero text = refl
behind_word (suc n) [] = refl
behind_word (suc n) (b ∷ rest) = behind_word n rest

-- blanks before the first word
without_blanks : (text : List ℕ) → words_in text ≡ words_in (drop (prefix_len is_blank text) text)
unfolding words_from
without_blanks [] = refl
without_blanks (b ∷ rest) =
    elim (is_blank b) as (λ t. is_blank b ≡ t → words_in (b ∷ rest) ≡ words_in (drop (cond t (1 + prefix_len is_blank rest) 0) (b ∷ rest))) [
      | true ↦ λ blank. rw (blank, one_more (prefix_len is_blank rest)) (without_blanks rest)
      | false ↦ λ other. refl
    ] refl

no_suc : (n m : ℕ) → n ≡ 1 + m → n ≡ 0 → ⊥
no_suc n m is none = absurd (omega arith)

-- a text that begins with a word of so many bytes
begins_with : (text : List ℕ) (n : ℕ) → n ≡ prefix_len is_word_byte text → (n ≡ 0 → ⊥) → words_in text ≡ take n text ∷ words_in (drop n text)
unfolding words_from
begins_with [] n is some = absurd (some is)
begins_with (b ∷ rest) n is some =
    elim (is_blank b) as (λ t. is_blank b ≡ t → words_in (b ∷ rest) ≡ take n (b ∷ rest) ∷ words_in (drop n (b ∷ rest))) [
      | true ↦ λ blank. absurd (some (is ∙ (rw blank refl)))
      | false ↦ λ other.
          let k : ℕ = prefix_len is_word_byte rest in
          let len : n ≡ suc k = is ∙ (rw other refl) ∙ one_more k in
          rw (len, other, one_more k) (ap (λ words. (b ∷ take k rest) ∷ words) (behind_word k rest))
    ] refl

-- a text whose blanks no word follows
only_blanks : (text : List ℕ) → prefix_len is_word_byte (drop (prefix_len is_blank text) text) ≡ 0 → words_in text ≡ []
unfolding words_from
only_blanks [] none = refl
only_blanks (b ∷ rest) none =
    elim (is_blank b) as (λ t. is_blank b ≡ t → words_in (b ∷ rest) ≡ []) [
      | true ↦ λ blank. rw blank (only_blanks rest (rw (blank, one_more (prefix_len is_blank rest)) at none))
      | false ↦ λ other. absurd (no_suc _ (prefix_len is_word_byte rest) (rw other refl) (rw other at none))
    ] refl

-- what is left of a text behind its blanks begins with its first word
pub first_word : (text rest : List ℕ) (blanks n : ℕ) → blanks ≡ prefix_len is_blank text → rest ≡ drop blanks text
    → n ≡ prefix_len is_word_byte rest → (n ≡ 0 → ⊥) → words_in text ≡ take n rest ∷ words_in (drop n rest)
first_word text rest blanks n blank is len some =
    let here : rest ≡ drop (prefix_len is_blank text) text = is ∙ ap (λ k. drop k text) blank in
    without_blanks text ∙ ap words_in (sym here) ∙ begins_with rest n len some

pub no_word : (text rest : List ℕ) (blanks n : ℕ) → blanks ≡ prefix_len is_blank text → rest ≡ drop blanks text
    → n ≡ prefix_len is_word_byte rest → n ≡ 0 → words_in text ≡ []
no_word text rest blanks n blank is len none =
    let here : rest ≡ drop (prefix_len is_blank text) text = is ∙ ap (λ k. drop k text) blank in
    only_blanks text (ap (prefix_len is_word_byte) (sym here) ∙ sym len ∙ none)
