-- Lines of words are read as the tokens of those words.
use Rattle.std.proofs.Common.{◌≡◌, ℕ, ◌+◌, true, false, List, [], ◌∷◌, ◌++◌, append_assoc, length, map, take, drop, refl, sym, ◌∙◌, ap, ap₂, arith, length-append, None}
use Rattle.std.specs.Prelude.{nat_lt}
use Rattle.std.specs.List.{filter_map, flat_map, list_all}
use Rattle.std.proofs.lemmas.Bool.{and_parts, le-ltb}
use Rattle.std.proofs.lemmas.List.{append-nil, drop-drop, drop_at, map-append, take_at}
use Rattle.nim_lex.specs.declared.token.Token.{Token}
use Rattle.nim_lex.specs.Rules.{broken_by}
use Rattle.nim_lex.specs.Source.{cut, first_refusal, line_at, line_tokens, numbered_lines, token_of}
use Rattle.nim_lex.specs.Texts.{token_text}
use Rattle.nim_lex.proofs.SourceSteps.{cut_line, refusal_later}
use Rattle.nim_printed.specs.Laws.{WordsAreRead, most_bytes}
use Rattle.nim_printed.specs.Words.{Word, is_word, line_text, line_tokens_of, lines_text, lines_tokens_of}
use Rattle.nim_printed.proofs.WordsPieces.{line_bytes, line_inner, line_pieces, more_bytes, pieces_sound, pieces_tokens}

-- each line is of words
abbrev AreLines : List (List Word) → Type 0
AreLines lines = list_all (list_all is_word) lines ≡ true

-- ---- lines end with a newline

text_from : (word : Word) (words : List Word) → line_text (word ∷ words) ≡ word ++ more_bytes words ++ 10 ∷ []
text_from word [] = ap (λ (xs : List ℕ). xs ++ 10 ∷ []) (sym (append-nil word))
text_from word (next ∷ words) =
    ap (λ (xs : List ℕ). word ++ 32 ∷ xs) (text_from next words) ∙ sym (append_assoc word (32 ∷ next ++ more_bytes words) (10 ∷ []))

line_text_is : (words : List Word) → line_text words ≡ line_bytes words ++ 10 ∷ []
line_text_is [] = refl
line_text_is (word ∷ words) = text_from word words

line_text_long : (words : List Word) → length (line_text words) ≡ length (line_bytes words) + 1
line_text_long words = ap length (line_text_is words) ∙ length-append (line_bytes words) (10 ∷ [])

lines_text_is : (words : List Word) (lines : List (List Word)) → lines_text (words ∷ lines) ≡ line_bytes words ++ 10 ∷ lines_text lines
lines_text_is words lines =
    ap (λ (xs : List ℕ). xs ++ lines_text lines) (line_text_is words) ∙ append_assoc (line_bytes words) (10 ∷ []) (lines_text lines)

cut_lines : (lines : List (List Word)) → AreLines lines → cut (lines_text lines) ≡ map line_bytes lines
cut_lines [] are = refl
cut_lines (words ∷ lines) are =
    let both = and_parts (list_all is_word words) (list_all (list_all is_word) lines) are in
    ap cut (lines_text_is words lines)
    ∙ cut_line (line_bytes words) (lines_text lines) (line_inner words both.0)
    ∙ ap (λ (rest : List (List ℕ)). line_bytes words ∷ rest) (cut_lines lines both.1)

-- ---- no line is refused, and its tokens are its words

lines_sound : (number at : ℕ) (lines : List (List Word)) → AreLines lines → first_refusal (numbered_lines number at (map line_bytes lines)) ≡ None
lines_sound number at [] are = refl
lines_sound number at (words ∷ lines) are =
    let both = and_parts (list_all is_word words) (list_all (list_all is_word) lines) are in
    let next : ℕ = at + length (line_bytes words) + 1 in
    refusal_later (line_at number at (line_bytes words)) (numbered_lines (number + 1) next (map line_bytes lines))
    (ap broken_by (line_pieces at words both.0) ∙ pieces_sound at words both.0)
    ∙ lines_sound (number + 1) next lines both.1

lines_tokens : (number at : ℕ) (lines : List (List Word)) → AreLines lines
    → flat_map line_tokens (numbered_lines number at (map line_bytes lines)) ≡ lines_tokens_of number at lines
lines_tokens number at [] are = refl
lines_tokens number at (words ∷ lines) are =
    let both = and_parts (list_all is_word words) (list_all (list_all is_word) lines) are in
    let next : ℕ = at + length (line_bytes words) + 1 in
    let long = line_text_long words in
    let past : next ≡ at + length (line_text words) = omega arith in
    ap₂ (λ (xs ys : List Token). xs ++ ys)
    (ap (filter_map (token_of number)) (line_pieces at words both.0) ∙ pieces_tokens number at words)
    (lines_tokens (number + 1) next lines both.1 ∙ ap (λ k. lines_tokens_of (number + 1) k lines) past)

-- ---- texts

text_here : (source : List ℕ) (at : ℕ) (word after : List ℕ) → drop at source ≡ word ++ after → take (length word) (drop at source) ≡ word
text_here source at word after here = ap (take (length word)) here ∙ take_at word after (length word) refl

text_after : (source : List ℕ) (at n : ℕ) (word after : List ℕ) → drop at source ≡ word ++ after → length word ≡ n → drop (at + n) source ≡ after
text_after source at n word after here long = sym (drop-drop n at source) ∙ ap (drop n) here ∙ drop_at word after n long

words_texts : (source : List ℕ) (number at : ℕ) (word : Word) (words : List Word) (after : List ℕ) → drop at source ≡ word ++ more_bytes words ++ 10 ∷ after
    → map (token_text source) (line_tokens_of number at (word ∷ words)) ≡ word ∷ words
words_texts source number at word [] after here =
    ap (λ (text : Word). text ∷ []) (text_here source at word (10 ∷ after) (here ∙ append_assoc word [] (10 ∷ after)))
words_texts source number at word (next ∷ words) after here =
    let later : List ℕ = next ++ more_bytes words ++ 10 ∷ after in
    let flat : drop at source ≡ word ++ 32 ∷ later = here ∙ append_assoc word (32 ∷ next ++ more_bytes words) (10 ∷ after) in
    let behind : drop (at + length word) source ≡ 32 ∷ later = text_after source at (length word) word (32 ∷ later) flat refl in
    let on : drop (at + length word + 1) source ≡ later = text_after source (at + length word) 1 (32 ∷ []) later behind refl in
    ap₂ (λ (text : Word) (texts : List Word). text ∷ texts)
    (text_here source at word (32 ∷ later) flat)
    (words_texts source number (at + length word + 1) next words after on)

line_texts : (source : List ℕ) (number at : ℕ) (words : List Word) (after : List ℕ) → drop at source ≡ line_bytes words ++ 10 ∷ after
    → map (token_text source) (line_tokens_of number at words) ≡ words
line_texts source number at [] after here = refl
line_texts source number at (word ∷ words) after here = words_texts source number at word words after here

lines_texts : (source : List ℕ) (number at : ℕ) (lines : List (List Word)) → drop at source ≡ lines_text lines
    → map (token_text source) (lines_tokens_of number at lines) ≡ flat_map (λ words. words) lines
lines_texts source number at [] here = refl
lines_texts source number at (words ∷ lines) here =
    let n : ℕ = length (line_text words) in
    map-append (token_text source) (line_tokens_of number at words) (lines_tokens_of (number + 1) (at + n) lines)
    ∙ ap₂ (λ (xs ys : List Word). xs ++ ys)
    (line_texts source number at words (lines_text lines) (here ∙ lines_text_is words lines))
    (lines_texts source (number + 1) (at + n) lines (text_after source at n (line_text words) (lines_text lines) here refl))

-- ---- the law

pub words_read : (lines : List (List Word)) → WordsAreRead lines
words_read lines are long =
    let source : List ℕ = lines_text lines in
    let fits : nat_lt most_bytes (length source) ≡ false = le-ltb most_bytes (length source) long in
    record {
      sound = rw fits (ap (λ ls. first_refusal (numbered_lines 1 0 ls)) (cut_lines lines are) ∙ lines_sound 1 0 lines are);
      tokens = ap (λ ls. flat_map line_tokens (numbered_lines 1 0 ls)) (cut_lines lines are) ∙ lines_tokens 1 0 lines are;
      texts = lines_texts source 1 0 lines refl;
    }
