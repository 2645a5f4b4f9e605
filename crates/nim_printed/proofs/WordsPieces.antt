-- The pieces of a printed line are its words.
use Rattle.std.proofs.Common.{◌≡◌, ℕ, ◌+◌, ◌-◌, true, false, List, [], ◌∷◌, ◌++◌, length, refl, ◌∙◌, ap, arith, Option, None}
use Rattle.std.specs.Prelude.{not}
use Rattle.std.specs.List.{filter_map, list_all}
use Rattle.std.proofs.lemmas.Bool.{and_from, and_parts, false≢true, not-true}
use Rattle.std.proofs.lemmas.List.Folds.{list_all-append}
use Rattle.nim_lex.specs.declared.token.Token.{Token}
use Rattle.nim_lex.specs.Bytes.{is_blank, is_hash}
use Rattle.nim_lex.specs.Pieces.{Front, Piece, front_of, piece, pieces}
use Rattle.nim_lex.specs.Rules.{broken_by, smaller}
use Rattle.nim_lex.specs.Source.{token_of}
use Rattle.nim_lex.proofs.LineSteps.{broken-cons, broken-nil, broken-piece}
use Rattle.nim_printed.specs.Words.{Word, is_word, kind_of, line_tokens_of}
use Rattle.nim_lex.proofs.SourceSteps.{is_inner}
use Rattle.nim_printed.proofs.WordsFronts.{Reads, front_at, word_reads}

-- words with a space before each
abbrev pub more_bytes : List Word → List ℕ
more_bytes [] = []
more_bytes (word ∷ words) = 32 ∷ word ++ more_bytes words

-- the bytes of a line without its newline
abbrev pub line_bytes : List Word → List ℕ
line_bytes [] = []
line_bytes (word ∷ words) = word ++ more_bytes words

-- the pieces of words with a space between them
abbrev pub pieces_for : ℕ → List Word → List Piece
pieces_for at [] = []
pieces_for at (word ∷ words) = piece at (front_at word (kind_of word)) ∷ pieces_for (at + length word + 1) words

-- ---- no newline

more_inner : (words : List Word) → list_all is_word words ≡ true → list_all is_inner (more_bytes words) ≡ true
more_inner [] are = refl
more_inner (word ∷ words) are =
    let both = and_parts (is_word word) (list_all is_word words) are in
    let first = word_reads word both.0 in
    list_all-append is_inner word (more_bytes words)
    ∙ and_from (list_all is_inner word) (list_all is_inner (more_bytes words)) first.one_line (more_inner words both.1)

pub line_inner : (words : List Word) → list_all is_word words ≡ true → list_all is_inner (line_bytes words) ≡ true
line_inner [] are = refl
line_inner (word ∷ words) are = more_inner (word ∷ words) are

-- ---- pieces

front_before : (word : Word) (words : List Word) → Reads word → front_of (word ++ more_bytes words) ≡ front_at word (kind_of word)
front_before word [] reads = reads.alone
front_before word (next ∷ words) reads = reads.spaced (next ++ more_bytes words)

-- the bytes of a token make no piece of their own
skip_bytes : (at : ℕ) (xs after : List ℕ) → pieces at (length xs) (xs ++ after) ≡ pieces (at + length xs) 0 after
skip_bytes at [] after = ap (λ k. pieces k 0 after) (omega arith)
skip_bytes at (x ∷ xs) after = skip_bytes (at + 1) xs after ∙ ap (λ k. pieces k 0 after) (omega arith)

token_front : (at b : ℕ) (rest after : List ℕ) (front : Front) → is_hash b ≡ false → is_blank b ≡ false
    → front_of (b ∷ rest ++ after) ≡ front → front.len ≡ length (b ∷ rest)
    → pieces at 0 (b ∷ rest ++ after) ≡ piece at front ∷ pieces (at + length (b ∷ rest)) 0 after
token_front at b rest after front hash blank is_front long =
    let inside : front.len - 1 ≡ length rest = omega arith in
    let past : at + 1 + length rest ≡ at + length (b ∷ rest) = omega arith in
    rw (hash, blank)
    (ap (λ (f : Front). piece at f ∷ pieces (at + 1) (f.len - 1) (rest ++ after)) is_front
    ∙ ap (λ k. piece at front ∷ pieces (at + 1) k (rest ++ after)) inside
    ∙ ap (λ (ps : List Piece). piece at front ∷ ps) (skip_bytes (at + 1) rest after ∙ ap (λ k. pieces k 0 after) past))

one_piece : (at : ℕ) (word : Word) (words : List Word) → Reads word
    → pieces at 0 (word ++ more_bytes words) ≡ piece at (front_at word (kind_of word)) ∷ pieces (at + length word) 0 (more_bytes words)
one_piece at [] words reads = absurd (false≢true reads.begun)
one_piece at (b ∷ rest) words reads =
    let both = and_parts (not (is_hash b)) (not (is_blank b)) reads.begun in
    token_front at b rest (more_bytes words) (front_at (b ∷ rest) (kind_of (b ∷ rest)))
    (not-true (is_hash b) both.0) (not-true (is_blank b) both.1) (front_before (b ∷ rest) words reads) refl

words_pieces : (at : ℕ) (word : Word) (words : List Word) → list_all is_word (word ∷ words) ≡ true
    → pieces at 0 (word ++ more_bytes words) ≡ pieces_for at (word ∷ words)
words_pieces at word [] are = one_piece at word [] (word_reads word (and_parts (is_word word) true are).0)
words_pieces at word (next ∷ words) are =
    let both = and_parts (is_word word) (list_all is_word (next ∷ words)) are in
    one_piece at word (next ∷ words) (word_reads word both.0)
    ∙ ap (λ (ps : List Piece). piece at (front_at word (kind_of word)) ∷ ps) (words_pieces (at + length word + 1) next words both.1)

pub line_pieces : (at : ℕ) (words : List Word) → list_all is_word words ≡ true → pieces at 0 (line_bytes words) ≡ pieces_for at words
line_pieces at [] are = refl
line_pieces at (word ∷ words) are = words_pieces at word words are

-- no rule refuses them
pub pieces_sound : (at : ℕ) (words : List Word) → list_all is_word words ≡ true → broken_by (pieces_for at words) ≡ None
pieces_sound at [] are = broken-nil
pieces_sound at (word ∷ words) are =
    let both = and_parts (is_word word) (list_all is_word words) are in
    let first = word_reads word both.0 in
    let front : Front = front_at word (kind_of word) in
    let later : List Piece = pieces_for (at + length word + 1) words in
    broken-cons (piece at front) later
    ∙ ap (λ (rule : Option ℕ). smaller rule (broken_by later)) (broken-piece at front ∙ first.sound)
    ∙ pieces_sound (at + length word + 1) words both.1

-- each is a token
pub pieces_tokens : (number at : ℕ) (words : List Word) → filter_map (token_of number) (pieces_for at words) ≡ line_tokens_of number at words
pieces_tokens number at [] = refl
pieces_tokens number at (word ∷ words) =
    let t : Token = record { line = number; at = at; len = length word; kind = kind_of word } in
    ap (λ (ts : List Token). t ∷ ts) (pieces_tokens number (at + length word + 1) words)
