-- What a production reads of tokens that spell words.
use Rattle.std.proofs.Common.{◌≡◌, ℕ, Bool, true, false, List, [], ◌∷◌, ◌++◌, length, drop, pos, negsuc, ◌-ℤ◌, suc, refl, subst, ◌∙◌, ap, if◌then◌else◌, ◌==◌, arith, Some}
use Rattle.std.specs.Prelude.{ℤ, bytes_eq, codes, decimal, is_some}
use Rattle.std.proofs.lemmas.Int.{ints}
use Rattle.std.proofs.lemmas.Bool.{ne_eqb}
use Rattle.nim_lex.specs.declared.token.Token.{Token}
use Rattle.nim_lex.specs.Texts.{is_name, token_text}
use Rattle.nim_lex.specs.Numbers.{in_range, signed}
use Rattle.nim_parse.specs.Input.{Input, Parser, and_then, ◌>>=◌, pure, past_if_seen, done, eat, expect, first_name, first_number, has_text, int, left, name, past_token, number, sees, sees_name, with_sign}
use Rattle.nim_printed.specs.Lines.{int_words}
use Rattle.nim_printed.specs.Spelled.{is_int, is_small}
use Rattle.nim_printed.specs.Words.{Word, kind_of}
use Rattle.nim_printed.proofs.TreeWordKinds.{bytes_same, decimal_differs, kind_decimal, kind_name, one_more_small, small_enough}

-- a token that is this word
pub record SpellsOne (source : List ℕ) (t : Token) (word : Word) : Type 0 where
  pub text : token_text source t ≡ word
  pub kind : t.kind ≡ kind_of word

-- tokens that are these words
abbrev pub Spells : List ℕ → List Token → List Word → Type 0
Spells source [] [] = Unit {0}
Spells source [] (word ∷ words) = ⊥
Spells source (t ∷ ts) [] = ⊥
Spells source (t ∷ ts) (word ∷ words) = SpellsOne source t word × Spells source ts words

-- a production gives a value, and leaves the tokens of these words
pub record Leaves {A : Type 0} (p : Parser A) (a : A) (rest : List Word) (i : Input) : Type 0 where
  pub remaining : List Token
  pub gives : p i ≡ Some (a, record i { tokens = remaining })
  pub spells : Spells i.source remaining rest

pub record Reads {A : Type 0} (p : Parser A) (words : List Word) (a : A) (rest : List Word) : Type 0 where
  pub reads : (i : Input) → Spells i.source i.tokens words → Leaves p a rest i

-- ---- one after the other

pub then_reads : {A B : Type 0} {p : Parser A} (f : A → Parser B) {words middle rest : List Word} {a : A} {b : B}
    → Reads p words a middle → Reads (f a) middle b rest → Reads (p >>= f) words b rest
then_reads f first second = record {
  reads = λ i spelled.
      let one = first.reads i spelled in
      let two = second.reads (record i { tokens = one.remaining }) one.spells in
      record { remaining = two.remaining; gives = ap (λ o. and_then o f) one.gives ∙ two.gives; spells = two.spells };
}

-- the same words or values in other terms
pub respells : {A : Type 0} {p : Parser A} {a : A} {rest words more : List Word} → words ≡ more → Reads p words a rest → Reads p more a rest
respells {p = p} {a = a} {rest = rest} same before = subst (λ (ws : List Word). Reads p ws a rest) same before

pub regives : {A : Type 0} {p : Parser A} {a b : A} {rest words : List Word} → a ≡ b → Reads p words a rest → Reads p words b rest
regives {A = A} {p = p} {rest = rest} {words = words} same before = subst (λ (x : A). Reads p words x rest) same before

-- a production that a test picks
pub taken_true : {A : Type 0} (test : Input → Bool) (p q : Parser A) {words rest : List Word} {a : A}
    → ((i : Input) → Spells i.source i.tokens words → test i ≡ true) → Reads p words a rest → Reads (λ i. if test i then p i else q i) words a rest
taken_true test p q passes before = record {
  reads = λ i spelled.
      let one = before.reads i spelled in
      let seen : test i ≡ true = passes i spelled in
      record { remaining = one.remaining; gives = rw seen one.gives; spells = one.spells };
}

pub taken_false : {A : Type 0} (test : Input → Bool) (p q : Parser A) {words rest : List Word} {a : A}
    → ((i : Input) → Spells i.source i.tokens words → test i ≡ false) → Reads q words a rest → Reads (λ i. if test i then p i else q i) words a rest
taken_false test p q fails before = record {
  reads = λ i spelled.
      let one = before.reads i spelled in
      let unseen : test i ≡ false = fails i spelled in
      record { remaining = one.remaining; gives = rw unseen one.gives; spells = one.spells };
}

pub pure_reads : {A : Type 0} (a : A) (words : List Word) → Reads (pure a) words a words
pure_reads a words = record { reads = λ i spelled. record { remaining = i.tokens; gives = refl; spells = spelled } }

-- ---- the next token

pub first_text : (text word : Word) (rest : List Word) (source : List ℕ) (ts : List Token) → Spells source ts (word ∷ rest)
    → has_text text source ts ≡ bytes_eq word text
first_text text word rest source [] spelled = absurd spelled
first_text text word rest source (t ∷ ts) spelled = ap (λ (w : Word). bytes_eq w text) spelled.0.text

no_text : (text : Word) (source : List ℕ) (ts : List Token) → Spells source ts [] → has_text text source ts ≡ false
no_text text source [] spelled = refl
no_text text source (t ∷ ts) spelled = absurd spelled

dropped : (word : Word) (rest : List Word) (source : List ℕ) (ts : List Token) → Spells source ts (word ∷ rest) → Spells source (drop 1 ts) rest
dropped word rest source [] spelled = absurd spelled
dropped word rest source (t ∷ ts) spelled = spelled.1

-- how many tokens there are
pub spelled_length : (source : List ℕ) (ts : List Token) (words : List Word) → Spells source ts words → length ts ≡ length words
spelled_length source [] [] spelled = refl
spelled_length source [] (word ∷ words) spelled = absurd spelled
spelled_length source (t ∷ ts) [] spelled = absurd spelled
spelled_length source (t ∷ ts) (word ∷ words) spelled = ap suc (spelled_length source ts words spelled.1)

-- a production that is told how many tokens are left
pub counted_reads : {A : Type 0} (f : ℕ → Parser A) {words rest : List Word} {a : A} → Reads (f (length words)) words a rest
    → Reads (λ i. f (left i) i) words a rest
unfolding left
counted_reads f {words} before = record {
  reads = λ i spelled.
      let one = before.reads i spelled in
      let count : length i.tokens ≡ length words = spelled_length i.source i.tokens words spelled in
      record { remaining = one.remaining; gives = ap (λ n. f n i) count ∙ one.gives; spells = one.spells };
}

pub some_left : (word : Word) (rest : List Word) (source : List ℕ) (ts : List Token) → Spells source ts (word ∷ rest) → (length ts == 0) ≡ false
some_left word rest source [] spelled = absurd spelled
some_left word rest source (t ∷ ts) spelled = ne_eqb (length (t ∷ ts)) 0 (λ e. omega arith)

pub takes_word : (text : Word) (rest : List Word) → Reads (eat text) (text ∷ rest) true rest
unfolding sees past_token past_if_seen
takes_word text rest = record {
  reads = λ i spelled.
      let seen : has_text text i.source i.tokens ≡ true = first_text text text rest i.source i.tokens spelled ∙ bytes_same text in
      record { remaining = drop 1 i.tokens; gives = rw seen refl; spells = dropped text rest i.source i.tokens spelled };
}

pub passes_word : (text word : Word) (rest : List Word) → bytes_eq word text ≡ false → Reads (eat text) (word ∷ rest) false (word ∷ rest)
unfolding sees past_if_seen
passes_word text word rest other = record {
  reads = λ i spelled.
      let unseen : has_text text i.source i.tokens ≡ false = first_text text word rest i.source i.tokens spelled ∙ other in
      record { remaining = i.tokens; gives = rw unseen refl; spells = spelled };
}

pub passes_end : (text : Word) → Reads (eat text) [] false []
unfolding sees past_if_seen
passes_end text = record {
  reads = λ i spelled.
      let unseen : has_text text i.source i.tokens ≡ false = no_text text i.source i.tokens spelled in
      record { remaining = i.tokens; gives = rw unseen refl; spells = spelled };
}

-- a word that picks how to go on
pub takes_then : {A : Type 0} (text : Word) (p q : Parser A) {rest more : List Word} {a : A}
    → Reads p rest a more → Reads (eat text >>= (λ found. if found then p else q)) (text ∷ rest) a more
takes_then text p q {rest} before = then_reads (λ found. if found then p else q) (takes_word text rest) before

pub passes_then : {A : Type 0} (text : Word) (p q : Parser A) (word : Word) {rest more : List Word} {a : A}
    → bytes_eq word text ≡ false → Reads q (word ∷ rest) a more → Reads (eat text >>= (λ found. if found then p else q)) (word ∷ rest) a more
passes_then text p q word {rest} other before = then_reads (λ found. if found then p else q) (passes_word text word rest other) before

pub ends_then : {A : Type 0} (text : Word) (p q : Parser A) {more : List Word} {a : A}
    → Reads q [] a more → Reads (eat text >>= (λ found. if found then p else q)) [] a more
ends_then text p q before = then_reads (λ found. if found then p else q) (passes_end text) before

pub expects : (text : Word) (rest : List Word) → Reads (expect text) (text ∷ rest) tt rest
unfolding expect sees past_token
expects text rest = record {
  reads = λ i spelled.
      let seen : has_text text i.source i.tokens ≡ true = first_text text text rest i.source i.tokens spelled ∙ bytes_same text in
      record { remaining = drop 1 i.tokens; gives = rw seen refl; spells = dropped text rest i.source i.tokens spelled };
}

pub done_reads : Reads done [] tt []
unfolding done left
done_reads = record {
  reads = λ i spelled.
      let none : length i.tokens ≡ 0 = spelled_length i.source i.tokens [] spelled in
      record { remaining = i.tokens; gives = rw none refl; spells = spelled };
}

first_name_is : (word : Word) (rest : List Word) (source : List ℕ) (ts : List Token) → is_name word ≡ true → Spells source ts (word ∷ rest)
    → first_name source ts ≡ Some word
first_name_is word rest source [] is spelled = absurd spelled
first_name_is word rest source (t ∷ ts) is spelled = rw (spelled.0.kind, kind_name word is, spelled.0.text) refl

pub name_reads : (word : Word) (rest : List Word) → is_name word ≡ true → Reads name (word ∷ rest) word rest
unfolding name past_token
name_reads word rest is = record {
  reads = λ i spelled.
      let found : first_name i.source i.tokens ≡ Some word = first_name_is word rest i.source i.tokens is spelled in
      record { remaining = drop 1 i.tokens; gives = rw found refl; spells = dropped word rest i.source i.tokens spelled };
}

first_number_is : (n : ℕ) (rest : List Word) (source : List ℕ) (ts : List Token) → is_small n ≡ true → Spells source ts (decimal n ∷ rest)
    → first_number ts ≡ Some n
first_number_is n rest source [] small spelled = absurd spelled
first_number_is n rest source (t ∷ ts) small spelled = rw (spelled.0.kind, kind_decimal n small) refl

pub number_reads : (n : ℕ) (rest : List Word) → is_small n ≡ true → Reads number (decimal n ∷ rest) n rest
unfolding number past_token
number_reads n rest small = record {
  reads = λ i spelled.
      let found : first_number i.tokens ≡ Some n = first_number_is n rest i.source i.tokens small spelled in
      record { remaining = drop 1 i.tokens; gives = rw found refl; spells = dropped (decimal n) rest i.source i.tokens spelled };
}

-- whether a name comes next
pub sees_named : (word : Word) (rest : List Word) (i : Input) → is_name word ≡ true → Spells i.source i.tokens (word ∷ rest) → sees_name i ≡ true
unfolding sees_name
sees_named word rest i is spelled = rw (first_name_is word rest i.source i.tokens is spelled) refl

no_name_at : (n : ℕ) (rest : List Word) (source : List ℕ) (ts : List Token) → is_small n ≡ true → Spells source ts (decimal n ∷ rest)
    → is_some (first_name source ts) ≡ false
no_name_at n rest source [] small spelled = absurd spelled
no_name_at n rest source (t ∷ ts) small spelled = rw (spelled.0.kind, kind_decimal n small) refl

pub sees_number : (n : ℕ) (rest : List Word) (i : Input) → is_small n ≡ true → Spells i.source i.tokens (decimal n ∷ rest) → sees_name i ≡ false
unfolding sees_name
sees_number n rest i small spelled = no_name_at n rest i.source i.tokens small spelled

no_minus_name : (rest : List Word) (source : List ℕ) (ts : List Token) → Spells source ts (codes "-" ∷ rest) → is_some (first_name source ts) ≡ false
no_minus_name rest source [] spelled = absurd spelled
no_minus_name rest source (t ∷ ts) spelled = rw spelled.0.kind refl

pub sees_minus : (rest : List Word) (i : Input) → Spells i.source i.tokens (codes "-" ∷ rest) → sees_name i ≡ false
unfolding sees_name
sees_minus rest i spelled = no_minus_name rest i.source i.tokens spelled

-- ---- ints

sign_reads : (negative : Bool) (n : ℕ) (rest : List Word) → in_range negative n ≡ true → Reads (with_sign negative n) rest (signed negative n) rest
unfolding with_sign
sign_reads negative n rest fits = record {
  reads = λ i spelled. record { remaining = i.tokens; gives = rw fits refl; spells = spelled };
}

minus_int : (n : ℕ) → pos 0 -ℤ pos (suc n) ≡ negsuc n
minus_int n = omega (arith, ints)

pub int_reads : (number : ℤ) (rest : List Word) → is_int number ≡ true → Reads int (int_words number ++ rest) number rest
unfolding int
int_reads (pos n) rest small =
    then_reads (λ negative. number >>= with_sign negative) (passes_word (codes "-") (decimal n) rest
    (decimal_differs n (codes "-") (small_enough n small) refl))
    (then_reads _ (number_reads n rest (small_enough n small)) (sign_reads false n rest small))
int_reads (negsuc n) rest small =
    regives (minus_int n)
    (then_reads (λ negative. number >>= with_sign negative) (takes_word (codes "-") (decimal (suc n) ∷ rest))
    (then_reads _ (number_reads (suc n) rest (one_more_small n small)) (sign_reads true (suc n) rest (one_more_small n small))))

pub int_alone : (number : ℤ) → is_int number ≡ true → Reads int (int_words number) number []
int_alone (pos n) small = int_reads (pos n) [] small
int_alone (negsuc n) small = int_reads (negsuc n) [] small
