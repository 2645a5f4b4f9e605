-- The lists of a line are read back.
use Rattle.std.proofs.Common.{◌≡◌, ℕ, zero, suc, ◌<◌, ◌≤◌, ◌==◌, Bool, true, false, ◌||◌, List, [], ◌∷◌, ◌++◌, length, map, refl, sym, ◌∙◌, ap, subst, append_assoc, append-nil, length-append, arith}
use Rattle.std.specs.Prelude.{pos, negsuc, bytes_eq, codes, decimal}
use Rattle.std.specs.List.{flat_map, list_all}
use Rattle.std.proofs.lemmas.Bool.{and_parts, false≢true}
use Rattle.nim_parse.specs.declared.sections.Atom.{Atom}
use Rattle.nim_parse.specs.declared.sections.Atom.TheVariants.{Number, Name}
use Rattle.nim_parse.specs.declared.sections.Ref.{Ref}
use Rattle.nim_parse.specs.Grammar.{atom, atoms, each, ends, listed, more, more_from, names, parameters, reads, reads_from, reference, some_after, some_from, values, writes}
use Rattle.nim_parse.specs.Input.{Input, Parser, has_text, left, name, pure, refuse, sees}
use Rattle.nim_check.specs.Names.{reserved}
use Rattle.nim_printed.specs.Lines.{atom_words, each_words, listed_words, more_words, ref_words, with_words}
use Rattle.nim_printed.specs.Spelled.{is_unreserved, is_small}
use Rattle.nim_printed.specs.Trees.{is_printable_atom, is_index, is_printable_ref, is_some_refs}
use Rattle.nim_printed.specs.Words.{Word}
use Rattle.nim_printed.proofs.TreeAtoms.{atom_reads, reference_reads}
use Rattle.nim_printed.proofs.TreeReads.{Reads, Spells, counted_reads, ends_then, expects, first_text, name_reads, passes_then, pure_reads, regives, respells, some_left, spelled_length, taken_false, taken_true, takes_then, then_reads}
use Rattle.nim_printed.proofs.TreeWordKinds.{decimal_differs, differ, free_name, small_enough}

-- ---- items in brackets

-- how an item is printed and read: from its words, of which the first is no closing bracket
pub record Item {A : Type 0} (item : Parser A) (words_of : A → List Word) (passes : A → Bool) : Type 0 where
  pub reads_one : (x : A) (rest : List Word) → passes x ≡ true → Reads item (words_of x ++ rest) x rest
  pub first : A → Word
  pub others : A → List Word
  pub begins : (x : A) → words_of x ≡ first x ∷ others x
  pub opens : (x : A) → passes x ≡ true → bytes_eq (first x) (codes ")") ≡ false

more_length : {A : Type 0} (words_of : A → List Word) (xs : List A) → length xs < length (more_words (map words_of xs))
more_length words_of [] = omega arith
more_length words_of (x ∷ xs) =
    omega (arith, more_length words_of xs, length-append (words_of x) (more_words (map words_of xs)))

more_read : {A : Type 0} (item : Parser A) (words_of : A → List Word) (passes : A → Bool) → Item item words_of passes
    → (n : ℕ) (xs found : List A) (rest : List Word) → length xs < n → list_all passes xs ≡ true
    → Reads (more_from item n found) (more_words (map words_of xs) ++ rest) (found ++ xs) rest
unfolding more_from
more_read item words_of passes how zero xs found rest turns are = absurd (omega arith)
more_read item words_of passes how (suc n) [] found rest turns are =
    takes_then (codes ")") _ _ (regives (sym (append-nil found)) (pure_reads found rest))
more_read item words_of passes how (suc n) (x ∷ xs) found rest turns are =
    let both = and_parts (passes x) (list_all passes xs) are in
    let later = more_read item words_of passes how n xs (found ++ x ∷ []) rest (omega arith) both.1 in
    passes_then (codes ")") _ _ (codes ",") refl
    (regives (append_assoc found (x ∷ []) xs)
    (respells (ap (λ (ws : List Word). codes "," ∷ ws) (sym (append_assoc (words_of x) (more_words (map words_of xs)) rest)))
    (then_reads _ (then_reads _ (expects (codes ",") _) (how.reads_one x (more_words (map words_of xs) ++ rest) both.0)) later)))

more_at : {A : Type 0} (item : Parser A) (words_of : A → List Word) (passes : A → Bool) → Item item words_of passes
    → (x : A) (xs : List A) (rest : List Word) → list_all passes xs ≡ true
    → Reads (more item x) (more_words (map words_of xs) ++ rest) (x ∷ xs) rest
more_at item words_of passes how x xs rest are =
    let words : List Word = more_words (map words_of xs) in
    counted_reads (λ n. more_from item n (x ∷ []))
    (more_read item words_of passes how (length (words ++ rest)) xs (x ∷ []) rest (omega (arith, more_length words_of xs, length-append words rest)) are)

pub listed_reads : {A : Type 0} (item : Parser A) (words_of : A → List Word) (passes : A → Bool) → Item item words_of passes
    → (xs : List A) → list_all passes xs ≡ true → Reads (listed item) (listed_words (map words_of xs)) xs []
listed_reads item words_of passes how [] are = then_reads _ (expects (codes "(") _) (takes_then (codes ")") _ _ (pure_reads [] []))
listed_reads item words_of passes how (x ∷ xs) are =
    let both = and_parts (passes x) (list_all passes xs) are in
    let rest : List Word = more_words (map words_of xs) in
    let later = respells (append-nil rest) (more_at item words_of passes how x xs [] both.1) in
    let items = then_reads (more item) (how.reads_one x rest both.0) later in
    let same : words_of x ++ rest ≡ how.first x ∷ (how.others x ++ rest) = ap (λ (ws : List Word). ws ++ rest) (how.begins x) in
    then_reads _ (expects (codes "(") _)
    (respells (sym same) (passes_then (codes ")") _ _ (how.first x) (how.opens x both.0) (respells same items)))

name_item : Item name (λ (word : Word). word ∷ []) is_unreserved
name_item = record {
  reads_one = λ word rest free. name_reads word rest (free_name word free);
  first = λ word. word;
  others = λ word. [];
  begins = λ word. refl;
  opens = λ word free. differ is_unreserved word (codes ")") free refl;
}

pub names_reads : (words : List Word) → list_all is_unreserved words ≡ true → Reads names (listed_words (map (λ word. word ∷ []) words)) words []
unfolding names
names_reads words are = listed_reads name (λ word. word ∷ []) is_unreserved name_item words are

pub atom_first : Atom → Word
atom_first (Number (pos n)) = decimal n
atom_first (Number (negsuc n)) = codes "-"
atom_first (Name word) = word

pub atom_others : Atom → List Word
atom_others (Number (pos n)) = []
atom_others (Number (negsuc n)) = decimal (suc n) ∷ []
atom_others (Name word) = []

pub atom_begins : (a : Atom) → atom_words a ≡ atom_first a ∷ atom_others a
unfolding atom_first atom_others
atom_begins (Number (pos n)) = refl
atom_begins (Number (negsuc n)) = refl
atom_begins (Name word) = refl

-- an atom begins with no word that is neither
pub atom_differs : (a : Atom) (text : Word) → is_printable_atom a ≡ true → is_unreserved text ≡ false
    → ((n : ℕ) → is_small n ≡ true → bytes_eq (decimal n) text ≡ false)
    → bytes_eq (codes "-") text ≡ false → bytes_eq (atom_first a) text ≡ false
unfolding atom_first
atom_differs (Number (pos n)) text are taken numbers minus = numbers n (small_enough n are)
atom_differs (Number (negsuc n)) text are taken numbers minus = minus
atom_differs (Name word) text are taken numbers minus = differ is_unreserved word text are taken

atom_item : Item atom atom_words is_printable_atom
atom_item = record {
  reads_one = atom_reads;
  first = atom_first;
  others = atom_others;
  begins = atom_begins;
  opens = λ a are. atom_differs a (codes ")") are refl (λ n small. decimal_differs n (codes ")") small refl) refl;
}

pub atoms_reads : (xs : List Atom) → list_all is_printable_atom xs ≡ true → Reads atoms (listed_words (map atom_words xs)) xs []
unfolding atoms
atoms_reads xs are = listed_reads atom atom_words is_printable_atom atom_item xs are

-- ---- refs up to an arrow

-- a list has no more items than words, where each has one at least
refs_length : (refs : List Ref) → length refs ≤ length (flat_map ref_words refs)
refs_length [] = omega arith
refs_length (ref ∷ refs) = omega (arith, refs_length refs, length-append (ref_words ref) (flat_map ref_words refs))

ref_differs : (ref : Ref) (text : Word) → is_printable_ref ref ≡ true → is_unreserved text ≡ false → bytes_eq ref.name text ≡ false
ref_differs ref text are taken = differ is_unreserved ref.name text (and_parts (is_unreserved ref.name) (is_index ref.index) are).0 taken

read_up : (n : ℕ) (refs found : List Ref) (rest : List Word) → length refs < n → list_all is_printable_ref refs ≡ true
    → Reads (reads_from n found) (flat_map ref_words refs ++ codes "->" ∷ rest) (found ++ refs) rest
unfolding reads_from
read_up zero refs found rest turns are = absurd (omega arith)
read_up (suc n) [] found rest turns are = takes_then (codes "->") _ _ (regives (sym (append-nil found)) (pure_reads found rest))
read_up (suc n) (ref ∷ refs) found rest turns are =
    let both = and_parts (is_printable_ref ref) (list_all is_printable_ref refs) are in
    let after : List Word = flat_map ref_words refs ++ codes "->" ∷ rest in
    let later = read_up n refs (found ++ ref ∷ []) rest (omega arith) both.1 in
    respells (sym (append_assoc (ref_words ref) (flat_map ref_words refs) (codes "->" ∷ rest)))
    (regives (append_assoc found (ref ∷ []) refs)
    (passes_then (codes "->") _ _ ref.name (ref_differs ref (codes "->") both.0 refl) (then_reads _ (reference_reads ref after both.0) later)))

pub reads_reads : (refs : List Ref) (rest : List Word) → list_all is_printable_ref refs ≡ true
    → Reads reads (flat_map ref_words refs ++ codes "->" ∷ rest) refs rest
unfolding reads
reads_reads refs rest are =
    let words : List Word = flat_map ref_words refs in
    counted_reads (λ n. reads_from n [])
    (read_up (length (words ++ codes "->" ∷ rest)) refs [] rest (omega (arith, refs_length refs, length-append words (codes "->" ∷ rest))) are)

-- ---- refs and atoms up to `with`, `each` or the end of the line

-- these words end a list
pub record Ends (words : List Word) : Type 0 where
  pub ended : (i : Input) → Spells i.source i.tokens words → ends i ≡ true

pub ends_at_end : Ends []
unfolding ends left
ends_at_end = record { ended = λ i spelled. let none : length i.tokens ≡ 0 = spelled_length i.source i.tokens [] spelled in rw none refl }

or_true : (a b c : Bool) → b ≡ true → (a || (b || c)) ≡ true
or_true true b c h = refl
or_true false b c h = rw h refl

or_last : (a b c : Bool) → c ≡ true → (a || (b || c)) ≡ true
or_last true b c h = refl
or_last false true c h = refl
or_last false false c h = h

pub ends_at_with : (rest : List Word) → Ends (codes "with" ∷ rest)
unfolding ends left sees
ends_at_with rest = record {
  ended = λ i spelled.
      or_true (length i.tokens == 0) (has_text (codes "with") i.source i.tokens) (has_text (codes "each") i.source i.tokens)
      (first_text (codes "with") (codes "with") rest i.source i.tokens spelled);
}

pub ends_at_each : (rest : List Word) → Ends (codes "each" ∷ rest)
unfolding ends left sees
ends_at_each rest = record {
  ended = λ i spelled.
      or_last (length i.tokens == 0) (has_text (codes "with") i.source i.tokens) (has_text (codes "each") i.source i.tokens)
      (first_text (codes "each") (codes "each") rest i.source i.tokens spelled);
}

goes_on : (word : Word) (rest : List Word) → bytes_eq word (codes "with") ≡ false → bytes_eq word (codes "each") ≡ false
    → (i : Input) → Spells i.source i.tokens (word ∷ rest) → ends i ≡ false
unfolding ends left sees
goes_on word rest no_with no_each i spelled =
    let a : (length i.tokens == 0) ≡ false = some_left word rest i.source i.tokens spelled in
    let b : has_text (codes "with") i.source i.tokens ≡ false = first_text (codes "with") word rest i.source i.tokens spelled ∙ no_with in
    let d : has_text (codes "each") i.source i.tokens ≡ false = first_text (codes "each") word rest i.source i.tokens spelled ∙ no_each in
    rw (a, b, d) refl

with_is_taken : is_unreserved (codes "with") ≡ false
unfolding reserved
with_is_taken = refl

each_is_taken : is_unreserved (codes "each") ≡ false
unfolding reserved
each_is_taken = refl

-- how an item is printed and read in a list without brackets, which goes on with it
record Plain {A : Type 0} (item : Parser A) (words_of : A → List Word) (passes : A → Bool) : Type 0 where
  reads_one : (x : A) (rest : List Word) → passes x ≡ true → Reads item (words_of x ++ rest) x rest
  goes : (x : A) (rest : List Word) → passes x ≡ true → (i : Input) → Spells i.source i.tokens (words_of x ++ rest) → ends i ≡ false
  longer : (xs : List A) → length xs ≤ length (flat_map words_of xs)

some_given : {A : Type 0} (item : Parser A) (words_of : A → List Word) (passes : A → Bool) → Plain item words_of passes
    → (n : ℕ) (xs found : List A) (rest : List Word) → Ends rest → length xs ≤ n → list_all passes xs ≡ true
    → Reads (some_from item n found) (flat_map words_of xs ++ rest) (found ++ xs) rest
unfolding some_from
some_given item words_of passes how zero [] found rest end turns are = regives (sym (append-nil found)) (pure_reads found rest)
some_given item words_of passes how zero (x ∷ xs) found rest end turns are = absurd (omega arith)
some_given item words_of passes how (suc n) [] found rest end turns are =
    taken_true ends (pure found) _ end.ended (regives (sym (append-nil found)) (pure_reads found rest))
some_given item words_of passes how (suc n) (x ∷ xs) found rest end turns are =
    let both = and_parts (passes x) (list_all passes xs) are in
    let after : List Word = flat_map words_of xs ++ rest in
    let later = some_given item words_of passes how n xs (found ++ x ∷ []) rest end (omega arith) both.1 in
    respells (sym (append_assoc (words_of x) (flat_map words_of xs) rest))
    (regives (append_assoc found (x ∷ []) xs)
    (taken_false ends (pure found) _ (how.goes x after both.0) (then_reads _ (how.reads_one x after both.0) later)))

-- the items behind the first
some_at : {A : Type 0} (item : Parser A) (words_of : A → List Word) (passes : A → Bool) → Plain item words_of passes
    → (x : A) (xs : List A) (rest : List Word) → Ends rest → list_all passes xs ≡ true
    → Reads (some_after item x) (flat_map words_of xs ++ rest) (x ∷ xs) rest
some_at item words_of passes how x xs rest end are =
    let words : List Word = flat_map words_of xs in
    counted_reads (λ n. some_from item n (x ∷ []))
    (some_given item words_of passes how (length (words ++ rest)) xs (x ∷ []) rest end (omega (arith, how.longer xs, length-append words rest)) are)

ref_plain : Plain reference ref_words is_printable_ref
ref_plain = record {
  reads_one = reference_reads;
  goes = λ ref rest are.
      goes_on ref.name _ (ref_differs ref (codes "with") are with_is_taken) (ref_differs ref (codes "each") are each_is_taken);
  longer = refs_length;
}

pub writes_reads : (refs : List Ref) (rest : List Word) → Ends rest → is_some_refs refs ≡ true → Reads writes (flat_map ref_words refs ++ rest) refs rest
unfolding writes
writes_reads [] rest end are = absurd (false≢true are)
writes_reads (ref ∷ refs) rest end are =
    let both = and_parts (is_printable_ref ref) (list_all is_printable_ref refs) are in
    let words : List Word = flat_map ref_words refs in
    let later = some_at reference ref_words is_printable_ref ref_plain ref refs rest end both.1 in
    respells (sym (append_assoc (ref_words ref) words rest)) (then_reads (some_after reference) (reference_reads ref (words ++ rest) both.0) later)

atoms_length : (xs : List Atom) → length xs ≤ length (flat_map atom_words xs)
atoms_length [] = omega arith
atoms_length (x ∷ xs) =
    omega (arith, atoms_length xs, length-append (atom_words x) (flat_map atom_words xs), ap length (atom_begins x))

atom_goes_on : (x : Atom) (rest : List Word) → is_printable_atom x ≡ true → (i : Input) → Spells i.source i.tokens (atom_words x ++ rest) → ends i ≡ false
atom_goes_on x rest are i spelled =
    goes_on (atom_first x) (atom_others x ++ rest)
    (atom_differs x (codes "with") are with_is_taken (λ n small. decimal_differs n (codes "with") small refl) refl)
    (atom_differs x (codes "each") are each_is_taken (λ n small. decimal_differs n (codes "each") small refl) refl)
    i (subst (λ (ws : List Word). Spells i.source i.tokens (ws ++ rest)) (atom_begins x) spelled)

atom_plain : Plain atom atom_words is_printable_atom
atom_plain = record { reads_one = atom_reads; goes = atom_goes_on; longer = atoms_length }

values_reads : (x : Atom) (xs : List Atom) (rest : List Word) → Ends rest → list_all is_printable_atom (x ∷ xs) ≡ true
    → Reads values (flat_map atom_words (x ∷ xs) ++ rest) (x ∷ xs) rest
unfolding values
values_reads x xs rest end are =
    let both = and_parts (is_printable_atom x) (list_all is_printable_atom xs) are in
    let words : List Word = flat_map atom_words xs in
    let later = some_at atom atom_words is_printable_atom atom_plain x xs rest end both.1 in
    respells (sym (append_assoc (atom_words x) words rest))
    (taken_false ends refuse _ (atom_goes_on x (words ++ rest) both.0) (then_reads (some_after atom) (atom_reads x (words ++ rest) both.0) later))

-- ---- what stands behind the refs of a stage

each_ends : (given : Bool) → Ends (each_words given)
each_ends true = ends_at_each (codes "i" ∷ [])
each_ends false = ends_at_end

pub with_ends : (xs : List Atom) (given : Bool) → Ends (with_words xs ++ each_words given)
with_ends [] given = each_ends given
with_ends (x ∷ xs) given = ends_at_with (flat_map atom_words (x ∷ xs) ++ each_words given)

no_parameters : (given : Bool) → Reads parameters (each_words given) [] (each_words given)
unfolding parameters
no_parameters true = passes_then (codes "with") _ _ (codes "each") refl (pure_reads [] _)
no_parameters false = ends_then (codes "with") _ _ (pure_reads [] [])

pub parameters_reads : (xs : List Atom) (given : Bool) → list_all is_printable_atom xs ≡ true
    → Reads parameters (with_words xs ++ each_words given) xs (each_words given)
unfolding parameters
parameters_reads [] given are = no_parameters given
parameters_reads (x ∷ xs) given are = takes_then (codes "with") _ _ (values_reads x xs (each_words given) (each_ends given) are)

pub each_reads : (given : Bool) → Reads each (each_words given) given []
unfolding each
each_reads true = takes_then (codes "each") _ _ (then_reads _ (expects (codes "i") []) (pure_reads true []))
each_reads false = ends_then (codes "each") _ _ (pure_reads false [])
