-- What `output` prints of parts is read as these parts.
use Rattle.std.proofs.Common.{◌≡◌, ℕ, ◌+◌, ◌<◌, ◌≤◌, ℤ, true, false, List, [], ◌∷◌, ◌++◌, length, refl, sym, ◌∙◌, ap, arith, None, Some}
use Rattle.std.specs.Prelude.{map, nat_lt}
use Rattle.std.specs.List.{All, flat_map, join_with_byte, list_all}
use Rattle.std.specs.Fmt.{decimal, signed_decimal}
use Rattle.std.proofs.lemmas.Bool.{and_from}
use Rattle.std.proofs.lemmas.Bool.Decides.{nat_tests}
use Rattle.std.proofs.lemmas.List.{append-nil, append_assoc, length-append}
use Rattle.std.proofs.lemmas.List.Elements.{All-head, All-tail}
use Rattle.std.proofs.lemmas.List.Folds.{list_all-append}
use Rattle.nim_base.proofs.ReadsBack.{IsSmall}
use Rattle.nim_base.proofs.Texts.{joined, later}
use Rattle.nim_base.specs.Text.{row_text, text_of}
use Rattle.nim_base.specs.Value.{Grid}
use Rattle.nim_lex.specs.Source.{cut, line_at, numbered_lines}
use Rattle.nim_lex.proofs.SourceSteps.{cut_line, is_inner}
use Rattle.nim_data.specs.declared.lines.Header.{Header}
use Rattle.nim_data.specs.Lines.{header, is_bare, is_short_name, row}
use Rattle.nim_data.specs.Parts.{Loaded, Part, part_begun, data_after, data_from, data_rule, lacks, parts_loaded}
use Rattle.nim_data.proofs.Steps.{refused_later}
use Rattle.nim_check.specs.Printing.{parts_text}
use Rattle.nim_base.proofs.Lists.{all_weaker}
use Rattle.nim_check.proofs.PrintedLines.{header_line, header_read, name_plain, row_read, row_some}
use Rattle.nim_check.proofs.PrintedWords.{IsPlain, cell_plain, decimal_plain, is_plain, not_bare}

-- ---- lines

plain_inner : (b : ℕ) → is_plain b ≡ true → is_inner b ≡ true
plain_inner b plain = grind (arith, nat_tests)

word_inner : (w : List ℕ) → IsPlain w → list_all is_inner w ≡ true
word_inner w plain = all_weaker is_plain is_inner plain_inner w plain.1

both_inner : (xs ys : List ℕ) → list_all is_inner xs ≡ true → list_all is_inner ys ≡ true → list_all is_inner (xs ++ ys) ≡ true
both_inner xs ys x y = list_all-append is_inner xs ys ∙ and_from (list_all is_inner xs) (list_all is_inner ys) x y

later_inner : (cells : List ℤ) → All IsSmall cells → list_all is_inner (flat_map later cells) ≡ true
later_inner [] small = refl
later_inner (x ∷ cells) small =
    both_inner (signed_decimal x) (flat_map later cells) (word_inner (signed_decimal x) (cell_plain x (All-head IsSmall x cells small)))
    (later_inner cells (All-tail IsSmall x cells small))

row_inner : (cells : List ℤ) → All IsSmall cells → list_all is_inner (join_with_byte 32 (map signed_decimal cells)) ≡ true
row_inner [] small = refl
row_inner (x ∷ cells) small =
    ap (list_all is_inner) (joined x cells)
    ∙ both_inner (signed_decimal x) (flat_map later cells) (word_inner (signed_decimal x) (cell_plain x (All-head IsSmall x cells small)))
    (later_inner cells (All-tail IsSmall x cells small))

header_inner : (name : List ℕ) (part rows width : ℕ) → IsPlain name → IsPlain (decimal part) → IsPlain (decimal rows) → IsPlain (decimal width)
    → list_all is_inner (header_line name part rows width) ≡ true
header_inner name part rows width n p r w =
    both_inner name (32 ∷ (decimal part ++ 32 ∷ (decimal rows ++ 32 ∷ (decimal width ++ [])))) (word_inner name n)
    (both_inner (decimal part) (32 ∷ (decimal rows ++ 32 ∷ (decimal width ++ []))) (word_inner (decimal part) p)
    (both_inner (decimal rows) (32 ∷ (decimal width ++ [])) (word_inner (decimal rows) r)
    (both_inner (decimal width) [] (word_inner (decimal width) w) refl)))

-- ---- rows

-- a part whose rows are read so far
abbrev reading : List Part → ℕ → ℕ → List ℕ → ℕ → ℕ → List (List ℤ) → Loaded
reading parts wanted line name part width rows = record {
  parts = parts;
  last = Some (record { wanted = wanted; part = record { line = line; name = name; part = part; value = record { width = width; rows = rows } } });
}

row_taken : (parts : List Part) (wanted line : ℕ) (name : List ℕ) (part width : ℕ) (done : List (List ℤ)) (text : List ℕ) (cells : List ℤ) (number : ℕ)
    → length done < wanted → is_bare text ≡ false → row width text ≡ Some cells
    → (data_rule (reading parts wanted line name part width done) text ≡ None)
    × (data_after (reading parts wanted line name part width done) number text ≡ reading parts wanted line name part width (done ++ cells ∷ []))
unfolding data_rule data_after
row_taken parts wanted line name part width done text cells number more some read =
    let lacking : nat_lt (length done) wanted ≡ true = grind (arith, nat_tests) in
    (rw (some, lacking, read) refl, rw (some, lacking, read) refl)

abbrev IsEven : ℕ → List ℤ → Type 0
IsEven width cells = length cells ≡ width

rows_read : (end n at : ℕ) (parts : List Part) (wanted line : ℕ) (name : List ℕ) (part width : ℕ) (done rows : List (List ℤ)) (rest : List ℕ)
    → length done + length rows ≡ wanted → 1 ≤ width → All (IsEven width) rows → All (All IsSmall) rows
    → (at' : ℕ) × (data_from end (reading parts wanted line name part width done) (numbered_lines n at (cut (flat_map row_text rows ++ rest)))
    ≡ data_from end (reading parts wanted line name part width (done ++ rows)) (numbered_lines (n + length rows) at' (cut rest)))
rows_read end n at parts wanted line name part width done [] rest all wide even small = (
  at,
  ap (λ (rows : List (List ℤ)). data_from end (reading parts wanted line name part width rows) (numbered_lines n at (cut rest))) (sym (append-nil done))
      ∙ ap (λ (k : ℕ). data_from end (reading parts wanted line name part width (done ++ [])) (numbered_lines k at (cut rest)))
      (let none : n ≡ n + 0 = omega arith in none),
)
rows_read end n at parts wanted line name part width done (cells ∷ rows) rest all wide even small =
    let text : List ℕ = join_with_byte 32 (map signed_decimal cells) in
    let after : List ℕ = flat_map row_text rows ++ rest in
    let fits : length cells ≡ width = All-head (IsEven width) cells rows even in
    let cells_small : All IsSmall cells = All-head (All IsSmall) cells rows small in
    let begins : flat_map row_text (cells ∷ rows) ++ rest ≡ text ++ 10 ∷ after = simp append_assoc in
    let lines : cut (flat_map row_text (cells ∷ rows) ++ rest) ≡ text ∷ cut after = ap cut begins ∙ cut_line text after (row_inner cells cells_small) in
    let read : row width text ≡ Some cells = rw (← fits) (row_read cells (omega arith) cells_small) in
    let taken = row_taken parts wanted line name part width done text cells n (omega arith) (row_some cells (omega arith) cells_small) read in
    let st : Loaded = reading parts wanted line name part width done in
    let more = rows_read end (n + 1) (at + length text + 1) parts wanted line name part width (done ++ cells ∷ []) rows rest
    (omega (arith, length-append done (cells ∷ []))) wide
    (All-tail (IsEven width) cells rows even) (All-tail (All IsSmall) cells rows small) in
    let count : n + 1 + length rows ≡ n + length (cells ∷ rows) = omega arith in (
      more.0,
      ap (λ (ls : List (List ℕ)). data_from end st (numbered_lines n at ls)) lines
          ∙ refused_later end st (line_at n at text) (numbered_lines (n + 1) (at + length text + 1) (cut after)) taken.0
          ∙ ap (λ (next : Loaded). data_from end next (numbered_lines (n + 1) (at + length text + 1) (cut after))) taken.1
          ∙ more.1
          ∙ ap (λ (all_rows : List (List ℤ)). data_from end (reading parts wanted line name part width all_rows)
          (numbered_lines (n + 1 + length rows) more.0 (cut rest))) (append_assoc done (cells ∷ []) rows)
          ∙ ap (λ (k : ℕ). data_from end (reading parts wanted line name part width (done ++ (cells ∷ rows))) (numbered_lines k more.0 (cut rest))) count,
    )

-- ---- parts

-- a value whose text is one of a part
pub record IsPrintable (grid : Grid) : Type 0 where
  pub wide : 1 ≤ grid.width
  pub narrow : grid.width ≤ 65536
  pub few : length grid.rows ≤ 65536
  pub even : All (λ (cells : List ℤ). length cells ≡ grid.width) grid.rows
  pub small : All (All IsSmall) grid.rows

header_taken : (st : Loaded) (text : List ℕ) (h : Header) (number : ℕ) → lacks st.last ≡ false → is_bare text ≡ false → header text ≡ Some h
    → (data_rule st text ≡ None) × (data_after st number text ≡ record { parts = parts_loaded st; last = Some (part_begun number h) })
unfolding data_rule data_after
header_taken st text h number closed some read = (rw (some, closed, read) refl, rw (some, closed, read) refl)

abbrev part_at : ℕ → List ℕ → ℕ → Grid → Part
part_at line name part grid = record { line = line; name = name; part = part; value = grid }

abbrev with_part : Loaded → ℕ → List ℕ → ℕ → Grid → Loaded
with_part st line name part grid = record { parts = parts_loaded st; last = Some (record { wanted = length grid.rows; part = part_at line name part grid }) }

part_read : (end n at : ℕ) (st : Loaded) (name : List ℕ) (part : ℕ) (grid : Grid) (rest : List ℕ)
    → lacks st.last ≡ false → is_short_name name ≡ true → part ≤ 63 → IsPrintable grid
    → (at' : ℕ) × (data_from end st (numbered_lines n at (cut (text_of name part grid ++ rest)))
    ≡ data_from end (with_part st n name part grid) (numbered_lines (n + 1 + length grid.rows) at' (cut rest)))
part_read end n at st name part grid rest closed short p is =
    let rows = length grid.rows in
    let line : List ℕ = header_line name part rows grid.width in
    let after : List ℕ = flat_map row_text grid.rows ++ rest in
    let h : Header = record { name = name; part = part; rows = rows; width = grid.width } in
    let few = is.few in
    let narrow = is.narrow in
    let begins : text_of name part grid ++ rest ≡ line ++ 10 ∷ after = simp append_assoc in
    let inner : list_all is_inner line ≡ true = header_inner name part rows grid.width (name_plain name short) (decimal_plain part (omega arith))
    (decimal_plain rows (omega arith)) (decimal_plain grid.width (omega arith)) in
    let lines : cut (text_of name part grid ++ rest) ≡ line ∷ cut after = ap cut begins ∙ cut_line line after inner in
    let some : is_bare line ≡ false = not_bare name (32 ∷ (decimal part ++ 32 ∷ (decimal rows ++ 32 ∷ (decimal grid.width ++ [])))) (name_plain name short) in
    let taken = header_taken st line h n closed some (header_read name part rows grid.width short p few is.wide narrow) in
    let more =
    rows_read end (n + 1) (at + length line + 1) (parts_loaded st) rows n name part grid.width [] grid.rows rest (omega arith) is.wide is.even is.small in (
      more.0,
      ap (λ (ls : List (List ℕ)). data_from end st (numbered_lines n at ls)) lines
          ∙ refused_later end st (line_at n at line) (numbered_lines (n + 1) (at + length line + 1) (cut after)) taken.0
          ∙ ap (λ (next : Loaded). data_from end next (numbered_lines (n + 1) (at + length line + 1) (cut after))) taken.1
          ∙ more.1,
    )

-- so many parts of a name, with these values
abbrev pub Made : List ℕ → ℕ → List Grid → List Part → Type 0
Made name k [] [] = Unit {0}
Made name k (grid ∷ grids) (part ∷ parts) = (part.name ≡ name) × (part.part ≡ k) × (part.value ≡ grid) × Made name (k + 1) grids parts
Made name k [] (part ∷ parts) = ⊥
Made name k (grid ∷ grids) [] = ⊥

-- a text is read as parts, whatever follows
pub record Reads (end n at : ℕ) (st : Loaded) (text rest : List ℕ) (Of : List Part → Type 0) : Type 0 where
  pub number : ℕ
  pub place : ℕ
  pub state : Loaded
  pub new : List Part
  pub closed : lacks state.last ≡ false
  pub parts : parts_loaded state ≡ parts_loaded st ++ new
  pub made : Of new
  pub read : data_from end st (numbered_lines n at (cut (text ++ rest))) ≡ data_from end state (numbered_lines number place (cut rest))

pub values_read : (end n at : ℕ) (st : Loaded) (name : List ℕ) (k : ℕ) (values : List Grid) (rest : List ℕ)
    → lacks st.last ≡ false → is_short_name name ≡ true → k + length values ≤ 64 → All IsPrintable values
    → Reads end n at st (parts_text name k values) rest (Made name k values)
values_read end n at st name k [] rest closed short few are =
    record { number = n; place = at; state = st; new = []; closed = closed; parts = sym (append-nil (parts_loaded st)); made = tt; read = refl }
values_read end n at st name k (grid ∷ values) rest closed short few are =
    let after : List ℕ = parts_text name (k + 1) values ++ rest in
    let first = part_read end n at st name k grid after closed short (omega arith) (All-head IsPrintable grid values are) in
    let next : Loaded = with_part st n name k grid in
    let full : nat_lt (length grid.rows) (length grid.rows) ≡ false = grind (arith, nat_tests) in
    let later_parts =
    values_read end (n + 1 + length grid.rows) first.0 next name (k + 1) values rest full short (omega arith) (All-tail IsPrintable grid values are) in
    record {
      number = later_parts.number;
      place = later_parts.place;
      state = later_parts.state;
      new = part_at n name k grid ∷ later_parts.new;
      closed = later_parts.closed;
      parts = later_parts.parts ∙ append_assoc (parts_loaded st) (part_at n name k grid ∷ []) later_parts.new;
      made = (refl, refl, refl, later_parts.made);
      read = ap (λ (text : List ℕ). data_from end st (numbered_lines n at (cut text)))
          (append_assoc (text_of name k grid) (parts_text name (k + 1) values) rest)
          ∙ first.1 ∙ later_parts.read;
    }
