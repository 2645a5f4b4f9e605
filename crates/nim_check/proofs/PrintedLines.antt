-- The lines that `output` prints of a part are read as its header and its rows.
use Rattle.std.proofs.Common.{◌≡◌, ℕ, ◌^◌, ◌<◌, ◌≤◌, ℤ, true, false, ◌&&◌, List, [], ◌∷◌, ◌++◌, length, refl, sym, ◌∙◌, ap, arith, Some}
use Rattle.std.specs.Prelude.{map, nat_lt, nat_le, slice_index}
use Rattle.std.specs.List.{All, flat_map, join_with_byte, list_all}
use Rattle.std.specs.Char.{is_ascii_alphabetic}
use Rattle.std.specs.Fmt.{decimal, signed_decimal}
use Rattle.std.proofs.lemmas.Bool.{and_parts}
use Rattle.std.proofs.lemmas.Bool.Decides.{nat_tests}
use Rattle.std.proofs.lemmas.List.{append-nil, append_assoc}
use Rattle.std.proofs.lemmas.List.Elements.{All-head, All-tail}
use Rattle.nim_base.proofs.ReadsBack.{IsSmall}
use Rattle.nim_base.proofs.Texts.{joined, later}
use Rattle.nim_lex.specs.Bytes.{is_name_byte}
use Rattle.nim_data.specs.Lines.{cell, cells_from, header, is_bare, is_short_name, row}
use Rattle.nim_base.proofs.Lists.{all_weaker}
use Rattle.nim_check.proofs.PrintedWords.{Ends, IsPlain, behind_first, behind_next, bounded_read, cell_plain, cell_read, decimal_plain, is_plain, not_bare, word_first, word_next}

-- ---- rows

ends_later : (cells : List ℤ) → Ends (flat_map later cells)
ends_later [] = tt
ends_later (cell ∷ cells) = refl

cells_next : (found cells : List ℤ) → All IsSmall cells → cells_from (length cells) found (flat_map later cells) ≡ Some (found ++ cells)
unfolding cells_from
cells_next found [] small = ap Some (sym (append-nil found))
cells_next found (x ∷ cells) small =
    let here : IsSmall x = All-head IsSmall x cells small in
    let rest = flat_map later cells in
    rw (
      word_next (signed_decimal x) rest (cell_plain x here) (ends_later cells),
      behind_next (signed_decimal x) rest (cell_plain x here) (ends_later cells),
      cell_read x here,
    )
    (cells_next (found ++ x ∷ []) cells (All-tail IsSmall x cells small) ∙ ap Some (append_assoc found (x ∷ []) cells))

pub row_read : (cells : List ℤ) → 1 ≤ length cells → All IsSmall cells → row (length cells) (join_with_byte 32 (map signed_decimal cells)) ≡ Some cells
unfolding cells_from
row_read [] wide small = absurd (omega arith)
row_read (x ∷ cells) wide small =
    let here : IsSmall x = All-head IsSmall x cells small in
    let rest = flat_map later cells in
    ap (row (length (x ∷ cells))) (joined x cells)
    ∙ (rw (
      word_first (signed_decimal x) rest (cell_plain x here) (ends_later cells),
      behind_first (signed_decimal x) rest (cell_plain x here)
          (ends_later cells),
      cell_read x here,
    )
    (cells_next (x ∷ []) cells (All-tail IsSmall x cells small)))

pub row_some : (cells : List ℤ) → 1 ≤ length cells → All IsSmall cells → is_bare (join_with_byte 32 (map signed_decimal cells)) ≡ false
row_some [] wide small = absurd (omega arith)
row_some (x ∷ cells) wide small =
    ap is_bare (joined x cells) ∙ not_bare (signed_decimal x) (flat_map later cells) (cell_plain x (All-head IsSmall x cells small))

-- ---- headers

abbrev pub header_line : List ℕ → ℕ → ℕ → ℕ → List ℕ
header_line name part rows width = name ++ 32 ∷ (decimal part ++ 32 ∷ (decimal rows ++ 32 ∷ (decimal width ++ [])))

name_byte_plain : (b : ℕ) → is_name_byte b ≡ true → is_plain b ≡ true
name_byte_plain b is = grind (arith, nat_tests)

pub name_plain : (name : List ℕ) → is_short_name name ≡ true → IsPlain name
unfolding is_short_name
name_plain [] short = absurd (let no : false ≡ true = short in cc)
name_plain (b ∷ name) short =
    let parts = and_parts (nat_le (length (b ∷ name)) 16 && is_ascii_alphabetic (slice_index (b ∷ name) 0)) (list_all is_name_byte (b ∷ name)) short in
    (omega arith, all_weaker is_name_byte is_plain name_byte_plain (b ∷ name) parts.1)

pub header_read : (name : List ℕ) (part rows width : ℕ) → is_short_name name ≡ true → part ≤ 63 → rows ≤ 65536 → 1 ≤ width → width ≤ 65536
    → header (header_line name part rows width) ≡ Some (record { name = name; part = part; rows = rows; width = width })
unfolding header
header_read name part rows width short p r wide w =
    let wp : part < 2 ^ 64 = omega arith in
    let wr : rows < 2 ^ 64 = omega arith in
    let ww : width < 2 ^ 64 = omega arith in
    let t3 = 32 ∷ (decimal width ++ []) in
    let t2 = 32 ∷ (decimal rows ++ t3) in
    let t1 = 32 ∷ (decimal part ++ t2) in
    let some : nat_lt 0 width ≡ true = grind (arith, nat_tests) in
    rw (
      word_first name t1 (name_plain name short) refl,
      behind_first name t1 (name_plain name short) refl,
      word_next (decimal part) t2 (decimal_plain part wp) refl,
      behind_next (decimal part) t2 (decimal_plain part wp) refl,
      word_next (decimal rows) t3 (decimal_plain rows wr) refl,
      behind_next (decimal rows) t3 (decimal_plain rows wr) refl,
      word_next (decimal width) [] (decimal_plain width ww) tt,
      behind_next (decimal width) [] (decimal_plain width ww) tt,
      bounded_read 63 part wp p,
      bounded_read 65536 rows wr r,
      bounded_read 65536 width ww w,
      short,
      some,
    ) refl
