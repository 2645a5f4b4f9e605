-- What `output` prints of all loaded variables of a whole job is short enough for a data file.
use Rattle.std.proofs.Common.{◌≡◌, ℕ, suc, ◌+◌, ◌*◌, ◌≤◌, ◌==◌, ℤ, pos, negsuc, true, ◌&&◌, List, [], ◌∷◌, ◌++◌, length, ap, arith}
use Rattle.std.specs.Prelude.{All, map, nat_le, slice_index}
use Rattle.std.specs.List.{flat_map, join_with_byte, list_all, sum_by}
use Rattle.std.specs.Char.{is_ascii_alphabetic}
use Rattle.std.specs.Fmt.{decimal, signed_decimal}
use Rattle.std.proofs.Math.Nat.{mul-le-mul_left}
use Rattle.std.proofs.lemmas.Bool.{and_parts}
use Rattle.std.proofs.lemmas.Bool.Decides.{nat_tests}
use Rattle.std.proofs.lemmas.Fmt.{length-decimal-le}
use Rattle.std.proofs.lemmas.List.{length-append}
use Rattle.std.proofs.lemmas.List.Elements.{All-head, All-tail}
use Rattle.std.proofs.lemmas.List.Sums.{sum_by-cons}
use Rattle.nim_base.proofs.ReadsBack.{IsSmall}
use Rattle.nim_base.proofs.Texts.{joined, later}
use Rattle.nim_base.specs.declared.number.Shape.{Shape}
use Rattle.nim_base.specs.Text.{header_text, row_text, text_of}
use Rattle.nim_base.specs.Value.{Grid}
use Rattle.nim_job.specs.declared.job.Init.{Init}
use Rattle.nim_job.specs.declared.job.Init.TheVariants.{Fill, Iota, Loaded}
use Rattle.nim_job.specs.declared.job.Job.{Job}
use Rattle.nim_job.specs.declared.job.Var.{Var}
use Rattle.nim_job.specs.Objects.{objects_of}
use Rattle.nim_job.specs.Whole.{are_vars, cells_in, is_filled, is_loaded, is_var, is_whole}
use Rattle.nim_job.proofs.Whole.{vars_sizes, whole_inits, whole_vars}
use Rattle.nim_lex.specs.Bytes.{is_name_byte}
use Rattle.nim_data.specs.Lines.{is_short_name}
use Rattle.nim_check.specs.Names.{Word}
use Rattle.nim_check.specs.Printing.{HasValues, has_name, parts_text, printed, printed_by}
use Rattle.nim_check.proofs.PrintedData.{IsPrintable}
use Rattle.nim_check.proofs.PrintedJob.{all_printable}

-- ---- rows

cell_size : (cell : ℤ) → IsSmall cell → length (signed_decimal cell) ≤ 20
cell_size (pos n) small = omega (arith, length-decimal-le 19 n (omega arith) (omega arith) (omega arith))
cell_size (negsuc n) small = omega (arith, length-decimal-le 19 (suc n) (omega arith) (omega arith) (omega arith))

later_size : (cells : List ℤ) → All IsSmall cells → length (flat_map later cells) ≤ 21 * length cells
later_size [] small = omega arith
later_size (x ∷ cells) small =
    let here = cell_size x (All-head IsSmall x cells small) in
    let rest = later_size cells (All-tail IsSmall x cells small) in
    omega (arith, here, rest, length-append (later x) (flat_map later cells))

row_size : (cells : List ℤ) → 1 ≤ length cells → All IsSmall cells → length (row_text cells) ≤ 21 * length cells
row_size [] wide small = absurd (omega arith)
row_size (x ∷ cells) wide small =
    let here = cell_size x (All-head IsSmall x cells small) in
    let rest = later_size cells (All-tail IsSmall x cells small) in
    let line = ap (λ (text : List ℕ). length text) (joined x cells) in
    omega (
      arith,
      here,
      rest,
      line,
      length-append (signed_decimal x) (flat_map later cells),
      length-append (join_with_byte 32 (map signed_decimal (x ∷ cells)))
          (10 ∷ []),
    )

rows_size : (width : ℕ) (rows : List (List ℤ)) → 1 ≤ width → All (λ (cells : List ℤ). length cells ≡ width) rows → All (All IsSmall) rows
    → length (flat_map row_text rows) ≤ 21 * (width * length rows)
rows_size width [] wide even small = omega arith
rows_size width (cells ∷ rows) wide even small =
    let fits : length cells ≡ width = All-head (λ (cs : List ℤ). length cs ≡ width) cells rows even in
    let here = row_size cells (omega arith) (All-head (All IsSmall) cells rows small) in
    let rest = rows_size width rows wide (All-tail (λ (cs : List ℤ). length cs ≡ width) cells rows even) (All-tail (All IsSmall) cells rows small) in
    omega (arith, here, rest, length-append (row_text cells) (flat_map row_text rows))

-- ---- parts

name_size : (name : Word) → is_short_name name ≡ true → length name ≤ 16
unfolding is_short_name
name_size name short =
    let parts = and_parts (nat_le (length name) 16 && is_ascii_alphabetic (slice_index name 0)) (list_all is_name_byte name) short in
    let first = and_parts (nat_le (length name) 16) (is_ascii_alphabetic (slice_index name 0)) parts.0 in
    grind (arith, nat_tests)

part_size : (name : Word) (part : ℕ) (grid : Grid) (shape : Shape) → is_short_name name ≡ true → part ≤ 63 → IsPrintable grid → is_loaded shape grid ≡ true
    → length (text_of name part grid) ≤ 32 + 21 * (shape.width * shape.rows)
part_size name part grid shape short p is fits =
    let rows : ℕ = length grid.rows in
    let few : rows ≤ 65536 = is.few in
    let narrow : grid.width ≤ 65536 = is.narrow in
    let parts = and_parts (grid.width == shape.width) (nat_le (length grid.rows) shape.rows) fits in
    let same : grid.width ≡ shape.width = grind (arith, nat_tests) in
    let most : rows ≤ shape.rows = grind (arith, nat_tests) in
    let area : shape.width * rows ≤ shape.width * shape.rows = mul-le-mul_left shape.width most in
    let cells : length (flat_map row_text grid.rows) ≤ 21 * (shape.width * rows) = rw (← same) (rows_size grid.width grid.rows is.wide is.even is.small) in
    let n = name_size name short in
    let p_size = length-decimal-le 2 part (omega arith) (omega arith) (omega arith) in
    let r_size = length-decimal-le 5 rows (omega arith) (omega arith) (omega arith) in
    let w_size = length-decimal-le 5 grid.width (omega arith) (omega arith) (omega arith) in
    let w_text : List ℕ = decimal grid.width ++ 10 ∷ [] in
    let r_text : List ℕ = decimal rows ++ 32 ∷ w_text in
    let p_text : List ℕ = decimal part ++ 32 ∷ r_text in
    omega (
      arith,
      area,
      cells,
      n,
      p_size,
      r_size,
      w_size,
      length-append (header_text name part grid) (flat_map row_text grid.rows),
      length-append name (32 ∷ p_text),
      length-append (decimal part) (32 ∷ r_text),
      length-append (decimal rows) (32 ∷ w_text),
      length-append (decimal grid.width) (10 ∷ []),
    )

values_size : (name : Word) (k : ℕ) (values : List Grid) (shape : Shape) → is_short_name name ≡ true → k + length values ≤ 64 → All IsPrintable values
    → list_all (is_loaded shape) values ≡ true
    → length (parts_text name k values) ≤ length values * 32 + 21 * (length values * (shape.width * shape.rows))
values_size name k [] shape short few are fit = omega arith
values_size name k (grid ∷ values) shape short few are fit =
    let fits = and_parts (is_loaded shape grid) (list_all (is_loaded shape) values) fit in
    let here = part_size name k grid shape short (omega arith) (All-head IsPrintable grid values are) fits.0 in
    let rest = values_size name (k + 1) values shape short (omega arith) (All-tail IsPrintable grid values are) fits.1 in
    omega (arith, here, rest, length-append (text_of name k grid) (parts_text name (k + 1) values))

-- ---- variables

var_size : (v : Var) (init : Init) → is_short_name v.name ≡ true → is_var (record v { init = init }) ≡ true → is_filled (record v { init = init }) ≡ true
    → HasValues init
    → length (printed_by v.name init) ≤ v.parts * 32 + 21 * cells_in v
var_size v (Fill number) short is full has = omega arith
var_size v Iota short is full has = omega arith
var_size v (Loaded values) short is full has =
    let fits = and_parts (length values == v.parts) (list_all (is_loaded v.shape) values) full in
    let count : length values ≡ v.parts = grind (arith, nat_tests) in
    let most : v.parts ≤ 64 = grind (arith, nat_tests) in
    let width : v.shape.width ≤ 65536 = grind (arith, nat_tests) in
    let rows : v.shape.rows ≤ 65536 = grind (arith, nat_tests) in
    rw (← count) (values_size v.name 0 values v.shape short (omega arith) (all_printable v.shape values width rows fits.1 has) fits.1)

vars_size : (vars : List Var) → list_all has_name vars ≡ true → list_all is_var vars ≡ true → list_all is_filled vars ≡ true
    → All (λ (v : Var). HasValues v.init) vars
    → length (printed vars) ≤ objects_of vars * 32 + 21 * sum_by cells_in vars
vars_size [] names are full have = omega arith
vars_size (v ∷ vars) names are full have =
    let n = and_parts (has_name v) (list_all has_name vars) names in
    let a = and_parts (is_var v) (list_all is_var vars) are in
    let f = and_parts (is_filled v) (list_all is_filled vars) full in
    let here = var_size v v.init n.0 a.0 f.0 (All-head (λ (w : Var). HasValues w.init) v vars have) in
    let rest = vars_size vars n.1 a.1 f.1 (All-tail (λ (w : Var). HasValues w.init) v vars have) in
    omega (arith, here, rest, sum_by-cons (λ (w : Var). w.parts) v vars, sum_by-cons cells_in v vars, length-append (printed_by v.name v.init) (printed vars))

pub printed_short : (job : Job) → is_whole job ≡ true → list_all has_name job.vars ≡ true → All (λ (v : Var). HasValues v.init) job.vars
    → length (printed job.vars) ≤ 33554432
printed_short job whole names have =
    let are : are_vars job.vars ≡ true = whole_vars job whole in
    let sizes = vars_sizes job.vars are in
    let cells : sum_by cells_in job.vars ≤ 1048576 = grind (arith, nat_tests) in
    omega (arith, cells, sizes.0, vars_size job.vars names sizes.1 (whole_inits job whole) have)
