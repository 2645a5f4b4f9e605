-- Cells one after another, and the rows that they make.
use Rattle.std.proofs.Common.{◌≡◌, ℕ, ◌+◌, ◌*◌, ◌^◌, ◌<◌, ◌≤◌, zero, suc, ℤ, pos, get_or, List, [], ◌∷◌, ◌++◌, length, take, drop, replicate, refl, sym, ◌∙◌, ap, ap₂, subst, arith, All}
use Rattle.std.proofs.Math.Nat.{suc-mul, mul-le-mul_left}
use Rattle.std.proofs.lemmas.List.{take-append-drop, length-take-le, take-replicate, drop-replicate, length-drop, length-take, nil_from_length, take_all, take-append-le, drop-append-le, get_or-take, get_or-drop, get_or_past, get_or_read}
use Rattle.std.proofs.lemmas.List.Elements.{All-cons, All-nil}
use Rattle.nim_base.specs.Value.{Grid, IsGrid, rows_of, cells_of, cell_of}

pub length-rows_of : (n width : ℕ) (cells : List ℤ) → length (rows_of n width cells) ≡ n
length-rows_of zero width cells = refl
length-rows_of (suc n) width cells = ap suc (length-rows_of n width (drop width cells))

-- what is left behind the first row
rest : (n width : ℕ) (cells : List ℤ) → length cells ≡ suc n * width → length (drop width cells) ≡ n * width
rest n width cells whole = omega (arith, length-drop width cells, whole, suc-mul n width)

-- the first row is whole
first_row_whole : (n width : ℕ) (cells : List ℤ) → length cells ≡ suc n * width → length (take width cells) ≡ width
first_row_whole n width cells whole = length-take-le width cells (omega (arith, whole, suc-mul n width))

pub cells_of-rows_of : (n width : ℕ) (cells : List ℤ) → length cells ≡ n * width → cells_of (rows_of n width cells) ≡ cells
cells_of-rows_of zero width cells whole = sym (nil_from_length cells (omega (arith, whole)))
cells_of-rows_of (suc n) width cells whole =
    ap (λ rest_cells. take width cells ++ rest_cells) (cells_of-rows_of n width (drop width cells) (rest n width cells whole))
    ∙ take-append-drop width cells

pub even-rows_of : (n width : ℕ) (cells : List ℤ) → length cells ≡ n * width → All (λ row. length row ≡ width) (rows_of n width cells)
even-rows_of zero width cells whole = All-nil (λ row. length row ≡ width)
even-rows_of (suc n) width cells whole =
    All-cons (λ row. length row ≡ width) (take width cells) (rows_of n width (drop width cells)) (first_row_whole n width cells whole)
    (even-rows_of n width (drop width cells) (rest n width cells whole))

pub rows_of-replicate : (n width : ℕ) (cell : ℤ) → rows_of n width (replicate (n * width) cell) ≡ replicate n (replicate width cell)
rows_of-replicate zero width cell = refl
rows_of-replicate (suc n) width cell =
    let front : take width (replicate (suc n * width) cell) ≡ replicate width cell =
    take-replicate width (suc n * width) cell (omega (arith, suc-mul n width)) in
    let back : drop width (replicate (suc n * width) cell) ≡ replicate (n * width) cell =
    drop-replicate width (suc n * width) cell ∙ ap (λ k. replicate k cell) (omega (arith, suc-mul n width)) in
    ap₂ (λ (row : List ℤ) (more : List (List ℤ)). row ∷ more) front (ap (rows_of n width) back ∙ rows_of-replicate n width cell)

-- A value that is seen as a grid, from its fields.
abbrev pub Seen : ℕ → ℕ → List ℤ → Grid → Type 0
Seen width rows cells grid = record { width = width; rows = rows_of rows width cells } ≡ grid

pub cells_seen : (width rows : ℕ) (cells : List ℤ) (grid : Grid) → Seen width rows cells grid → length cells ≡ rows * width → cells ≡ cells_of grid.rows
cells_seen width rows cells grid seen whole = subst (λ (g : Grid). cells ≡ cells_of g.rows) seen (sym (cells_of-rows_of rows width cells whole))

pub count_seen : (width rows : ℕ) (cells : List ℤ) (grid : Grid) → Seen width rows cells grid → rows ≡ length grid.rows
count_seen width rows cells grid seen = subst (λ (g : Grid). rows ≡ length g.rows) seen (sym (length-rows_of rows width cells))

pub length_seen : (width rows : ℕ) (cells : List ℤ) (grid : Grid) → Seen width rows cells grid → length cells ≡ rows * width
    → length cells ≡ length grid.rows * grid.width
length_seen width rows cells grid seen whole =
    subst (λ (g : Grid). length cells ≡ length g.rows * g.width) seen (whole ∙ ap (λ n. n * width) (sym (length-rows_of rows width cells)))

pub rows_seen : (width rows : ℕ) (cells : List ℤ) (grid : Grid) → Seen width rows cells grid → grid.rows ≡ rows_of (length grid.rows) grid.width cells
rows_seen width rows cells grid seen =
    subst (λ (g : Grid). g.rows ≡ rows_of (length g.rows) g.width cells) seen (ap (λ n. rows_of n width cells) (sym (length-rows_of rows width cells)))

pub shaped_seen : (width rows : ℕ) (cells : List ℤ) (grid : Grid) → Seen width rows cells grid → 1 ≤ width → length cells ≡ rows * width → rows < 2 ^ 32
    → IsGrid grid
shaped_seen width rows cells grid seen wide whole few = subst IsGrid seen (record {
  wide = wide;
  even = even-rows_of rows width cells whole;
  few = subst (λ n. n < 2 ^ 32) (sym (length-rows_of rows width cells)) few;
})

-- one more row
pub rows_of-push : (n width : ℕ) (cells row : List ℤ) → length cells ≡ n * width → length row ≡ width
    → rows_of (suc n) width (cells ++ row) ≡ rows_of n width cells ++ row ∷ []
rows_of-push zero width cells row whole wide =
    let none : cells ≡ [] = nil_from_length cells (omega (arith, whole)) in
    let front : take width (cells ++ row) ≡ take width row = ap (λ (front : List ℤ). take width (front ++ row)) none in
    ap (λ (only : List ℤ). only ∷ []) (front ∙ take_all width row (omega arith))
rows_of-push (suc n) width cells row whole wide =
    let enough : width ≤ length cells = omega (arith, whole, suc-mul n width) in
    ap₂ (λ (front : List ℤ) (more : List (List ℤ)). front ∷ more) (take-append-le width cells row enough)
    (ap (rows_of (suc n) width) (drop-append-le width cells row enough) ∙ rows_of-push n width (drop width cells) row (rest n width cells whole) wide)

-- fewer rows
pub take-rows_of : (n m width : ℕ) (cells : List ℤ) → n ≤ m → take n (rows_of m width cells) ≡ rows_of n width cells
take-rows_of zero m width cells few = refl
take-rows_of (suc n) zero width cells few = absurd (omega arith)
take-rows_of (suc n) (suc m) width cells few = ap (λ (more : List (List ℤ)). take width cells ∷ more) (take-rows_of n m width (drop width cells) (omega arith))

-- the cell of a row and a column in the buffer
pub cell-rows_of : (n width : ℕ) (cells : List ℤ) (row column : ℕ) → row < n → column < width
    → get_or (get_or (rows_of n width cells) row []) column (pos 0) ≡ get_or cells (row * width + column) (pos 0)
cell-rows_of zero width cells row column low narrow = absurd (omega arith)
cell-rows_of (suc n) width cells zero column low narrow = get_or-take width cells column (pos 0) narrow ∙ ap (λ k. get_or cells k (pos 0)) (omega arith)
cell-rows_of (suc n) width cells (suc row) column low narrow =
    cell-rows_of n width (drop width cells) row column (omega arith) narrow
    ∙ get_or-drop width cells (row * width + column) (pos 0)
    ∙ ap (λ k. get_or cells k (pos 0)) (omega (arith, suc-mul row width))

pub cell-past_rows : (n width : ℕ) (cells : List ℤ) (row column : ℕ) → n ≤ row → get_or (get_or (rows_of n width cells) row []) column (pos 0) ≡ pos 0
cell-past_rows n width cells row column high =
    ap (λ (found : List ℤ). get_or found column (pos 0)) (get_or_past (rows_of n width cells) row [] (omega (arith, length-rows_of n width cells)))

pub cell-past_columns : (n width : ℕ) (cells : List ℤ) (row column : ℕ) → width ≤ column → get_or (get_or (rows_of n width cells) row []) column (pos 0) ≡ pos 0
cell-past_columns zero width cells row column wide = refl
cell-past_columns (suc n) width cells zero column wide = get_or_past (take width cells) column (pos 0) (omega (arith, length-take width cells))
cell-past_columns (suc n) width cells (suc row) column wide = cell-past_columns n width (drop width cells) row column wide

pub pushed_seen : (width rows : ℕ) (cells row made : List ℤ) (grid : Grid) → Seen width rows cells grid → length cells ≡ rows * width → length row ≡ grid.width
    → made ≡ cells ++ row → Seen width (rows + 1) made (record grid { rows = grid.rows ++ row ∷ [] })
pushed_seen width rows cells row made grid seen whole =
    let Pushed : Grid → Type 0 = λ g. length row ≡ g.width → made ≡ cells ++ row → Seen width (rows + 1) made (record g { rows = g.rows ++ row ∷ [] }) in
    let all : List (List ℤ) → Grid = λ rows. record { width = width; rows = rows } in
    subst Pushed seen (λ wide is.
    let next : rows + 1 ≡ suc rows = omega arith in
    ap all (ap₂ (λ (k : ℕ) (after : List ℤ). rows_of k width after) next is ∙ rows_of-push rows width cells row whole wide))

pub cell_seen : (width rows : ℕ) (cells : List ℤ) (grid : Grid) → Seen width rows cells grid → length cells ≡ rows * width → (row column : ℕ) → row < rows
    → column < width → (x : ℤ) → x ≡ get_or cells (row * width + column) x → x ≡ cell_of grid row column
cell_seen width rows cells grid seen whole row column low narrow x is =
    let most : width * suc row ≤ width * rows = mul-le-mul_left width low in
    let within : row * width + column < length cells = omega (arith, most, suc-mul row width) in
    subst (λ (g : Grid). x ≡ cell_of g row column) seen
    (get_or_read cells (row * width + column) x within is (pos 0) ∙ sym (cell-rows_of rows width cells row column low narrow))

pub no_row_seen : (width rows : ℕ) (cells : List ℤ) (grid : Grid) → Seen width rows cells grid → (row column : ℕ) → rows ≤ row → pos 0 ≡ cell_of grid row column
no_row_seen width rows cells grid seen row column high =
    subst (λ (g : Grid). pos 0 ≡ cell_of g row column) seen (sym (cell-past_rows rows width cells row column high))

pub no_column_seen : (width rows : ℕ) (cells : List ℤ) (grid : Grid) → Seen width rows cells grid → (row column : ℕ) → width ≤ column
    → pos 0 ≡ cell_of grid row column
no_column_seen width rows cells grid seen row column wide =
    subst (λ (g : Grid). pos 0 ≡ cell_of g row column) seen (sym (cell-past_columns rows width cells row column wide))
