-- Cells one after another, and the rows that they make.
use Rattle.std.proofs.Common.{◌≡◌, ℕ, ◌+◌, ◌-◌, ◌*◌, ◌<◌, ◌≤◌, zero, suc, ℤ, List, [], ◌∷◌, ◌++◌, length, take, drop, map, get_or, append_assoc, refl, sym, ◌∙◌, ap, ap₂, arith, All}
use Rattle.std.proofs.Math.Nat.{suc-mul, mul-le-mul_left}
use Rattle.std.proofs.lemmas.List.{take-map, drop-map, take_at, drop_at, drop-drop, length-append, append-nil, length-drop, length-take-le}
use Rattle.std.proofs.lemmas.List.Elements.{All-head, All-tail, All-nil, All-cons}
use Rattle.nim_base.specs.Value.{Grid, rows_of, cells_of}
use Rattle.nim_base.specs.Functions.{grid_row, row_by, grid_by}
use Rattle.std.specs.List.{range_with_len}
use Rattle.std.proofs.lemmas.List.Concat.{flat_map-append}
use Rattle.std.proofs.lemmas.List.FromFn.{map-range_with_len_more, length-map-range_with_len}

-- a value of its parts
abbrev grid_with : ℕ → List (List ℤ) → Grid
grid_with width rows = record { width = width; rows = rows }

-- a row in front of others
abbrev in_front : List ℤ → List (List ℤ) → List (List ℤ)
in_front row rows = row ∷ rows

pub rows_of-map : (n width : ℕ) (f : ℤ → ℤ) (cells : List ℤ) → rows_of n width (map f cells) ≡ map (map f) (rows_of n width cells)
rows_of-map zero width f cells = refl
rows_of-map (suc n) width f cells =
    ap₂ in_front (take-map f width cells) (ap (rows_of n width) (drop-map f width cells) ∙ rows_of-map n width f (drop width cells))

pub rows_of-cells_of : (width : ℕ) (rows : List (List ℤ)) → All (λ row. length row ≡ width) rows → rows_of (length rows) width (cells_of rows) ≡ rows
rows_of-cells_of width [] even = refl
rows_of-cells_of width (row ∷ rows) even =
    let whole : length row ≡ width = All-head (λ r. length r ≡ width) row rows even in
    ap₂ in_front (take_at row (cells_of rows) width whole)
    (ap (rows_of (length rows) width) (drop_at row (cells_of rows) width whole) ∙ rows_of-cells_of width rows (All-tail (λ r. length r ≡ width) row rows even))

pub row_at : (n width r : ℕ) (cells : List ℤ) → r < n → get_or (rows_of n width cells) r [] ≡ take width (drop (r * width) cells)
row_at zero width r cells lt = absurd (omega arith)
row_at (suc n) width zero cells lt =
    let none : 0 * width ≡ 0 = omega arith in
    sym (ap (λ k. take width (drop k cells)) none)
row_at (suc n) width (suc r) cells lt =
    let more : width + r * width ≡ suc r * width = omega (arith, suc-mul r width) in
    row_at n width r (drop width cells) (omega arith)
    ∙ ap (take width) (drop-drop (r * width) width cells ∙ ap (λ k. drop k cells) more)

-- the rows of a value, each cell changed, from its cells
pub mapped : (f : ℤ → ℤ) (grid : Grid) (cells changed : List ℤ) → grid.rows ≡ rows_of (length grid.rows) grid.width cells → changed ≡ map f cells
    → rows_of (length grid.rows) grid.width changed ≡ map (map f) grid.rows
mapped f grid cells changed seen is =
    ap (rows_of (length grid.rows) grid.width) is ∙ rows_of-map (length grid.rows) grid.width f cells ∙ sym (ap (map (map f)) seen)

-- the slice of a row, from the cells of a value
pub row_seen : (grid : Grid) (cells : List ℤ) (row width : ℕ) → grid.rows ≡ rows_of (length grid.rows) grid.width cells → width ≡ grid.width
    → row < length grid.rows → take (row * width + width - row * width) (drop (row * width) cells) ≡ grid_row grid row
row_seen grid cells row width seen is lt =
    let back : row * width + width - row * width ≡ width = omega arith in
    ap (λ k. take k (drop (row * width) cells)) back
    ∙ ap (λ k. take k (drop (row * k) cells)) is
    ∙ sym (row_at (length grid.rows) grid.width row cells lt)
    ∙ sym (ap (λ (rows : List (List ℤ)). get_or rows row []) seen)

pub row_whole : (grid : Grid) (cells : List ℤ) (row width : ℕ) → length cells ≡ length grid.rows * grid.width → width ≡ grid.width → row < length grid.rows
    → length (take (row * width + width - row * width) (drop (row * width) cells)) ≡ grid.width
row_whole grid cells row width whole is lt =
    let le : suc row ≤ length grid.rows = omega arith in
    let more : grid.width * suc row ≤ grid.width * length grid.rows = mul-le-mul_left grid.width le in
    let here : row * width ≡ row * grid.width = ap (λ k. row * k) is in
    let enough : row * width + width - row * width ≤ length (drop (row * width) cells) =
    omega (arith, whole, more, here, is, length-drop (row * width) cells) in
    length-take-le (row * width + width - row * width) (drop (row * width) cells) enough ∙ omega (arith, is)

-- one more cell of a row, and one more row
pub row_more : (width : ℕ) (cell : ℕ → ℤ) → row_by (width + 1) cell ≡ row_by width cell ++ cell width ∷ []
row_more width cell = map-range_with_len_more cell 0 width width (omega arith)

-- the cells of a row after one more was added
pub row_step : (start before after : List ℤ) (cell : ℕ → ℤ) (column : ℕ) (new : ℤ) → before ≡ start ++ row_by column cell → after ≡ before ++ new ∷ []
    → new ≡ cell column → after ≡ start ++ row_by (column + 1) cell
row_step start before after cell column new is_before is_after is_new =
    is_after
    ∙ ap (λ (xs : List ℤ). xs ++ new ∷ []) is_before
    ∙ ap (λ x. (start ++ row_by column cell) ++ x ∷ []) is_new
    ∙ append_assoc start (row_by column cell) (cell column ∷ [])
    ∙ ap (λ (row : List ℤ). start ++ row) (sym (row_more column cell))

pub grid_more : (height width : ℕ) (cell : ℕ → ℕ → ℤ) → cells_of (grid_by (height + 1) width cell).rows ≡ cells_of (grid_by height width cell).rows
    ++ row_by width (cell height)
grid_more height width cell =
    let line = λ (row : ℕ). row_by width (cell row) in
    let before = map line (range_with_len 0 height) in
    ap cells_of (map-range_with_len_more line 0 height height (omega arith))
    ∙ flat_map-append (λ row. row) before (line height ∷ []) ∙ ap (λ more. cells_of before ++ more) (append-nil (line height))

pub length-cells_of : (width : ℕ) (rows : List (List ℤ)) → All (λ row. length row ≡ width) rows → length (cells_of rows) ≡ length rows * width
length-cells_of width [] even = omega arith
length-cells_of width (row ∷ rows) even =
    let whole : length row ≡ width = All-head (λ r. length r ≡ width) row rows even in
    let more : length (cells_of rows) ≡ length rows * width = length-cells_of width rows (All-tail (λ r. length r ≡ width) row rows even) in
    omega (arith, length-append row (cells_of rows), whole, more, suc-mul (length rows) width)

even-lines : (width : ℕ) (cell : ℕ → ℕ → ℤ) (rows : List ℕ) → All (λ row. length row ≡ width) (map (λ row. row_by width (cell row)) rows)
even-lines width cell [] = All-nil (λ row. length row ≡ width)
even-lines width cell (row ∷ rows) =
    All-cons (λ r. length r ≡ width) (row_by width (cell row)) (map (λ n. row_by width (cell n)) rows) (length-map-range_with_len (cell row) 0 width)
    (even-lines width cell rows)

pub even-grid_by : (height width : ℕ) (cell : ℕ → ℕ → ℤ) → All (λ row. length row ≡ width) (grid_by height width cell).rows
even-grid_by height width cell = even-lines width cell (range_with_len 0 height)

pub length-grid_by : (height width : ℕ) (cell : ℕ → ℕ → ℤ) → length (grid_by height width cell).rows ≡ height
length-grid_by height width cell = length-map-range_with_len (λ row. row_by width (cell row)) 0 height

-- cells made row by row are the value
pub made_length : (n height width : ℕ) (cell : ℕ → ℕ → ℤ) (cells : List ℤ) → n ≡ height → cells ≡ cells_of (grid_by n width cell).rows
    → length cells ≡ height * width
made_length n height width cell cells all is =
    ap length is
    ∙ length-cells_of width (grid_by n width cell).rows (even-grid_by n width cell) ∙ ap (λ k. k * width) (length-grid_by n width cell ∙ all)

made_rows : (height width : ℕ) (cell : ℕ → ℕ → ℤ) → rows_of height width (cells_of (grid_by height width cell).rows) ≡ (grid_by height width cell).rows
made_rows height width cell =
    let made = grid_by height width cell in
    ap (λ n. rows_of n width (cells_of made.rows)) (sym (length-grid_by height width cell)) ∙ rows_of-cells_of width made.rows (even-grid_by height width cell)

pub made_grid : (n height width tall wide : ℕ) (cell : ℕ → ℕ → ℤ) (cells : List ℤ) (result : Grid) → n ≡ height → cells ≡ cells_of (grid_by n width cell).rows
    → height ≡ tall → width ≡ wide → result ≡ record { width = width; rows = rows_of height width cells } → result ≡ grid_by tall wide cell
made_grid n height width tall wide cell cells result all is is_tall is_wide is_result =
    is_result
    ∙ ap (λ (rows : List (List ℤ)). grid_with width rows)
    (ap (rows_of height width) (is ∙ ap (λ k. cells_of (grid_by k width cell).rows) all) ∙ made_rows height width cell)
    ∙ ap₂ (λ k j. grid_by k j cell) is_tall is_wide
