-- Cells that lie row by row, seen by their places.
use Rattle.std.proofs.Common.{◌≡◌, ℕ, ◌+◌, ◌*◌, ◌<◌, ◌≤◌, zero, suc, ℤ, pos, List, [], ◌∷◌, length, take, drop, map, get_or, max, refl, sym, ◌∙◌, ap, ap₂, arith}
use Rattle.std.specs.List.{zip}
use Rattle.std.proofs.Math.Nat.{suc-mul, mul-le-mul_left}
use Rattle.std.proofs.lemmas.List.{get_or-drop, get_or-take, length-drop, length-take-le}
use Rattle.std.proofs.lemmas.List.FromFn.{fill_by_all}
use Rattle.nim_base.specs.Value.{Grid, cell_of, rows_of}
use Rattle.nim_base.specs.Functions.{grid_by, pairwise, row_by}
use Rattle.nim_base.proofs.Rows.{length-rows_of}
use Rattle.nim_funcs.proofs.CellRows.{row_at}

-- the end of a row of cells
row_end : (n width r : ℕ) → r < n → r * width + width ≤ n * width
row_end n width r lt =
    let le : suc r ≤ n = omega arith in
    let more : width * suc r ≤ width * n = mul-le-mul_left width le in
    omega (arith, more, suc-mul r width)

-- a row of cells, by its columns
row_filled : (n width r : ℕ) (cells : List ℤ) (cell : ℕ → ℤ) → length cells ≡ n * width → r < n
    → ((c : ℕ) → c < width → get_or cells (r * width + c) (pos 0) ≡ cell c) → take width (drop (r * width) cells) ≡ row_by width cell
row_filled n width r cells cell whole lt each =
    let last : r * width + width ≤ n * width = row_end n width r lt in
    fill_by_all cell (take width (drop (r * width) cells)) width (pos 0)
    (length-take-le width (drop (r * width) cells) (omega (arith, length-drop (r * width) cells, whole, last)))
    (λ c within. get_or-take width (drop (r * width) cells) c (pos 0) within ∙ get_or-drop (r * width) cells c (pos 0) ∙ each c within)

-- cells that are given by their places make that value
pub rows_filled : (n width : ℕ) (cells : List ℤ) (cell : ℕ → ℕ → ℤ) → length cells ≡ n * width
    → ((r c : ℕ) → r < n → c < width → get_or cells (r * width + c) (pos 0) ≡ cell r c) → rows_of n width cells ≡ (grid_by n width cell).rows
rows_filled n width cells cell whole each =
    fill_by_all (λ r. row_by width (cell r)) (rows_of n width cells) n [] (length-rows_of n width cells)
    (λ r within. row_at n width r cells within ∙ row_filled n width r cells (cell r) whole within (λ c lt. each r c within lt))

-- a cell of such rows
cell_seen : (n width r c : ℕ) (cells : List ℤ) → r < n → c < width
    → get_or (get_or (rows_of n width cells) r []) c (pos 0) ≡ get_or cells (r * width + c) (pos 0)
cell_seen n width r c cells row_in column_in =
    ap (λ (row : List ℤ). get_or row c (pos 0)) (row_at n width r cells row_in)
    ∙ get_or-take width (drop (r * width) cells) c (pos 0) column_in
    ∙ get_or-drop (r * width) cells c (pos 0)

cell_of_rows : (grid : Grid) (cells : List ℤ) (r c : ℕ) → grid.rows ≡ rows_of (length grid.rows) grid.width cells → r < length grid.rows → c < grid.width
    → get_or cells (r * grid.width + c) (pos 0) ≡ cell_of grid r c
cell_of_rows grid cells r c seen row_in column_in =
    sym (cell_seen (length grid.rows) grid.width r c cells row_in column_in) ∙ sym (ap (λ (rows : List (List ℤ)). get_or (get_or rows r []) c (pos 0)) seen)

-- the pairs of two lists of one length
length-pairs : (pair : ℤ → ℤ → ℤ) (xs ys : List ℤ) → length xs ≡ length ys → length (map (λ p. pair p.0 p.1) (zip xs ys)) ≡ length xs
length-pairs pair [] ys same = refl
length-pairs pair (x ∷ xs) [] same = absurd (omega (arith, same))
length-pairs pair (x ∷ xs) (y ∷ ys) same = ap suc (length-pairs pair xs ys (omega (arith, same)))

pair_at : (pair : ℤ → ℤ → ℤ) (xs ys : List ℤ) (i : ℕ) → i < length xs → i < length ys
    → get_or (map (λ p. pair p.0 p.1) (zip xs ys)) i (pos 0) ≡ pair (get_or xs i (pos 0)) (get_or ys i (pos 0))
pair_at pair [] ys i lt within = absurd (omega arith)
pair_at pair (x ∷ xs) [] i lt within = absurd (omega arith)
pair_at pair (x ∷ xs) (y ∷ ys) zero lt within = refl
pair_at pair (x ∷ xs) (y ∷ ys) (suc i) lt within = pair_at pair xs ys i (omega arith) (omega arith)

-- the place of a cell
place_in : (n width r c whole : ℕ) → whole ≡ n * width → r < n → c < width → r * width + c < whole
place_in n width r c whole is row_in column_in = omega (arith, row_end n width r row_in, is, column_in)

pub made_length : (pair : ℤ → ℤ → ℤ) (first second : Grid) (xs ys made : List ℤ) → length xs ≡ length first.rows * first.width
    → length ys ≡ length second.rows * second.width → length first.rows ≡ length second.rows → first.width ≡ second.width
    → made ≡ map (λ p. pair p.0 p.1) (zip xs ys) → length made ≡ length first.rows * first.width
made_length pair first second xs ys made whole_xs whole_ys rows width is =
    let same : length xs ≡ length ys = whole_xs ∙ ap₂ (λ n w. n * w) rows width ∙ sym whole_ys in
    ap length is ∙ length-pairs pair xs ys same ∙ whole_xs

-- two values of one shape give the value by their pairs of cells
pub made_alike : (pair : ℤ → ℤ → ℤ) (first second result : Grid) (xs ys made : List ℤ) → first.rows ≡ rows_of (length first.rows) first.width xs
    → second.rows ≡ rows_of (length second.rows) second.width ys → length xs ≡ length first.rows * first.width → length ys ≡ length second.rows * second.width
    → length first.rows ≡ length second.rows → first.width ≡ second.width → made ≡ map (λ p. pair p.0 p.1) (zip xs ys)
    → result ≡ record { width = first.width; rows = rows_of (length first.rows) first.width made } → result ≡ pairwise pair first second
made_alike pair first second result xs ys made seen_first seen_second whole_xs whole_ys rows width is is_result =
    let cell = λ (r c : ℕ). pair (cell_of first r c) (cell_of second r c) in
    let height : length first.rows ≡ max (length first.rows) (length second.rows) = omega (arith, rows) in
    let wide : first.width ≡ max first.width second.width = omega (arith, width) in
    is_result
    ∙ ap (λ (rs : List (List ℤ)). record { width = first.width; rows = rs })
    (rows_filled (length first.rows) first.width made cell (made_length pair first second xs ys made whole_xs whole_ys rows width is)
    (λ r c row_in column_in.
    let at = r * first.width + c in
    let row_too : r < length second.rows = omega (arith, rows) in
    let column_too : c < second.width = omega (arith, width) in
    let place : at ≡ r * second.width + c = ap (λ w. r * w + c) width in
    let in_xs : at < length xs = place_in (length first.rows) first.width r c (length xs) whole_xs row_in column_in in
    let in_ys : at < length ys = omega (arith, place_in (length second.rows) second.width r c (length ys) whole_ys row_too column_too, place) in
    ap (λ (cs : List ℤ). get_or cs at (pos 0)) is
    ∙ pair_at pair xs ys at in_xs in_ys
    ∙ ap₂ pair (cell_of_rows first xs r c seen_first row_in column_in)
    (ap (λ i. get_or ys i (pos 0)) place ∙ cell_of_rows second ys r c seen_second row_too column_too)))
    ∙ ap₂ (λ n w. grid_by n w cell) height wide
