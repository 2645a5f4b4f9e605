-- Rows cut and padded, on cells one after another.
use Rattle.std.proofs.Common.{◌≡◌, ℕ, ◌+◌, ◌-◌, ◌*◌, ◌<◌, ◌≤◌, zero, suc, min, ℤ, pos, List, [], ◌∷◌, ◌++◌, length, take, drop, map, replicate, refl, sym, ◌∙◌, ap, ap₂, arith}
use Rattle.std.specs.List.{All, flat_map}
use Rattle.std.proofs.lemmas.List.Elements.{All-cons, All-nil, All-same}
use Rattle.std.proofs.Math.Nat.{suc-mul}
use Rattle.std.proofs.Math.Seq.{take-add}
use Rattle.std.proofs.lemmas.List.{append-nil, length-append, length-take, length-take-le, length-drop, length-replicate, take_all, take_at, drop_at, take_min}
use Rattle.nim_base.specs.Value.{Grid, rows_of, fit_row, fitted}
use Rattle.nim_base.specs.declared.number.Shape.{Shape}
use Rattle.nim_base.proofs.Rows.{length-rows_of, take-rows_of}

-- what is done for each row, at the next row
pub flat_rows-step : {X : Type 0} (does : List ℤ → List X) (n i width : ℕ) (cells : List ℤ) → i < n
    → flat_map does (rows_of (n - i) width cells) ≡ does (take width cells) ++ flat_map does (rows_of (n - (i + 1)) width (drop width cells))
flat_rows-step does n i width cells more =
    let left : n - i ≡ suc (n - (i + 1)) = omega arith in
    ap (λ k. flat_map does (rows_of k width cells)) left

-- what holds of each row, at the next row and at the end
pub fit_rows-step : (P : ℤ → Type 0) (n i width : ℕ) (cells : List ℤ) → i < n → All P (take width cells)
    → All (All P) (rows_of (n - (i + 1)) width (drop width cells)) → All (All P) (rows_of (n - i) width cells)
fit_rows-step P n i width cells more first others =
    let left : n - i ≡ suc (n - (i + 1)) = omega arith in
    All-same (All P) (rows_of (n - i) width cells) (take width cells ∷ rows_of (n - (i + 1)) width (drop width cells)) (ap (λ k. rows_of k width cells) left)
    (All-cons (All P) (take width cells) (rows_of (n - (i + 1)) width (drop width cells)) first others)

pub fit_rows-end : (P : ℤ → Type 0) (n i width : ℕ) (cells : List ℤ) → n ≤ i → All (All P) (rows_of (n - i) width cells)
fit_rows-end P n i width cells done =
    let left : n - i ≡ 0 = omega arith in
    All-same (All P) (rows_of (n - i) width cells) [] (ap (λ k. rows_of k width cells) left) (All-nil (All P))

pub enough-step : (n i width : ℕ) (cells : List ℤ) → i < n → (n - i) * width ≤ length cells
    → (width ≤ length cells) × ((n - (i + 1)) * width ≤ length (drop width cells))
enough-step n i width cells more enough =
    let left : n - i ≡ suc (n - (i + 1)) = omega arith in
    let all : suc (n - (i + 1)) * width ≤ length cells = rw left at enough in
    (omega (arith, all, suc-mul (n - (i + 1)) width), omega (arith, all, suc-mul (n - (i + 1)) width, length-drop width cells))

pub length-fit_row : (width : ℕ) (row : List ℤ) → length (fit_row width row) ≡ width
length-fit_row width row =
    omega (arith, length-append (take width row) (replicate (width - length row) (pos 0)), length-take width row, length-replicate (width - length row) (pos 0))

pub fit_row-same : (width : ℕ) (row : List ℤ) → length row ≡ width → fit_row width row ≡ row
fit_row-same width row same =
    let whole : width - length row ≡ 0 = omega arith in
    let none : replicate (width - length row) (pos 0) ≡ [] = ap (λ k. replicate k (pos 0)) whole in
    ap₂ (λ (front back : List ℤ). front ++ back) (take_all width row (omega arith)) none ∙ append-nil row

-- rows that have the width already
pub fit_same : (n width : ℕ) (cells : List ℤ) → n * width ≤ length cells → take (n * width) cells ≡ flat_map (fit_row width) (rows_of n width cells)
fit_same zero width cells enough = let nothing : 0 * width ≡ 0 = omega arith in ap (λ k. take k cells) nothing
fit_same (suc n) width cells enough =
    let front : fit_row width (take width cells) ≡ take width cells =
    fit_row-same width (take width cells) (length-take-le width cells (omega (arith, suc-mul n width))) in
    let more : suc n * width ≡ width + n * width = omega (arith, suc-mul n width) in
    ap (λ k. take k cells) more
    ∙ take-add width (n * width) cells
    ∙ ap₂ (λ (front back : List ℤ). front ++ back) (sym front) (fit_same n width (drop width cells) (omega (arith, suc-mul n width, length-drop width cells)))

-- rows of one width, one after another, are cut into these rows again
pub rows_of-flat : (to : ℕ) (does : List ℤ → List ℤ) → ((row : List ℤ) → length (does row) ≡ to) → (rows : List (List ℤ))
    → rows_of (length rows) to (flat_map does rows) ≡ map does rows
rows_of-flat to does even [] = refl
rows_of-flat to does even (row ∷ rows) =
    ap₂ (λ (front : List ℤ) (more : List (List ℤ)). front ∷ more) (take_at (does row) (flat_map does rows) to (even row))
    (ap (rows_of (length rows) to) (drop_at (does row) (flat_map does rows) to (even row)) ∙ rows_of-flat to does even rows)

pub fitted_rows : (grid : Grid) (cells made : List ℤ) (n width to count : ℕ) → grid.rows ≡ rows_of (length grid.rows) grid.width cells → width ≡ grid.width
    → n ≡ min (length grid.rows) count → made ≡ flat_map (fit_row to) (rows_of n width cells) → rows_of n to made ≡ map (fit_row to) (take count grid.rows)
fitted_rows grid cells made n width to count seen same few is =
    let less : rows_of n grid.width cells ≡ take n grid.rows = sym (ap (take n) seen ∙ take-rows_of n (length grid.rows) grid.width cells (omega arith)) in
    let first : rows_of n width cells ≡ take count grid.rows =
    ap (λ k. rows_of n k cells) same ∙ less ∙ ap (λ k. take k grid.rows) (omega arith) ∙ take_min count grid.rows in
    let counted : n ≡ length (take count grid.rows) = omega (arith, length-take count grid.rows) in
    ap₂ (λ (k : ℕ) (all : List ℤ). rows_of k to all) counted (is ∙ ap (flat_map (fit_row to)) first)
    ∙ rows_of-flat to (fit_row to) (length-fit_row to) (take count grid.rows)

pub length-flat : (to : ℕ) (does : List ℤ → List ℤ) → ((row : List ℤ) → length (does row) ≡ to) → (rows : List (List ℤ))
    → length (flat_map does rows) ≡ length rows * to
length-flat to does even [] = omega arith
length-flat to does even (row ∷ rows) =
    omega (arith, length-append (does row) (flat_map does rows), even row, length-flat to does even rows, suc-mul (length rows) to)

pub fitted_length : (n width to : ℕ) (cells made : List ℤ) → made ≡ flat_map (fit_row to) (rows_of n width cells) → length made ≡ n * to
fitted_length n width to cells made is =
    ap length is ∙ length-flat to (fit_row to) (length-fit_row to) (rows_of n width cells) ∙ ap (λ k. k * to) (length-rows_of n width cells)

-- the fitted value, from its cells
pub fitted_is : (grid : Grid) (shape : Shape) (cells made : List ℤ) (n width : ℕ) (fit : Grid) → grid.rows ≡ rows_of (length grid.rows) grid.width cells
    → width ≡ grid.width → n ≡ min (length grid.rows) shape.rows → made ≡ flat_map (fit_row shape.width) (rows_of n width cells)
    → fit ≡ record { width = shape.width; rows = rows_of n shape.width made } → fit ≡ fitted grid shape
fitted_is grid shape cells made n width fit seen same few is made_of =
    let whole : List (List ℤ) → Grid = λ rows. record { width = shape.width; rows = rows } in
    made_of ∙ ap whole (fitted_rows grid cells made n width shape.width shape.rows seen same few is)
