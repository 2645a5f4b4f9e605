-- What a loop over reads has seen so far.
use Rattle.std.proofs.Common.{◌≡◌, ℕ, ◌+◌, ◌<◌, pos, List, [], ◌∷◌, ◌++◌, length, take, get_or, fold, sym, ◌∙◌, ap, All, sum_by, zero-add}
use Rattle.std.specs.List.{flat_map}
use Rattle.std.proofs.lemmas.List.{append-nil, get_or_read, map_more}
use Rattle.std.proofs.lemmas.List.Elements.{All-get_or}
use Rattle.std.proofs.lemmas.List.Concat.{flat_map-append}
use Rattle.std.proofs.lemmas.List.Sums.{fold-append, sum_by-append}
use Rattle.nim_base.specs.Value.{Grid, cells_of, empty_grid}
use Rattle.nim_base.specs.Functions.{read_values, plus, sum_of_cells}

-- the first reads, and one more
pub reads_more : (values : List Grid) (reads : List ℕ) (i : ℕ) → i < length reads
    → read_values values (take (i + 1) reads) ≡ read_values values (take i reads) ++ get_or values (get_or reads i 0) empty_grid ∷ []
reads_more values reads i lt = map_more (λ index. get_or values index empty_grid) reads i 0 lt

pub total_more : (values : List Grid) (reads : List ℕ) (i : ℕ) → i < length reads
    → sum_of_cells (flat_map (λ grid. cells_of grid.rows) (read_values values (take (i + 1) reads)))
    ≡ fold plus (sum_of_cells (flat_map (λ grid. cells_of grid.rows) (read_values values (take i reads))))
    (cells_of (get_or values (get_or reads i 0) empty_grid).rows)
total_more values reads i lt =
    let all = λ (grid : Grid). cells_of grid.rows in
    let before = read_values values (take i reads) in
    let grid = get_or values (get_or reads i 0) empty_grid in
    ap (λ grids. sum_of_cells (flat_map all grids)) (reads_more values reads i lt)
    ∙ ap sum_of_cells (flat_map-append all before (grid ∷ []))
    ∙ fold-append plus (pos 0) (flat_map all before) (all grid ++ [])
    ∙ ap (fold plus (sum_of_cells (flat_map all before))) (append-nil (all grid))

pub count_more : (values : List Grid) (reads : List ℕ) (i : ℕ) → i < length reads
    → sum_by (λ grid. length grid.rows) (read_values values (take (i + 1) reads))
    ≡ sum_by (λ grid. length grid.rows) (read_values values (take i reads)) + length (get_or values (get_or reads i 0) empty_grid).rows
count_more values reads i lt =
    let height = λ (grid : Grid). length grid.rows in
    let before = read_values values (take i reads) in
    let grid = get_or values (get_or reads i 0) empty_grid in
    ap (sum_by height) (reads_more values reads i lt)
    ∙ sum_by-append height before (grid ∷ [])
    ∙ ap (λ n. sum_by height before + n) (zero-add (height grid))

-- the value at the next read
pub read_added : (values : List Grid) (reads : List ℕ) (i : ℕ) (value : Grid) → All (λ index. index < length values) reads → i < length reads
    → value ≡ get_or values (get_or reads i 0) value → read_values values (take i reads) ++ value ∷ [] ≡ read_values values (take (i + 1) reads)
read_added values reads i value inside lt is =
    let there = All-get_or (λ index. index < length values) reads i 0 lt inside in
    ap (λ (v : Grid). read_values values (take i reads) ++ v ∷ []) (get_or_read values (get_or reads i 0) value there is empty_grid)
    ∙ sym (reads_more values reads i lt)
