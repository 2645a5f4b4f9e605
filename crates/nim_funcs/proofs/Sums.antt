-- Sums of values, one read more at a time.
use Rattle.std.proofs.Common.{◌≡◌, ℕ, ◌%◌, ◌<◌, ◌≤◌, ℤ, pos, List, [], ◌∷◌, ◌++◌, length, map, get_or, max, refl, sym, ◌∙◌, ap, ap₂, arith}
use Rattle.std.proofs.Math.Path.{fun_ext}
use Rattle.std.proofs.Math.Logic.{⊎_elim}
use Rattle.std.proofs.Math.ListN.{get_or-eq_default, get_or-map}
use mir.Val.{to_z}
use Rattle.std.specs.Int.{w64}
use Rattle.std.proofs.lemmas.Bool.{cases_lt}
use Rattle.std.proofs.lemmas.List.{length-map, map-append}
use Rattle.std.proofs.lemmas.List.Elements.{All-get_or}
use Rattle.std.proofs.lemmas.List.FromFn.{fill_by_all, get_or-map-range_with_len, length-map-range_with_len}
use Rattle.std.proofs.lemmas.List.Sums.{fold_push}
use Rattle.nim_base.specs.Value.{Grid, IsGrid, cell_of}
use Rattle.nim_base.specs.Functions.{add_of, addc_of, greatest, grid_by, height_of, plus, row_by, sum_of, sum_of_cells, width_of}
use Rattle.nim_funcs.specs.Sums.{IsSumOf}
use Rattle.nim_funcs.proofs.CellRows.{length-grid_by}

-- a value is what its cells make
grid_is : (grid : Grid) → IsGrid grid → grid ≡ grid_by (length grid.rows) grid.width (cell_of grid)
grid_is grid shaped =
    ap (λ (rows : List (List ℤ)). record { width = grid.width; rows = rows })
    (fill_by_all (λ r. row_by grid.width (cell_of grid r)) grid.rows (length grid.rows) [] refl
    (λ r within. fill_by_all (cell_of grid r) (get_or grid.rows r []) grid.width (pos 0)
    (All-get_or (λ (row : List ℤ). length row ≡ grid.width) grid.rows r [] within shaped.even) (λ c lt. refl)))

pub sums_are : (reads : List Grid) (sums : Grid) → IsSumOf reads sums → sums ≡ sum_of reads
sums_are reads sums is =
    grid_is sums is.shaped
    ∙ ap₂ (λ h w. grid_by h w (cell_of sums)) is.height is.width
    ∙ ap (grid_by (height_of reads) (width_of reads)) (fun_ext (λ r. fun_ext (λ c. is.cells r c)))

-- a cell past the rows or past the width
cell_below : (grid : Grid) (r c : ℕ) → length grid.rows ≤ r → cell_of grid r c ≡ pos 0
cell_below grid r c past = ap (λ (row : List ℤ). get_or row c (pos 0)) (get_or-eq_default grid.rows [] past)

cell_beside : (grid : Grid) (r c : ℕ) → IsGrid grid → grid.width ≤ c → cell_of grid r c ≡ pos 0
cell_beside grid r c shaped past = ⊎_elim
    (λ within. get_or-eq_default (get_or grid.rows r []) (pos 0)
    (omega (arith, past, All-get_or (λ (row : List ℤ). length row ≡ grid.width) grid.rows r [] within shaped.even)))
    (λ below. cell_below grid r c below)
    (cases_lt r (length grid.rows))

-- a cell of a value that is given by its places
cell_by : (height width r c : ℕ) (cell : ℕ → ℕ → ℤ) → r < height → c < width → cell_of (grid_by height width cell) r c ≡ cell r c
cell_by height width r c cell row_in column_in =
    ap (λ (row : List ℤ). get_or row c (pos 0)) (get_or-map-range_with_len (λ n. row_by width (cell n)) 0 height r r [] row_in (omega arith))
    ∙ get_or-map-range_with_len (cell r) 0 width c c (pos 0) column_in (omega arith)

cell_outside : (height width r c : ℕ) (cell : ℕ → ℕ → ℤ) → width ≤ c → cell_of (grid_by height width cell) r c ≡ pos 0
cell_outside height width r c cell past = ⊎_elim
    (λ within. ap (λ (row : List ℤ). get_or row c (pos 0)) (get_or-map-range_with_len (λ n. row_by width (cell n)) 0 height r r [] within (omega arith))
    ∙ get_or-eq_default (row_by width (cell r)) (pos 0) (omega (arith, past, length-map-range_with_len (cell r) 0 width)))
    (λ below. cell_below (grid_by height width cell) r c (omega (arith, below, length-grid_by height width cell)))
    (cases_lt r height)

-- each cell of a pair, also where there is none
pair_cells : (first second : Grid) (r c : ℕ) → IsGrid first → IsGrid second → cell_of (add_of first second) r c ≡ plus (cell_of first r c) (cell_of second r c)
pair_cells first second r c shaped even =
    let height = max (length first.rows) (length second.rows) in
    let width = max first.width second.width in
    let cell = λ (row column : ℕ). plus (cell_of first row column) (cell_of second row column) in
    ⊎_elim
    (λ row_in. ⊎_elim
    (λ column_in. cell_by height width r c cell row_in column_in)
    (λ past. cell_outside height width r c cell past ∙ sym (ap₂ plus (cell_beside first r c shaped (omega (arith, past)))
    (cell_beside second r c even (omega (arith, past)))))
    (cases_lt c width))
    (λ past. cell_below (grid_by height width cell) r c (omega (arith, past, length-grid_by height width cell))
    ∙ sym (ap₂ plus (cell_below first r c (omega (arith, past))) (cell_below second r c (omega (arith, past)))))
    (cases_lt r height)

plus_turned : (cell : ℤ) → plus cell (pos 0) ≡ plus (pos 0) cell
plus_turned cell = ap (λ n. to_z w64 (n % 18446744073709551616)) (omega arith)

-- the sum of one value
pub sum_one : (value sums : Grid) → IsGrid sums → sums ≡ addc_of (pos 0) value → IsSumOf (value ∷ []) sums
sum_one value sums shaped is =
    let onto = λ (cell : ℤ). plus cell (pos 0) in
    record {
      height = ap (λ (g : Grid). length g.rows) is ∙ length-map value.rows (map onto) ∙ omega arith;
      width = ap (λ (g : Grid). g.width) is ∙ omega arith;
      cells = λ r c.
          ap (λ (g : Grid). cell_of g r c) is
          ∙ ap (λ (row : List ℤ). get_or row c (pos 0)) (get_or-map (map onto) value.rows r [])
          ∙ get_or-map onto (get_or value.rows r []) c (pos 0)
          ∙ plus_turned (cell_of value r c);
      shaped = shaped;
    }

-- the sum of one value more
pub sum_more : (reads : List Grid) (sums value more : Grid) → IsGrid value → IsGrid more → IsSumOf reads sums → more ≡ add_of sums value
    → IsSumOf (reads ++ value ∷ []) more
sum_more reads sums value more even shaped before is =
    let tall = λ (g : Grid). length g.rows in
    let wide = λ (g : Grid). g.width in
    record {
      height = ap (λ (g : Grid). length g.rows) is
          ∙ length-grid_by (max (length sums.rows) (length value.rows)) (max sums.width value.width) (λ r c. plus (cell_of sums r c) (cell_of value r c))
          ∙ ap (λ n. max n (length value.rows)) before.height
          ∙ sym (ap greatest (map-append tall reads (value ∷ [])) ∙ fold_push max 0 (map tall reads) (length value.rows));
      width = ap (λ (g : Grid). g.width) is
          ∙ ap (λ n. max n value.width) before.width
          ∙ sym (ap greatest (map-append wide reads (value ∷ [])) ∙ fold_push max 0 (map wide reads) value.width);
      cells = λ r c.
          ap (λ (g : Grid). cell_of g r c) is
          ∙ pair_cells sums value r c before.shaped even
          ∙ ap (λ sum. plus sum (cell_of value r c)) (before.cells r c)
          ∙ sym (ap sum_of_cells (map-append (λ (g : Grid). cell_of g r c) reads (value ∷ []))
          ∙ fold_push plus (pos 0) (map (λ (g : Grid). cell_of g r c) reads) (cell_of value r c));
      shaped = shaped;
    }
