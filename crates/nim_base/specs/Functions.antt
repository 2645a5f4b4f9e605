-- What each function gives, on lists of rows. A cell that isn't there is 0, sums and products wrap, and no result
-- is fitted to a shape yet.
use Rattle.std.specs.Prelude.{ℕ, ◌+◌, ◌-◌, max, Bool, not, ◌&&◌, ◌==◌, if◌then◌else◌, ℤ, pos, negsuc, int_lt, int_le, List, [], ◌∷◌, length, map, fold, filter, slice_index_or}
use Rattle.std.specs.Ordering.{int_eq}
use Rattle.std.specs.Int.{int_wrapping_add, int_wrapping_sub, int_wrapping_mul, int_wrapping_div_euclid, int_max, w64}
use Rattle.std.specs.List.{flat_map, sum_by, range_with_len}
use Rattle.nim_base.specs.Value.{Grid, cell_of, cells_of, empty_grid}

-- a parameter by its place
abbrev pub param_at : List ℤ → ℕ → ℤ
param_at params place = slice_index_or params place (pos 0)

-- a value that is read, by its place
abbrev pub read_of : List Grid → ℕ → Grid
read_of reads place = slice_index_or reads place empty_grid

-- the values that a task reads, by their indices
abbrev pub read_values : List Grid → List ℕ → List Grid
read_values values indices = map (λ index. slice_index_or values index empty_grid) indices

-- the sum of two cells
abbrev pub plus : ℤ → ℤ → ℤ
plus first second = int_wrapping_add w64 first second

-- the sum of cells
abbrev pub sum_of_cells : List ℤ → ℤ
sum_of_cells cells = fold plus (pos 0) cells

-- each cell changed
abbrev pub each_cell : (ℤ → ℤ) → Grid → Grid
each_cell change grid = record grid { rows = map (map change) grid.rows }

-- addc: each cell plus the number
abbrev pub addc_of : ℤ → Grid → Grid
addc_of number grid = each_cell (λ cell. int_wrapping_add w64 cell number) grid

-- mulc: each cell times the number
abbrev pub mulc_of : ℤ → Grid → Grid
mulc_of number grid = each_cell (λ cell. int_wrapping_mul w64 cell number) grid

-- a row of a value, empty where there is none
abbrev pub grid_row : Grid → ℕ → List ℤ
grid_row grid row = slice_index_or grid.rows row []

-- the cell of a row, 0 where there is none
abbrev pub cell_at : List ℤ → ℕ → ℤ
cell_at row column = slice_index_or row column (pos 0)

-- the row of a width that has a given cell in each column
abbrev pub row_by : ℕ → (ℕ → ℤ) → List ℤ
row_by width cell = map cell (range_with_len 0 width)

-- the value of a height and a width that has a given cell in each row and column
abbrev pub grid_by : ℕ → ℕ → (ℕ → ℕ → ℤ) → Grid
grid_by height width cell =
    record { width = width; rows = map (λ row. row_by width (cell row)) (range_with_len 0 height) }

-- one value from two, by the cells of the same place; rows and width are the greater of the two
abbrev pub pairwise : (ℤ → ℤ → ℤ) → Grid → Grid → Grid
pairwise pair first second =
    grid_by (max (length first.rows) (length second.rows)) (max first.width second.width)
    (λ row column. pair (cell_of first row column) (cell_of second row column))

-- add: the sums of the cells
abbrev pub add_of : Grid → Grid → Grid
add_of first second = pairwise (int_wrapping_add w64) first second

-- sub: the first minus the second
abbrev pub sub_of : Grid → Grid → Grid
sub_of first second = pairwise (int_wrapping_sub w64) first second

-- max: the greater cell
abbrev pub max_of : Grid → Grid → Grid
max_of first second = pairwise int_max first second

-- the greatest of some numbers, 0 where there are none
abbrev pub greatest : List ℕ → ℕ
greatest numbers = fold max 0 numbers

-- the greatest number of rows, and the greatest width
abbrev pub height_of : List Grid → ℕ
height_of reads = greatest (map (λ grid. length grid.rows) reads)

-- the greatest width of these values, 0 where there are none
abbrev pub width_of : List Grid → ℕ
width_of reads = greatest (map (λ grid. grid.width) reads)

-- sum: the sums of the cells of the same place; rows and width are the greatest of all
abbrev pub sum_of : List Grid → Grid
sum_of reads =
    grid_by (height_of reads) (width_of reads) (λ row column. sum_of_cells
    (map (λ grid. cell_of grid row column) reads))

-- a value of one row of one cell
abbrev pub single : ℤ → Grid
single cell = record { width = 1; rows = (cell ∷ []) ∷ [] }

-- total: the sum of all cells of all reads
abbrev pub total_of : List Grid → Grid
total_of reads = single (sum_of_cells (flat_map (λ grid. cells_of grid.rows) reads))

-- count: the number of rows of all reads
abbrev pub count_of : List Grid → Grid
count_of reads = single (pos (sum_by (λ grid. length grid.rows) reads))

-- a quotient that leaves no negative remainder, 0 where the divisor is 0
abbrev pub quotient : ℤ → ℤ → ℤ
quotient dividend divisor = if int_eq divisor (pos 0) then pos 0 else int_wrapping_div_euclid w64 dividend divisor

-- the row above: over the first row lies the last row of another value
abbrev pub row_above : Grid → Grid → ℕ → List ℤ
row_above above middle row = if row == 0 then grid_row above (length above.rows - 1) else grid_row middle (row - 1)

-- the row below: under the last row lies the first row of another value
abbrev pub row_below : Grid → Grid → ℕ → List ℤ
row_below middle below row = if row + 1 == length middle.rows then grid_row below 0 else grid_row middle (row + 1)

-- the cell to the left of a column, 0 before the first
abbrev pub left_of : List ℤ → ℕ → ℤ
left_of row column = if column == 0 then pos 0 else cell_at row (column - 1)

-- a factor times the cell of a column, and its four neighbours, divided
abbrev pub stencil_cell : ℤ → ℤ → List ℤ → List ℤ → List ℤ → ℕ → ℤ
stencil_cell factor divisor up row down column =
    let here = int_wrapping_mul w64 factor (cell_at row column) in
    quotient (plus (plus (plus (plus here (cell_at up column)) (cell_at down column)) (left_of row column))
    (cell_at row (column + 1))) divisor

-- stencil: in the shape of the middle value
abbrev pub stencil_of : ℤ → ℤ → Grid → Grid → Grid → Grid
stencil_of factor divisor above middle below =
    grid_by (length middle.rows) middle.width
    (λ row. stencil_cell factor divisor (row_above above middle row) (grid_row middle row) (row_below middle below row))

-- the cell of a row at a column that may be any number, 0 where there is none
abbrev pub at_column : ℤ → List ℤ → ℤ
at_column (pos column) row = slice_index_or row column (pos 0)
at_column (negsuc before) row = pos 0

-- a value with the rows that pass a test, in order
abbrev pub kept : (List ℤ → Bool) → Grid → Grid
kept test grid = record grid { rows = filter test grid.rows }

-- keep: the rows whose cell at the column is at least low and at most high
abbrev pub keep_of : ℤ → ℤ → ℤ → Grid → Grid
keep_of column low high grid =
    kept (λ row. int_le low (at_column column row) && int_le (at_column column row) high) grid

-- the first result of split: the rows whose cell at the column is less than the pivot
abbrev pub below_of : ℤ → ℤ → Grid → Grid
below_of column pivot grid = kept (λ row. int_lt (at_column column row) pivot) grid

-- the second result of split: the other rows
abbrev pub split_rest : ℤ → ℤ → Grid → Grid
split_rest column pivot grid = kept (λ row. not (int_lt (at_column column row) pivot)) grid

-- a number put among ascending ones, once
abbrev pub with_number : ℤ → List ℤ → List ℤ
with_number number [] = number ∷ []
with_number number (least ∷ more) =
    if int_lt number least then number ∷ (least ∷ more)
    else (if int_lt least number then least ∷ with_number number more else least ∷ more)

-- the different numbers of a list, ascending
abbrev pub different : List ℤ → List ℤ
different numbers = fold (λ so_far number. with_number number so_far) [] numbers

-- the sum of the cells at one column over the rows that have this number at another
abbrev pub sum_at : ℤ → ℤ → List (List ℤ) → ℤ → ℤ
sum_at column summed rows number =
    sum_of_cells (map (at_column summed) (filter (λ row. int_eq number (at_column column row)) rows))

-- rows of two cells: each different number of the column, ascending, and the sum of another over its rows
abbrev pub grouped : ℤ → ℤ → List (List ℤ) → Grid
grouped column summed rows =
    record {
      width = 2;
      rows = map (λ number. number ∷ (sum_at column summed rows number ∷ []))
          (different (map (at_column column) rows));
    }

-- group
abbrev pub group_of : ℤ → ℤ → Grid → Grid
group_of column summed grid = grouped column summed grid.rows

-- merge: group by the first cell, and sum the second, over the rows of all reads
abbrev pub merge_of : List Grid → Grid
merge_of reads = grouped (pos 0) (pos 1) (flat_map (λ grid. grid.rows) reads)
