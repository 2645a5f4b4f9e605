-- A value as every layer sees it: its width and its rows. A cell that isn't there is 0.
use Rattle.std.specs.Prelude.{◌≡◌, ℕ, ◌-◌, ◌*◌, ◌^◌, ◌<◌, ◌≤◌, zero, suc, ℤ, pos, List, [], ◌∷◌, ◌++◌, length, take, drop, map, replicate, slice_index_or, All}
use Rattle.std.specs.Int.{int_wrapping_add, w64}
use Rattle.std.specs.List.{flat_map}
use Rattle.nim_base.specs.declared.number.Shape.{Shape}

-- how many cells each row has, and the rows from the first to the last
pub record Grid : Type 0 where
  pub width : ℕ
  pub rows : List (List ℤ)

-- the width is at least 1, each row has that many cells, and the rows can be counted in 32 bits
pub record IsGrid (grid : Grid) : Type 0 where
  pub wide : 1 ≤ grid.width
  pub even : All (λ row. length row ≡ grid.width) grid.rows
  pub few : length grid.rows < 2 ^ 32

-- what a slot without a value reads as
abbrev pub empty_grid : Grid
empty_grid = record { width = 1; rows = [] }

-- the cell of a row and a column, 0 where there is none
abbrev pub cell_of : Grid → ℕ → ℕ → ℤ
cell_of grid row column = slice_index_or (slice_index_or grid.rows row []) column (pos 0)

-- cells one after another, row by row
abbrev pub cells_of : List (List ℤ) → List ℤ
cells_of rows = flat_map (λ row. row) rows

-- the first so many rows of a width that cells one after another make
abbrev pub rows_of : ℕ → ℕ → List ℤ → List (List ℤ)
rows_of zero width cells = []
rows_of (suc n) width cells = take width cells ∷ rows_of n width (drop width cells)

-- as many rows as the shape has, each cell the same
abbrev pub filled : Shape → ℤ → Grid
filled shape number = record { width = shape.width; rows = replicate shape.rows (replicate shape.width number) }

-- a row cut or padded with 0
abbrev pub fit_row : ℕ → List ℤ → List ℤ
fit_row width row = take width row ++ replicate (width - length row) (pos 0)

-- at most the shape's rows, each cut or padded with 0 to the shape's width
abbrev pub fitted : Grid → Shape → Grid
fitted grid shape = record { width = shape.width; rows = map (fit_row shape.width) (take shape.rows grid.rows) }

-- so many numbers, each 1 more than the one before; a sum wraps
abbrev pub counting_up : ℕ → ℤ → List ℤ
counting_up zero first = []
counting_up (suc n) first = first ∷ counting_up n (int_wrapping_add w64 first (pos 1))

-- as many rows as the shape has, whose cells count up from the first, row by row
abbrev pub iota_of : Shape → ℤ → Grid
iota_of shape first =
    record { width = shape.width; rows = rows_of shape.rows shape.width (counting_up (shape.rows * shape.width) first) }
