-- The sum of some values, seen by its cells.
use Rattle.std.specs.Prelude.{◌≡◌, ℕ, List, length, map}
use Rattle.nim_base.specs.Value.{Grid, IsGrid, cell_of}
use Rattle.nim_base.specs.Functions.{height_of, sum_of_cells, width_of}

-- in each place the sum of the cells, also where there is none; as tall and as wide as the greatest
pub record IsSumOf (reads : List Grid) (sums : Grid) : Type 0 where
  pub height : length sums.rows ≡ height_of reads
  pub width : sums.width ≡ width_of reads
  pub cells : (row column : ℕ) → cell_of sums row column ≡ sum_of_cells (map (λ grid. cell_of grid row column) reads)
  pub shaped : IsGrid sums
