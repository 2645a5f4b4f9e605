-- What holds of the functions, whatever the values: no row is lost by split or keep, add is a sum of two, a sum is the
-- same in any order, group loses no number and no summand, and merge joins groups.
use Rattle.std.specs.Prelude.{◌≡◌, ◌<◌, ◌^◌, Bool, true, false, not, ◌&&◌, ◌↔◌, IsTrue, ℤ, pos, int_lt, int_le, List, [], ◌∷◌, length, map, All}
use Rattle.std.specs.List.{Contains, flat_map}
use Rattle.std.specs.List.Sorted.{IsPermutation, IsStrictlySortedBy}
use Rattle.std.specs.Ordering.{int_cmp}
use Rattle.nim_base.specs.Value.{Grid}
use Rattle.nim_base.specs.Functions.{add_of, at_column, below_of, count_of, group_of, grouped, keep_of, kept, merge_of, split_rest, sum_of, sum_of_cells, total_of}

-- the elements of two lists in turn: where the turn is true the next of the first list, else the next of the second
abbrev pub in_turn : {X : Type 0} → List Bool → List X → List X → List X
in_turn (true ∷ turns) (next ∷ firsts) seconds = next ∷ in_turn turns firsts seconds
in_turn (false ∷ turns) firsts (next ∷ seconds) = next ∷ in_turn turns firsts seconds
in_turn _ _ _ = []

-- The first result of split has only rows below the pivot, the second only rows from the pivot on, and the rows of
-- the two, taken in turn as the rows come, are all the rows in their order.
pub record SplitsRows (column pivot : ℤ) (grid : Grid) : Type 0 where
  pub below : All (λ row. IsTrue (int_lt (at_column column row) pivot)) (below_of column pivot grid).rows
  pub rest : All (λ row. IsTrue (int_le pivot (at_column column row))) (split_rest column pivot grid).rows
  pub rows : in_turn (map (λ row. int_lt (at_column column row) pivot) grid.rows) (below_of column pivot grid).rows
      (split_rest column pivot grid).rows ≡ grid.rows

-- the rows that keep leaves out, in order
abbrev pub left_out : ℤ → ℤ → ℤ → Grid → Grid
left_out column low high grid =
    kept (λ row. not (int_le low (at_column column row) && int_le (at_column column row) high)) grid

-- The count of what keep keeps, added to the count of what it leaves out, is the count of all rows.
abbrev pub KeepCounts : ℤ → ℤ → ℤ → Grid → Type 0
KeepCounts column low high grid =
    length grid.rows < 2 ^ 63
    → add_of (count_of (keep_of column low high grid ∷ [])) (count_of (left_out column low high grid ∷ []))
    ≡ count_of (grid ∷ [])

-- Add is the sum of its two reads.
abbrev pub AddIsSum : Grid → Grid → Type 0
AddIsSum first second = add_of first second ≡ sum_of (first ∷ second ∷ [])

-- Total gives the same for the same reads in any order.
abbrev pub TotalInAnyOrder : List Grid → List Grid → Type 0
TotalInAnyOrder reads others = IsPermutation reads others → total_of others ≡ total_of reads

-- Sum gives the same for the same reads in any order.
abbrev pub SumInAnyOrder : List Grid → List Grid → Type 0
SumInAnyOrder reads others = IsPermutation reads others → sum_of others ≡ sum_of reads

-- the first cells of grouped rows, and the second
abbrev pub first_cells : Grid → List ℤ
first_cells groups = map (at_column (pos 0)) groups.rows

-- the second cells of grouped rows, each the sum over the rows of its group
abbrev pub sums_of : Grid → List ℤ
sums_of groups = map (at_column (pos 1)) groups.rows

-- The numbers of a group ascend and are just those of its column, and its sums add up to the sum over all rows.
pub record GathersRows (column summed : ℤ) (grid : Grid) : Type 0 where
  pub ascend : IsStrictlySortedBy int_cmp (first_cells (group_of column summed grid))
  pub numbers : (number : ℤ) → Contains (first_cells (group_of column summed grid)) number ↔ Contains
      (map (at_column column) grid.rows) number
  pub sums : sum_of_cells (sums_of (group_of column summed grid)) ≡ sum_of_cells (map (at_column summed) grid.rows)

-- Merge leaves one grouped value as it is.
abbrev pub MergeKeepsGroups : ℤ → ℤ → Grid → Type 0
MergeKeepsGroups column summed grid = merge_of (group_of column summed grid ∷ []) ≡ group_of column summed grid

-- Merge of the groups of some values is the group of all their rows.
abbrev pub MergeJoinsGroups : ℤ → ℤ → List Grid → Type 0
MergeJoinsGroups column summed grids =
    merge_of (map (group_of column summed) grids) ≡ grouped column summed (flat_map (λ grid. grid.rows) grids)
