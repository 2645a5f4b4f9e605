-- Sums under keys that ascend, as a map's entries.
use Rattle.std.specs.Prelude.{ℤ, pos, List, [], ◌∷◌, map, fold}
use Rattle.std.specs.BTreeMap.{insert_entry, is_at}
use Rattle.std.specs.Map.{lookup}
use Rattle.std.specs.Option.{unwrap_or}
use Rattle.std.specs.Ordering.{int_cmp}
use Rattle.nim_base.specs.Value.{Grid}
use Rattle.nim_base.specs.Functions.{at_column, plus}

-- the sum under a key, 0 where there is none
abbrev pub sum_under : List (ℤ × ℤ) → ℤ → ℤ
sum_under sums key = unwrap_or (lookup (is_at (int_cmp key)) sums) (pos 0)

-- one more summand under a key
abbrev pub with_summand : List (ℤ × ℤ) → ℤ → ℤ → List (ℤ × ℤ)
with_summand sums key summand = insert_entry int_cmp sums key (plus (sum_under sums key) summand)

-- for each row its cell at one column under its cell at another
abbrev pub with_rows : ℤ → ℤ → List (ℤ × ℤ) → List (List ℤ) → List (ℤ × ℤ)
with_rows column summed sums rows =
    fold (λ so_far row. with_summand so_far (at_column column row) (at_column summed row)) sums rows

-- rows of two cells, the key and the sum
abbrev pub sums_grid : List (ℤ × ℤ) → Grid
sums_grid sums = record { width = 2; rows = map (λ entry. entry.0 ∷ (entry.1 ∷ [])) sums }
