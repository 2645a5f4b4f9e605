-- The rows among the first ones that pass a test.
use Rattle.std.proofs.Common.{◌≡◌, ℕ, ◌<◌, ◌≤◌, Bool, ℤ, List, length, take, filter, ap, arith}
use Rattle.std.proofs.lemmas.List.{length-take, take_all}
use Rattle.std.proofs.lemmas.List.Sums.{length-filter, count_by-le-length}
use Rattle.nim_base.specs.Value.{Grid}
use Rattle.nim_base.specs.Functions.{kept}

-- the first rows of a value that pass
abbrev pub kept_to : (List ℤ → Bool) → Grid → ℕ → Grid
kept_to test grid n = record grid { rows = filter test (take n grid.rows) }

-- all rows that pass
pub kept_all : (test : List ℤ → Bool) (grid : Grid) (n : ℕ) → length grid.rows ≤ n → kept_to test grid n ≡ kept test grid
kept_all test grid n all = ap (λ (rows : List (List ℤ)). record grid { rows = filter test rows }) (take_all n grid.rows all)

-- they are at most as many
pub kept_few : (test : List ℤ → Bool) (grid : Grid) (n : ℕ) → length (kept_to test grid n).rows ≤ n
kept_few test grid n = omega (arith, length-filter test (take n grid.rows), count_by-le-length test (take n grid.rows), length-take n grid.rows)

-- they leave room for one more
pub kept_room : (test : List ℤ → Bool) (grid : Grid) (n most : ℕ) (rows : Grid) → n < most → rows ≡ kept_to test grid n → length rows.rows < most
kept_room test grid n most rows lt is = omega (arith, kept_few test grid n, ap (λ (g : Grid). length g.rows) is)
