-- Sums that wrap, and greatest numbers, are the same in any order.
use Rattle.std.proofs.Common.{◌≡◌, ℕ, ◌+◌, ◌%◌, ◌≤◌, ℤ, List, [], ◌∷◌, length, map, fold, sum_by, max, refl, sym, ◌∙◌, ap, ap₂, arith, le_refl, le_trans, le_antisymm, zero-add, All}
use Rattle.std.proofs.Math.Path.{fun_ext}
use mir.Val.{of_z, to_z}
use Rattle.std.specs.Int.{w64}
use Rattle.std.specs.List.{flat_map}
use Rattle.std.specs.List.Sorted.{IsPermutation}
use Rattle.std.proofs.Math.Nat.{le-max_left, le-max_right, max-le, mod-add-mod}
use Rattle.std.proofs.lemmas.List.Elements.{All-cons, All-head, All-nil, All-tail}
use Rattle.std.proofs.lemmas.List.Sorted.{All-permutation, IsPermutation-map, IsPermutation-sym, sum_by-IsPermutation}
use Rattle.std.proofs.lemmas.List.Sums.{sum_by-append, sum_by-cons}
use Rattle.nim_base.specs.Value.{Grid, cell_of, cells_of}
use Rattle.nim_base.specs.Functions.{greatest, grid_by, height_of, plus, single, sum_of_cells, width_of}
use Rattle.nim_funcs.specs.Laws.{SumInAnyOrder, TotalInAnyOrder}
use Rattle.nim_funcs.proofs.Wraps.{onto}

-- the bits of cells, summed without wrapping
abbrev pub bits : List ℤ → ℕ
bits cells = sum_by (of_z w64) cells

sum_from : (n : ℕ) (cells : List ℤ) → fold plus (to_z w64 (n % 18446744073709551616)) cells ≡ to_z w64 ((n + bits cells) % 18446744073709551616)
sum_from n [] = ap (λ k. to_z w64 (k % 18446744073709551616)) (omega arith)
sum_from n (cell ∷ cells) =
    ap (λ start. fold plus start cells) (sym (onto n cell) ∙ ap (to_z w64) (mod-add-mod n 18446744073709551616 (of_z w64 cell)))
    ∙ sum_from (n + of_z w64 cell) cells
    ∙ ap (λ k. to_z w64 (k % 18446744073709551616)) (omega (arith, sum_by-cons (of_z w64) cell cells))

pub sum_is : (cells : List ℤ) → sum_of_cells cells ≡ to_z w64 (bits cells % 18446744073709551616)
sum_is cells = sum_from 0 cells ∙ ap (λ k. to_z w64 (k % 18446744073709551616)) (zero-add (bits cells))

-- cells whose bits sum to the same
same_bits : (cells others : List ℤ) → bits others ≡ bits cells → sum_of_cells others ≡ sum_of_cells cells
same_bits cells others same = sum_is others ∙ ap (λ k. to_z w64 (k % 18446744073709551616)) same ∙ sym (sum_is cells)

sum_by-flat_map : {X Y : Type 0} (f : Y → ℕ) (g : X → List Y) (xs : List X) → sum_by f (flat_map g xs) ≡ sum_by (λ x. sum_by f (g x)) xs
sum_by-flat_map f g [] = refl
sum_by-flat_map f g (x ∷ xs) =
    sum_by-append f (g x) (flat_map g xs)
    ∙ ap (λ n. sum_by f (g x) + n) (sum_by-flat_map f g xs)
    ∙ sym (sum_by-cons (λ y. sum_by f (g y)) x xs)

pub total_any_order : (reads others : List Grid) → TotalInAnyOrder reads others
total_any_order reads others same =
    let cells = λ (grid : Grid). cells_of grid.rows in
    ap single (same_bits (flat_map cells reads) (flat_map cells others)
    (sum_by-flat_map (of_z w64) cells others
    ∙ sum_by-IsPermutation (λ grid. bits (cells grid)) reads others same
    ∙ sym (sum_by-flat_map (of_z w64) cells reads)))

from_start : (start : ℕ) (numbers : List ℕ) → start ≤ fold max start numbers
from_start start [] = le_refl start
from_start start (number ∷ numbers) = le_trans (le-max_left start number) (from_start (max start number) numbers)

all_below : (start : ℕ) (numbers : List ℕ) → All (λ n. n ≤ fold max start numbers) numbers
all_below start [] = All-nil (λ n. n ≤ start)
all_below start (number ∷ numbers) =
    All-cons (λ n. n ≤ fold max (max start number) numbers) number numbers
    (le_trans (le-max_right start number) (from_start (max start number) numbers)) (all_below (max start number) numbers)

least_bound : (start most : ℕ) (numbers : List ℕ) → start ≤ most → All (λ n. n ≤ most) numbers → fold max start numbers ≤ most
least_bound start most [] le all = le
least_bound start most (number ∷ numbers) le all =
    least_bound (max start number) most numbers (max-le le (All-head (λ n. n ≤ most) number numbers all)) (All-tail (λ n. n ≤ most) number numbers all)

not_greater : (numbers others : List ℕ) → IsPermutation numbers others → greatest others ≤ greatest numbers
not_greater numbers others same =
    least_bound 0 (greatest numbers) others (omega arith) (All-permutation (λ n. n ≤ greatest numbers) numbers others same (all_below 0 numbers))

greatest_same : (numbers others : List ℕ) → IsPermutation numbers others → greatest others ≡ greatest numbers
greatest_same numbers others same = le_antisymm (not_greater numbers others same) (not_greater others numbers (IsPermutation-sym numbers others same))

pub sum_any_order : (reads others : List Grid) → SumInAnyOrder reads others
sum_any_order reads others same =
    let height = λ (grid : Grid). length grid.rows in
    let width = λ (grid : Grid). grid.width in
    let cell = λ (row column : ℕ) (grid : Grid). cell_of grid row column in
    ap₂ (λ h w. grid_by h w (λ row column. sum_of_cells (map (cell row column) others)))
    (greatest_same (map height reads) (map height others) (IsPermutation-map height reads others same))
    (greatest_same (map width reads) (map width others) (IsPermutation-map width reads others same))
    ∙ ap (grid_by (height_of reads) (width_of reads)) (fun_ext (λ row. fun_ext (λ column.
    same_bits (map (cell row column) reads) (map (cell row column) others)
    (sum_by-IsPermutation (of_z w64) (map (cell row column) reads) (map (cell row column) others) (IsPermutation-map (cell row column) reads others same)))))
