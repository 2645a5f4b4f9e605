-- Two filters by a test and its opposite share out all the elements.
use Rattle.std.proofs.Common.{◌≡◌, ℕ, ◌+◌, ◌^◌, ◌<◌, Bool, true, false, not, ◌&&◌, cond, ℤ, pos, negsuc, int_lt, int_le, List, [], ◌∷◌, length, map, filter, refl, ◌∙◌, ap, arith, mod-eq_of_lt, ◌%◌}
use Rattle.std.specs.Int.{w64}
use mir.Val.{to_z}
use Rattle.std.proofs.lemmas.Int.{to_z-of_z}
use Rattle.std.proofs.lemmas.Bool.{le-leb}
use Rattle.std.proofs.lemmas.Float.{T_from_true}
use Rattle.std.proofs.lemmas.List.Elements.{All-weaker, filter_passes}
use Rattle.std.proofs.Math.Facts.{ltb_no}
use Rattle.std.proofs.lemmas.List.Filters.{length-filter_both}
use Rattle.nim_base.specs.Value.{Grid}
use Rattle.nim_base.specs.Functions.{at_column, add_of, keep_of, single}
use Rattle.nim_funcs.specs.Laws.{in_turn, SplitsRows, KeepCounts, left_out}

in_turn_more : {X : Type 0} (passes : Bool) (x : X) (turns : List Bool) (firsts seconds : List X)
    → in_turn (passes ∷ turns) (cond passes (x ∷ firsts) firsts) (cond (not passes) (x ∷ seconds) seconds) ≡ x ∷ in_turn turns firsts seconds
in_turn_more true x turns firsts seconds = refl
in_turn_more false x turns firsts seconds = refl

-- in turn by the test, they are all elements
in_turn-filters : {X : Type 0} (test : X → Bool) (xs : List X) → in_turn (map test xs) (filter test xs) (filter (λ x. not (test x)) xs) ≡ xs
in_turn-filters test [] = refl
in_turn-filters test (x ∷ xs) =
    in_turn_more (test x) x (map test xs) (filter test xs) (filter (λ y. not (test y)) xs)
    ∙ ap (λ more. x ∷ more) (in_turn-filters test xs)

not_less : (a b : ℤ) → not (int_lt a b) ≡ true → int_le b a ≡ true
not_less (pos a) (pos b) more = le-leb b a (ltb_no (T_from_true _ more))
not_less (pos a) (negsuc b) more = refl
not_less (negsuc a) (pos b) more = more
not_less (negsuc a) (negsuc b) more = le-leb a b (ltb_no (T_from_true _ more))

-- split loses no row
pub splits_rows : (column pivot : ℤ) (grid : Grid) → SplitsRows column pivot grid
splits_rows column pivot grid =
    let is_below = λ (row : List ℤ). int_lt (at_column column row) pivot in
    let is_rest = λ (row : List ℤ). not (is_below row) in
    record {
      below = filter_passes is_below grid.rows;
      rest = All-weaker (λ row. is_rest row ≡ true) (λ row. int_le pivot (at_column column row) ≡ true) (λ row. not_less (at_column column row) pivot)
          (filter is_rest grid.rows) (filter_passes is_rest grid.rows);
      rows = in_turn-filters is_below grid.rows;
    }

-- two counts whose sum fits
counted : (some others all : ℕ) → some + others ≡ all → all < 2 ^ 63 → add_of (single (pos some)) (single (pos others)) ≡ single (pos all)
counted some others all sum few =
    ap (λ n. single (to_z w64 (n % 18446744073709551616))) sum
    ∙ ap (λ n. single (to_z w64 n)) (mod-eq_of_lt (omega arith))
    ∙ ap single (to_z-of_z w64 (pos all) (record { sfits = few }))

-- keep and what it leaves out count all rows
pub keep_counts : (column low high : ℤ) (grid : Grid) → KeepCounts column low high grid
keep_counts column low high grid few =
    let is_within = λ (row : List ℤ). int_le low (at_column column row) && int_le (at_column column row) high in
    let all : length (keep_of column low high grid).rows + length (left_out column low high grid).rows ≡ length grid.rows =
    length-filter_both is_within (λ row. not (is_within row)) (λ row. refl) grid.rows in
    counted (0 + length (keep_of column low high grid).rows) (0 + length (left_out column low high grid).rows) (0 + length grid.rows) (omega arith)
    (omega arith)
