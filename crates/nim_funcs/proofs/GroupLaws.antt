-- Group loses no number and no summand, and merge joins groups.
use Rattle.std.proofs.Common.{◌≡◌, ℕ, ◌+◌, ◌%◌, Bool, true, false, cond, ◌||◌, ℤ, pos, List, [], ◌∷◌, ◌++◌, map, filter, Option, Some, None, refl, sym, subst, true≢false, ◌∙◌, ap, ap₂, arith, zero-add}
use mir.Val.{of_z, to_z}
use Rattle.std.specs.BTreeMap.{is_at}
use Rattle.std.specs.Cmp.{int_cmp_total, int_eq_equiv}
use Rattle.std.specs.Int.{w64}
use Rattle.std.specs.List.{flat_map}
use Rattle.std.specs.List.Sorted.{IsStrictlySortedBy}
use Rattle.std.specs.Map.{keys_of, lookup, values_of}
use Rattle.std.specs.Option.{option_map, unwrap_or}
use Rattle.std.specs.Ordering.{int_cmp, int_eq}
use Rattle.std.proofs.Math.Path.{fun_ext}
use Rattle.std.proofs.lemmas.Int.{of_z-to_z}
use Rattle.std.proofs.lemmas.List.{append-nil, map-append}
use Rattle.std.proofs.lemmas.List.Elements.{filter-append}
use Rattle.std.proofs.lemmas.List.Folds.{list_any-append}
use Rattle.std.proofs.lemmas.List.Sums.{sum_by-append, sum_by-cons}
use Rattle.std.proofs.lemmas.Map.Entries.{sum_by-insert_entry}
use Rattle.std.proofs.lemmas.Map.Keys.{sorted_head, sorted_tail}
use Rattle.std.proofs.lemmas.Map.Views.{Contains-from_any, list_any-from_Contains}
use Rattle.nim_base.specs.Value.{Grid}
use Rattle.nim_base.specs.Functions.{at_column, different, group_of, grouped, plus, sum_at, sum_of_cells}
use Rattle.nim_funcs.specs.Groups.{sum_under, sums_grid, with_rows, with_summand}
use Rattle.nim_funcs.specs.Laws.{GathersRows, MergeJoinsGroups, MergeKeepsGroups, first_cells, sums_of}
use Rattle.nim_funcs.proofs.AnyOrder.{bits, sum_is}
use Rattle.nim_funcs.proofs.Ascending.{among, among-different, ascends-different, below_all, same_ascending}
use Rattle.nim_funcs.proofs.Grouping.{ascends-with_number, groups, keys-insert, same_number}

-- the first cells of groups
firsts : (sum : ℤ → ℤ) (numbers : List ℤ) → map (at_column (pos 0)) (map (λ n. n ∷ (sum n ∷ [])) numbers) ≡ numbers
firsts sum [] = refl
firsts sum (number ∷ numbers) = ap (λ (ns : List ℤ). number ∷ ns) (firsts sum numbers)

numbers-group : (column summed : ℤ) (rows : List (List ℤ)) → first_cells (grouped column summed rows) ≡ different (map (at_column column) rows)
numbers-group column summed rows = firsts (sum_at column summed rows) (different (map (at_column column) rows))

none_by : (column number : ℤ) (row : List ℤ) (rows : List (List ℤ)) (here : Bool) → (here || among number (map (at_column column) rows)) ≡ false
    → (among number (map (at_column column) rows) ≡ false → filter (λ r. int_eq number (at_column column r)) rows ≡ [])
    → cond here (row ∷ filter (λ r. int_eq number (at_column column r)) rows) (filter (λ r. int_eq number (at_column column r)) rows) ≡ []
none_by column number row rows true absent none = absurd (true≢false absent)
none_by column number row rows false absent none = none absent

-- no row has a number that is not among the column's
none_pass : (column number : ℤ) (rows : List (List ℤ)) → among number (map (at_column column) rows) ≡ false
    → filter (λ row. int_eq number (at_column column row)) rows ≡ []
none_pass column number [] absent = refl
none_pass column number (row ∷ rows) absent = none_by column number row rows (int_eq number (at_column column row)) absent (none_pass column number rows)

one_by : (sum : ℤ → ℤ) (number least : ℤ) (numbers : List ℤ) (here : Bool) (some : List (List ℤ)) → int_eq number least ≡ here → among least numbers ≡ false
    → some ≡ cond (among number numbers) ((number ∷ (sum number ∷ [])) ∷ []) []
    → cond here ((least ∷ (sum least ∷ [])) ∷ some) some ≡ cond (here || among number numbers) ((number ∷ (sum number ∷ [])) ∷ []) []
one_by sum number least numbers true some is absent found =
    let same : number ≡ least = same_number number least is in
    let none : among number numbers ≡ false = ap (λ n. among n numbers) same ∙ absent in
    ap₂ (λ (n : ℤ) (rs : List (List ℤ)). (n ∷ (sum n ∷ [])) ∷ rs) (sym same) (found ∙ ap (λ b. cond b ((number ∷ (sum number ∷ [])) ∷ []) []) none)
one_by sum number least numbers false some is absent found = found

-- the rows of a number in a group: its own, where it has one
one_row : (sum : ℤ → ℤ) (number : ℤ) (numbers : List ℤ) → IsStrictlySortedBy int_cmp numbers
    → filter (λ row. int_eq number (at_column (pos 0) row)) (map (λ n. n ∷ (sum n ∷ [])) numbers)
    ≡ cond (among number numbers) ((number ∷ (sum number ∷ [])) ∷ []) []
one_row sum number [] ascends = refl
one_row sum number (least ∷ numbers) ascends =
    one_by sum number least numbers (int_eq number least)
    (filter (λ (row : List ℤ). int_eq number (at_column (pos 0) row)) (map (λ n. n ∷ (sum n ∷ [])) numbers)) refl
    (below_all least numbers (sorted_head int_cmp least numbers ascends))
    (one_row sum number numbers (sorted_tail int_cmp least numbers ascends))

-- the bits of the summands of a number
abbrev bits_at : ℤ → ℤ → List (List ℤ) → ℤ → ℕ
bits_at column summed rows number = bits (map (at_column summed) (filter (λ row. int_eq number (at_column column row)) rows))

bits_at-append : (column summed number : ℤ) (xs ys : List (List ℤ))
    → bits_at column summed (xs ++ ys) number ≡ bits_at column summed xs number + bits_at column summed ys number
bits_at-append column summed number xs ys =
    let test = λ (row : List ℤ). int_eq number (at_column column row) in
    ap (λ (rows : List (List ℤ)). bits (map (at_column summed) rows)) (filter-append test xs ys)
    ∙ ap bits (map-append (at_column summed) (filter test xs) (filter test ys))
    ∙ sum_by-append (of_z w64) (map (at_column summed) (filter test xs)) (map (at_column summed) (filter test ys))

sum_at-bits : (column summed number : ℤ) (rows : List (List ℤ)) → sum_at column summed rows number
    ≡ to_z w64 (bits_at column summed rows number % 18446744073709551616)
sum_at-bits column summed number rows = sum_is (map (at_column summed) (filter (λ row. int_eq number (at_column column row)) rows))

bits_by : (column summed number : ℤ) (rows : List (List ℤ)) (found : Bool) → among number (map (at_column column) rows) ≡ found
    → bits (map (at_column (pos 1)) (cond found ((number ∷ (sum_at column summed rows number ∷ [])) ∷ []) [])) % 18446744073709551616
    ≡ bits_at column summed rows number % 18446744073709551616
bits_by column summed number rows true is =
    let sum = sum_at column summed rows number in
    let whole = bits_at column summed rows number in
    let here : of_z w64 sum ≡ whole % 18446744073709551616 =
    ap (of_z w64) (sum_at-bits column summed number rows) ∙ of_z-to_z w64 (whole % 18446744073709551616) (omega arith) in
    omega (arith, sum_by-cons (of_z w64) sum [], here)
bits_by column summed number rows false is =
    sym (ap (λ (some : List (List ℤ)). bits (map (at_column summed) some) % 18446744073709551616) (none_pass column number rows is))

-- a group has the same sum under a number as its rows
bits_one : (column summed number : ℤ) (rows : List (List ℤ)) (found : Bool) → among number (different (map (at_column column) rows)) ≡ found
    → bits_at (pos 0) (pos 1) (grouped column summed rows).rows number % 18446744073709551616 ≡ bits_at column summed rows number % 18446744073709551616
bits_one column summed number rows found is =
    ap (λ (some : List (List ℤ)). bits (map (at_column (pos 1)) some) % 18446744073709551616)
    (one_row (sum_at column summed rows) number (different (map (at_column column) rows)) (ascends-different (map (at_column column) rows))
    ∙ ap (λ b. cond b ((number ∷ (sum_at column summed rows number ∷ [])) ∷ []) []) is)
    ∙ bits_by column summed number rows found (sym (among-different number (map (at_column column) rows)) ∙ is)

both_mod : (a b c d : ℕ) → a % 18446744073709551616 ≡ c % 18446744073709551616 → b % 18446744073709551616 ≡ d % 18446744073709551616
    → (a + b) % 18446744073709551616 ≡ (c + d) % 18446744073709551616
both_mod a b c d first second = omega (arith, first, second)

-- the rows of the groups of some values
bits_all : (column summed number : ℤ) (grids : List Grid) → bits_at (pos 0) (pos 1) (flat_map (λ grid. grid.rows) (map (group_of column summed) grids)) number %
    18446744073709551616 ≡ bits_at column summed (flat_map (λ grid. grid.rows) grids) number % 18446744073709551616
bits_all column summed number [] = refl
bits_all column summed number (grid ∷ grids) =
    let rows = flat_map (λ (g : Grid). g.rows) in
    ap (λ n. n % 18446744073709551616) (bits_at-append (pos 0) (pos 1) number (group_of column summed grid).rows (rows (map (group_of column summed) grids)))
    ∙ both_mod (bits_at (pos 0) (pos 1) (group_of column summed grid).rows number) (bits_at (pos 0) (pos 1) (rows (map (group_of column summed) grids)) number)
    (bits_at column summed grid.rows number) (bits_at column summed (rows grids) number)
    (bits_one column summed number grid.rows (among number (different (map (at_column column) grid.rows))) refl) (bits_all column summed number grids)
    ∙ sym (ap (λ n. n % 18446744073709551616) (bits_at-append column summed number grid.rows (rows grids)))

among_all : (column summed number : ℤ) (grids : List Grid) → among number
    (map (at_column (pos 0)) (flat_map (λ grid. grid.rows) (map (group_of column summed) grids)))
    ≡ among number (map (at_column column) (flat_map (λ grid. grid.rows) grids))
among_all column summed number [] = refl
among_all column summed number (grid ∷ grids) =
    let rows = flat_map (λ (g : Grid). g.rows) in
    let others = rows (map (group_of column summed) grids) in
    ap (among number) (map-append (at_column (pos 0)) (group_of column summed grid).rows others)
    ∙ list_any-append (int_eq number) (map (at_column (pos 0)) (group_of column summed grid).rows) (map (at_column (pos 0)) others)
    ∙ ap₂ (λ a b. a || b) (ap (among number) (numbers-group column summed grid.rows) ∙ among-different number (map (at_column column) grid.rows))
    (among_all column summed number grids)
    ∙ sym (list_any-append (int_eq number) (map (at_column column) grid.rows) (map (at_column column) (rows grids)))
    ∙ sym (ap (among number) (map-append (at_column column) grid.rows (rows grids)))

pub merge_joins : (column summed : ℤ) (grids : List Grid) → MergeJoinsGroups column summed grids
merge_joins column summed grids =
    let rows = flat_map (λ (g : Grid). g.rows) in
    let gathered = rows (map (group_of column summed) grids) in
    let first = map (at_column (pos 0)) gathered in
    let all = map (at_column column) (rows grids) in
    let numbers : different first ≡ different all = same_ascending (different first) (different all) (ascends-different first) (ascends-different all)
    (λ n. among-different n first ∙ among_all column summed n grids ∙ sym (among-different n all)) in
    let sums : (n : ℤ) → sum_at (pos 0) (pos 1) gathered n ≡ sum_at column summed (rows grids) n = λ n.
    sum_at-bits (pos 0) (pos 1) n gathered ∙ ap (to_z w64) (bits_all column summed n grids) ∙ sym (sum_at-bits column summed n (rows grids)) in
    ap₂ (λ (f : ℤ → ℤ) (ns : List ℤ). record { width = 2; rows = map (λ n. n ∷ (f n ∷ [])) ns }) (fun_ext sums) numbers

pub merge_keeps : (column summed : ℤ) (grid : Grid) → MergeKeepsGroups column summed grid
merge_keeps column summed grid = merge_joins column summed (grid ∷ []) ∙ ap (grouped column summed) (append-nil grid.rows)

bits-found : (found : Option ℤ) → unwrap_or (option_map (of_z w64) found) 0 ≡ of_z w64 (unwrap_or found (pos 0))
bits-found None = refl
bits-found (Some sum) = refl

-- a summand more adds to the sum of all
total_one : (sums : List (ℤ × ℤ)) (key summand : ℤ) → IsStrictlySortedBy int_cmp (keys_of sums)
    → bits (values_of (with_summand sums key summand)) % 18446744073709551616 ≡ (bits (values_of sums) + of_z w64 summand) % 18446744073709551616
total_one sums key summand ascends =
    let found = lookup (is_at (int_cmp key)) sums in
    let value = plus (sum_under sums key) summand in
    let more = sum_by-insert_entry (of_z w64) int_cmp_total sums key value ascends in
    let new : of_z w64 value ≡ (of_z w64 (sum_under sums key) + of_z w64 summand) % 18446744073709551616 =
    of_z-to_z w64 ((of_z w64 (sum_under sums key) + of_z w64 summand) % 18446744073709551616) (omega arith) in
    let old : unwrap_or (option_map (of_z w64) found) 0 ≡ of_z w64 (sum_under sums key) = bits-found found in
    omega (arith, more, new, old)

total_all : (column summed : ℤ) (sums : List (ℤ × ℤ)) (rows : List (List ℤ)) → IsStrictlySortedBy int_cmp (keys_of sums)
    → bits (values_of (with_rows column summed sums rows)) % 18446744073709551616
    ≡ (bits (values_of sums) + bits (map (at_column summed) rows)) % 18446744073709551616
total_all column summed sums [] ascends = omega arith
total_all column summed sums (row ∷ rows) ascends =
    let key = at_column column row in
    let summand = at_column summed row in
    let next = with_summand sums key summand in
    let rising : IsStrictlySortedBy int_cmp (keys_of next) =
    subst (IsStrictlySortedBy int_cmp) (sym (keys-insert sums key (plus (sum_under sums key) summand))) (ascends-with_number key (keys_of sums) ascends) in
    total_all column summed next rows rising
    ∙ both_mod (bits (values_of next)) (bits (map (at_column summed) rows)) (bits (values_of sums) + of_z w64 summand) (bits (map (at_column summed) rows))
    (total_one sums key summand ascends) refl
    ∙ ap (λ n. n % 18446744073709551616) (omega (arith, sum_by-cons (of_z w64) summand (map (at_column summed) rows)))

seconds : (sums : List (ℤ × ℤ)) → map (at_column (pos 1)) (sums_grid sums).rows ≡ values_of sums
seconds [] = refl
seconds (entry ∷ sums) = ap (λ (ns : List ℤ). entry.1 ∷ ns) (seconds sums)

total-group : (column summed : ℤ) (rows : List (List ℤ)) → sum_of_cells (sums_of (grouped column summed rows)) ≡ sum_of_cells (map (at_column summed) rows)
unfolding IsStrictlySortedBy
total-group column summed rows =
    let sums = with_rows column summed [] rows in
    let cells = map (at_column summed) rows in
    ap (λ (grid : Grid). sum_of_cells (sums_of grid)) (sym (groups column summed rows))
    ∙ ap sum_of_cells (seconds sums)
    ∙ sum_is (values_of sums)
    ∙ ap (to_z w64) (total_all column summed [] rows tt ∙ ap (λ n. n % 18446744073709551616) (zero-add (bits cells)))
    ∙ sym (sum_is cells)

pub gathers_rows : (column summed : ℤ) (grid : Grid) → GathersRows column summed grid
gathers_rows column summed grid =
    let cells = map (at_column column) grid.rows in
    let numbers = numbers-group column summed grid.rows in
    record {
      ascend = subst (IsStrictlySortedBy int_cmp) (sym numbers) (ascends-different cells);
      numbers = λ number. (
        λ inside. Contains-from_any same_number number cells
            (sym (among-different number cells) ∙ ap (among number) (sym numbers)
            ∙ list_any-from_Contains int_eq_equiv number (first_cells (group_of column summed grid)) inside),
        λ inside. Contains-from_any same_number number (first_cells (group_of column summed grid))
            (ap (among number) numbers ∙ among-different number cells ∙ list_any-from_Contains int_eq_equiv number cells inside),
      );
      sums = total-group column summed grid.rows;
    }
