-- What group and merge gather: after some rows, the sums under their keys.
use Rattle.std.proofs.Common.{Ordering, Less, Equal, Greater, Some, ◌≡◌, ℕ, ◌+◌, ◌*◌, ◌<◌, Bool, true, false, cond, ℤ, pos, int_lt, List, [], ◌∷◌, ◌++◌, length, take, get_or, map, filter, append_assoc, refl, sym, subst, true≢false, ◌∙◌, ap, ap₂, All}
use Rattle.std.specs.BTreeMap.{insert_entry, is_at}
use Rattle.std.specs.Cmp.{int_cmp_total}
use Rattle.std.specs.List.{AllByRecursion}
use Rattle.std.specs.List.Sorted.{IsStrictlySortedBy}
use Rattle.std.specs.Map.{keys_of, lookup}
use Rattle.std.specs.Option.{unwrap_or}
use Rattle.std.specs.Ordering.{int_cmp, int_eq, is_eq, match_ordering, ordering_reverse}
use Rattle.std.proofs.Math.Path.{fun_ext}
use Rattle.std.proofs.lemmas.Cmp.{tied_itself}
use Rattle.std.proofs.lemmas.List.{append-nil, length-map, map-append}
use Rattle.std.proofs.lemmas.List.Elements.{All-cons, All-nil, filter-append}
use Rattle.std.proofs.lemmas.List.Sums.{fold_more, fold_push}
use Rattle.std.proofs.lemmas.Map.Lookups.{exact_signed}
use Rattle.nim_base.specs.Value.{Grid, cells_of, rows_of}
use Rattle.nim_base.specs.Functions.{at_column, different, grouped, grid_row, plus, sum_at, sum_of_cells, with_number}
use Rattle.nim_funcs.specs.Groups.{sum_under, sums_grid, with_rows, with_summand}
use Rattle.nim_base.proofs.Lists.{is_equal}
use Rattle.nim_funcs.proofs.CellRows.{length-cells_of, rows_of-cells_of}

-- a number put before, at or after the first
with_number_by : (less greater : Bool) (number least : ℤ) (more later : List ℤ)
    → cond less (number ∷ least ∷ more) (cond greater (least ∷ later) (least ∷ more))
    ≡ match_ordering (cond less Less (cond greater Greater Equal)) (number ∷ least ∷ more) (least ∷ more) (least ∷ later)
with_number_by true greater number least more later = refl
with_number_by false true number least more later = refl
with_number_by false false number least more later = refl

pub with_number_is : (number least : ℤ) (more : List ℤ) → with_number number (least ∷ more)
    ≡ match_ordering (int_cmp number least) (number ∷ least ∷ more) (least ∷ more) (least ∷ with_number number more)
with_number_is number least more = with_number_by (int_lt number least) (int_lt least number) number least more (with_number number more)

-- the keys of sums, with one more summand
keys_by : (order : Ordering) (key value : ℤ) (entry : ℤ × ℤ) (entries later : List (ℤ × ℤ)) (numbers : List ℤ) → keys_of later ≡ numbers
    → keys_of (match_ordering order ((key, value) ∷ entry ∷ entries) ((entry.0, value) ∷ entries) (entry ∷ later))
    ≡ match_ordering order (key ∷ entry.0 ∷ keys_of entries) (entry.0 ∷ keys_of entries) (entry.0 ∷ numbers)
keys_by Less key value entry entries later numbers is = refl
keys_by Equal key value entry entries later numbers is = refl
keys_by Greater key value entry entries later numbers is = ap (λ (ns : List ℤ). entry.0 ∷ ns) is

pub keys-insert : (entries : List (ℤ × ℤ)) (key value : ℤ) → keys_of (insert_entry int_cmp entries key value) ≡ with_number key (keys_of entries)
keys-insert [] key value = refl
keys-insert (entry ∷ entries) key value =
    keys_by (int_cmp key entry.0) key value entry entries (insert_entry int_cmp entries key value) (with_number key (keys_of entries))
    (keys-insert entries key value)
    ∙ sym (with_number_is key entry.0 (keys_of entries))

-- what a look-up finds then
again : {X : Type 0} (test : Bool) (new old other : X) → cond test new other ≡ cond test new (cond test old other)
again true new old other = refl
again false new old other = refl

pub int_eq-refl : (number : ℤ) → int_eq number number ≡ true
int_eq-refl number = ap is_eq (tied_itself int_cmp_total number)

pub same_number : (first second : ℤ) → int_eq first second ≡ true → first ≡ second
same_number first second is = exact_signed first second (is_equal (int_cmp first second) is)

-- two tests that don't both pass may come in any order
apart : {X : Type 0} (first second : Bool) (new old other : X) → (first ≡ true → second ≡ true → ⊥)
    → cond second old (cond first new other) ≡ cond first new (cond second old other)
apart true true new old other never = absurd (never refl refl)
apart true false new old other never = refl
apart false second new old other never = refl

greater_apart : (key number other : ℤ) → int_cmp key other ≡ Greater → int_eq number key ≡ true → int_eq number other ≡ true → ⊥
greater_apart key number other is first second =
    let here : number ≡ key = same_number number key first in
    let there : number ≡ other = same_number number other second in
    let equal : int_cmp key other ≡ Equal = ap (int_cmp key) (sym there ∙ here) ∙ tied_itself int_cmp_total key in
    true≢false (ap is_eq (sym equal ∙ is))

found_by : (order : Ordering) (key value number : ℤ) (entry : ℤ × ℤ) (entries later : List (ℤ × ℤ)) → int_cmp key entry.0 ≡ order
    → lookup (is_at (int_cmp number)) later ≡ cond (int_eq number key) (Some value) (lookup (is_at (int_cmp number)) entries)
    → lookup (is_at (int_cmp number)) (match_ordering order ((key, value) ∷ entry ∷ entries) ((entry.0, value) ∷ entries) (entry ∷ later))
    ≡ cond (int_eq number key) (Some value) (lookup (is_at (int_cmp number)) (entry ∷ entries))
found_by Less key value number entry entries later is found = refl
found_by Equal key value number entry entries later is found =
    let same : key ≡ entry.0 = exact_signed key entry.0 is in
    let old = lookup (is_at (int_cmp number)) entries in
    again (int_eq number entry.0) (Some value) (Some entry.1) old
    ∙ ap (λ k. cond (int_eq number k) (Some value) (cond (int_eq number entry.0) (Some entry.1) old)) (sym same)
found_by Greater key value number entry entries later is found =
    ap (λ more. cond (int_eq number entry.0) (Some entry.1) more) found
    ∙ apart (int_eq number key) (int_eq number entry.0) (Some value) (Some entry.1) (lookup (is_at (int_cmp number)) entries)
    (greater_apart key number entry.0 is)

found-insert : (entries : List (ℤ × ℤ)) (key value number : ℤ) → lookup (is_at (int_cmp number)) (insert_entry int_cmp entries key value)
    ≡ cond (int_eq number key) (Some value) (lookup (is_at (int_cmp number)) entries)
found-insert [] key value number = refl
found-insert (entry ∷ entries) key value number =
    found_by (int_cmp key entry.0) key value number entry entries (insert_entry int_cmp entries key value) refl (found-insert entries key value number)

-- the keys ascend
below_by : (order : Ordering) (least number first : ℤ) (numbers later : List ℤ) → int_cmp least number ≡ Less
    → AllByRecursion (λ n. int_cmp least n ≡ Less) (first ∷ numbers) → AllByRecursion (λ n. int_cmp least n ≡ Less) later
    → AllByRecursion (λ n. int_cmp least n ≡ Less) (match_ordering order (number ∷ first ∷ numbers) (first ∷ numbers) (first ∷ later))
below_by Less least number first numbers later is below more = (is, below)
below_by Equal least number first numbers later is below more = below
below_by Greater least number first numbers later is below more = (below.0, more)

below-with_number : (least number : ℤ) (numbers : List ℤ) → int_cmp least number ≡ Less → AllByRecursion (λ n. int_cmp least n ≡ Less) numbers
    → AllByRecursion (λ n. int_cmp least n ≡ Less) (with_number number numbers)
below-with_number least number [] is below = (is, tt)
below-with_number least number (first ∷ numbers) is below =
    subst (AllByRecursion (λ n. int_cmp least n ≡ Less)) (sym (with_number_is number first numbers))
    (below_by (int_cmp number first) least number first numbers (with_number number numbers) is below (below-with_number least number numbers is below.1))

pub below-trans : (number least : ℤ) (numbers : List ℤ) → int_cmp number least ≡ Less → AllByRecursion (λ n. int_cmp least n ≡ Less) numbers
    → AllByRecursion (λ n. int_cmp number n ≡ Less) numbers
below-trans number least [] is below = tt
below-trans number least (first ∷ numbers) is below =
    (int_cmp_total.trans number least first is below.0, below-trans number least numbers is below.1)

ascends_by : (order : Ordering) (number least : ℤ) (numbers later : List ℤ) → int_cmp number least ≡ order → IsStrictlySortedBy int_cmp (least ∷ numbers)
    → IsStrictlySortedBy int_cmp later → (int_cmp least number ≡ Less → AllByRecursion (λ n. int_cmp least n ≡ Less) later)
    → IsStrictlySortedBy int_cmp (match_ordering order (number ∷ least ∷ numbers) (least ∷ numbers) (least ∷ later))
unfolding IsStrictlySortedBy
ascends_by Less number least numbers later is sorted more below = ((is, below-trans number least numbers is sorted.0), sorted)
ascends_by Equal number least numbers later is sorted more below = sorted
ascends_by Greater number least numbers later is sorted more below =
    (below (int_cmp_total.antisymm least number ∙ ap ordering_reverse is), more)

pub ascends-with_number : (number : ℤ) (numbers : List ℤ) → IsStrictlySortedBy int_cmp numbers → IsStrictlySortedBy int_cmp (with_number number numbers)
unfolding IsStrictlySortedBy
ascends-with_number number [] sorted = (tt, tt)
ascends-with_number number (least ∷ numbers) sorted =
    subst (IsStrictlySortedBy int_cmp) (sym (with_number_is number least numbers))
    (ascends_by (int_cmp number least) number least numbers (with_number number numbers) refl sorted (ascends-with_number number numbers sorted.1)
    (λ is. below-with_number least number numbers is sorted.0))

-- the sum of one more row
summed_by : (column summed number : ℤ) (rows : List (List ℤ)) (row : List ℤ) (passes : Bool)
    → sum_of_cells (map (at_column summed) (filter (λ r. int_eq number (at_column column r)) rows ++ cond passes (row ∷ []) []))
    ≡ cond passes (plus (sum_at column summed rows number) (at_column summed row)) (sum_at column summed rows number)
summed_by column summed number rows row true =
    let some = filter (λ (r : List ℤ). int_eq number (at_column column r)) rows in
    ap sum_of_cells (map-append (at_column summed) some (row ∷ [])) ∙ fold_push plus (pos 0) (map (at_column summed) some) (at_column summed row)
summed_by column summed number rows row false =
    let some = filter (λ (r : List ℤ). int_eq number (at_column column r)) rows in
    ap (λ (rs : List (List ℤ)). sum_of_cells (map (at_column summed) rs)) (append-nil some)

summed-more : (column summed number : ℤ) (rows : List (List ℤ)) (row : List ℤ) (passes : Bool) → int_eq number (at_column column row) ≡ passes
    → sum_at column summed (rows ++ row ∷ []) number ≡ cond passes (plus (sum_at column summed rows number) (at_column summed row))
    (sum_at column summed rows number)
summed-more column summed number rows row passes is =
    let test = λ (r : List ℤ). int_eq number (at_column column r) in
    ap (λ (rs : List (List ℤ)). sum_of_cells (map (at_column summed) rs)) (filter-append test rows (row ∷ []))
    ∙ ap (λ b. sum_of_cells (map (at_column summed) (filter test rows ++ cond b (row ∷ []) []))) is
    ∙ summed_by column summed number rows row passes

-- what stands under each key after some rows: the keys are the different numbers of the column, and under each number
-- lies the sum over its rows
pub record Gathers (column summed : ℤ) (rows : List (List ℤ)) (sums : List (ℤ × ℤ)) : Type 0 where
  pub keys : keys_of sums ≡ different (map (at_column column) rows)
  pub under : (number : ℤ) → sum_under sums number ≡ sum_at column summed rows number
  pub ascends : IsStrictlySortedBy int_cmp (keys_of sums)

none_gathered : (column summed : ℤ) → Gathers column summed [] []
unfolding IsStrictlySortedBy
none_gathered column summed = record { keys = refl; under = λ number. refl; ascends = tt }

-- one more row
under_by : (number key : ℤ) (passes : Bool) (sums : List (ℤ × ℤ)) (summand : ℤ) (sum_of : ℤ → ℤ) → int_eq number key ≡ passes
    → ((n : ℤ) → sum_under sums n ≡ sum_of n) → unwrap_or (cond (int_eq number key) (Some (plus (sum_under sums key) summand))
    (lookup (is_at (int_cmp number)) sums)) (pos 0) ≡ cond passes (plus (sum_of number) summand) (sum_of number)
under_by number key true sums summand sum_of is under =
    ap (λ b. unwrap_or (cond b (Some (plus (sum_under sums key) summand)) (lookup (is_at (int_cmp number)) sums)) (pos 0)) is
    ∙ ap (λ k. plus (sum_under sums k) summand) (sym (same_number number key is))
    ∙ ap (λ sum. plus sum summand) (under number)
under_by number key false sums summand sum_of is under =
    ap (λ b. unwrap_or (cond b (Some (plus (sum_under sums key) summand)) (lookup (is_at (int_cmp number)) sums)) (pos 0)) is
    ∙ under number

one_gathered : (column summed : ℤ) (rows : List (List ℤ)) (row : List ℤ) (sums : List (ℤ × ℤ)) → Gathers column summed rows sums
    → Gathers column summed (rows ++ row ∷ []) (with_summand sums (at_column column row) (at_column summed row))
one_gathered column summed rows row sums gathers =
    let key = at_column column row in
    let summand = at_column summed row in
    let value = plus (sum_under sums key) summand in
    let keys = keys-insert sums key value in
    record {
      keys = keys
          ∙ ap (with_number key) gathers.keys
          ∙ sym (ap different (map-append (at_column column) rows (row ∷ []))
          ∙ fold_push (λ so_far number. with_number number so_far) [] (map (at_column column) rows) key);
      under = λ number.
          ap (λ found. unwrap_or found (pos 0)) (found-insert sums key value number)
          ∙ under_by number key (int_eq number key) sums summand (sum_at column summed rows) refl gathers.under
          ∙ sym (summed-more column summed number rows row (int_eq number key) refl);
      ascends = subst (IsStrictlySortedBy int_cmp) (sym keys) (ascends-with_number key (keys_of sums) gathers.ascends);
    }

-- more rows
more_gathered : (column summed : ℤ) (before rows : List (List ℤ)) (sums : List (ℤ × ℤ)) → Gathers column summed before sums
    → Gathers column summed (before ++ rows) (with_rows column summed sums rows)
more_gathered column summed before [] sums gathers =
    subst (λ (rows : List (List ℤ)). Gathers column summed rows sums) (sym (append-nil before)) gathers
more_gathered column summed before (row ∷ rows) sums gathers =
    let next = with_summand sums (at_column column row) (at_column summed row) in
    subst (λ (all : List (List ℤ)). Gathers column summed all (with_rows column summed next rows)) (append_assoc before (row ∷ []) rows)
    (more_gathered column summed (before ++ row ∷ []) rows next (one_gathered column summed before row sums gathers))

pub gathered : (column summed : ℤ) (rows : List (List ℤ)) → Gathers column summed rows (with_rows column summed [] rows)
gathered column summed rows = more_gathered column summed [] rows [] (none_gathered column summed)

-- each entry of ascending keys is found under its key
below-found : (key : ℤ) (entries : List (ℤ × ℤ)) (number : ℤ) → AllByRecursion (λ n. int_cmp key n ≡ Less) (keys_of entries)
    → AllByRecursion (λ n. int_eq n key ≡ false) (keys_of entries)
below-found key [] number below = tt
below-found key (entry ∷ entries) number below =
    (ap is_eq (int_cmp_total.antisymm entry.0 key ∙ ap ordering_reverse below.0), below-found key entries number below.1)

skip_head : (f g : ℤ → ℤ) (key : ℤ) (numbers : List ℤ) → ((n : ℤ) → int_eq n key ≡ false → g n ≡ f n) → AllByRecursion (λ n. int_eq n key ≡ false) numbers
    → map (λ n. n ∷ (f n ∷ [])) numbers ≡ map (λ n. n ∷ (g n ∷ [])) numbers
skip_head f g key [] same apart = refl
skip_head f g key (number ∷ numbers) same apart =
    ap₂ (λ (x : ℤ) (xs : List (List ℤ)). (number ∷ (x ∷ [])) ∷ xs) (sym (same number apart.0)) (skip_head f g key numbers same apart.1)

rows_found : (entries : List (ℤ × ℤ)) → IsStrictlySortedBy int_cmp (keys_of entries)
    → map (λ entry. entry.0 ∷ (entry.1 ∷ [])) entries ≡ map (λ n. n ∷ (sum_under entries n ∷ [])) (keys_of entries)
unfolding IsStrictlySortedBy
rows_found [] ascends = refl
rows_found (entry ∷ entries) ascends =
    let apart = below-found entry.0 entries entry.0 ascends.0 in
    let here : sum_under (entry ∷ entries) entry.0 ≡ entry.1 =
    ap (λ b. unwrap_or (cond b (Some entry.1) (lookup (is_at (int_cmp entry.0)) entries)) (pos 0)) (int_eq-refl entry.0) in
    ap₂ (λ (x : ℤ) (xs : List (List ℤ)). (entry.0 ∷ (x ∷ [])) ∷ xs) (sym here)
    (rows_found entries ascends.1
    ∙ skip_head (sum_under entries) (sum_under (entry ∷ entries)) entry.0 (keys_of entries)
    (λ n no. ap (λ b. unwrap_or (cond b (Some entry.1) (lookup (is_at (int_cmp n)) entries)) (pos 0)) no) apart)

-- what is gathered are the groups
pub groups : (column summed : ℤ) (rows : List (List ℤ)) → sums_grid (with_rows column summed [] rows) ≡ grouped column summed rows
groups column summed rows =
    let sums = with_rows column summed [] rows in
    let all = gathered column summed rows in
    ap (λ (made : List (List ℤ)). record { width = 2; rows = made })
    (rows_found sums all.ascends
    ∙ ap₂ (λ (f : ℤ → ℤ) (numbers : List ℤ). map (λ n. n ∷ (f n ∷ [])) numbers) (fun_ext all.under) all.keys)

-- the loop over rows, one row more
pub row_added : (column summed : ℤ) (start before after : List (ℤ × ℤ)) (rows : List (List ℤ)) (at : ℕ) (row : List ℤ) (key summand : ℤ) → at < length rows
    → before ≡ with_rows column summed start (take at rows) → row ≡ grid_row (record { width = 1; rows = rows }) at → key ≡ at_column column row
    → summand ≡ at_column summed row → after ≡ with_summand before key summand → after ≡ with_rows column summed start (take (at + 1) rows)
row_added column summed start before after rows at row key summand lt is_before is_row is_key is_summand is_after =
    let add = λ (so_far : List (ℤ × ℤ)) (r : List ℤ). with_summand so_far (at_column column r) (at_column summed r) in
    is_after
    ∙ ap₂ (λ k s. with_summand before k s) is_key is_summand
    ∙ ap (add before) is_row
    ∙ ap (λ (sums : List (ℤ × ℤ)). add sums (get_or rows at [])) is_before
    ∙ sym (fold_more add start rows at [] lt)

-- the loop over sums, one row more
pub cells_added : (cells one two : List ℤ) (key sum : ℤ) (before after all : List (ℤ × ℤ))
    → cells ++ cells_of (sums_grid before).rows ≡ cells_of (sums_grid all).rows → before ≡ (key, sum) ∷ after → one ≡ cells ++ key ∷ [] → two ≡ one ++ sum ∷ []
    → two ++ cells_of (sums_grid after).rows ≡ cells_of (sums_grid all).rows
cells_added cells one two key sum before after all so_far is_before is_one is_two =
    let more = cells_of (sums_grid after).rows in
    ap (λ (xs : List ℤ). xs ++ more) (is_two ∙ ap (λ (xs : List ℤ). xs ++ sum ∷ []) is_one)
    ∙ append_assoc (cells ++ key ∷ []) (sum ∷ []) more
    ∙ append_assoc cells (key ∷ []) (sum ∷ more)
    ∙ sym (ap (λ (es : List (ℤ × ℤ)). cells ++ cells_of (sums_grid es).rows) is_before)
    ∙ so_far

even-sums : (sums : List (ℤ × ℤ)) → All (λ row. length row ≡ 2) (sums_grid sums).rows
even-sums [] = All-nil (λ row. length row ≡ 2)
even-sums (entry ∷ sums) = All-cons (λ row. length row ≡ 2) (entry.0 ∷ (entry.1 ∷ [])) (sums_grid sums).rows refl (even-sums sums)

pub all_cells : (cells : List ℤ) (left all : List (ℤ × ℤ)) → cells ++ cells_of (sums_grid left).rows ≡ cells_of (sums_grid all).rows → left ≡ []
    → cells ≡ cells_of (sums_grid all).rows
all_cells cells left all so_far none =
    sym (append-nil cells) ∙ sym (ap (λ (es : List (ℤ × ℤ)). cells ++ cells_of (sums_grid es).rows) none) ∙ so_far

pub length-all_cells : (cells : List ℤ) (rows : ℕ) (all : List (ℤ × ℤ)) → cells ≡ cells_of (sums_grid all).rows → rows ≡ length all → length cells ≡ rows * 2
length-all_cells cells rows all is is_rows =
    ap length is
    ∙ length-cells_of 2 (sums_grid all).rows (even-sums all)
    ∙ ap (λ n. n * 2) (length-map all (λ (entry : ℤ × ℤ). entry.0 ∷ (entry.1 ∷ [])) ∙ sym is_rows)

pub made_sums : (cells : List ℤ) (rows : ℕ) (all : List (ℤ × ℤ)) (result : Grid) → cells ≡ cells_of (sums_grid all).rows → rows ≡ length all
    → result ≡ record { width = 2; rows = rows_of rows 2 cells } → result ≡ sums_grid all
made_sums cells rows all result is is_rows is_result =
    is_result
    ∙ ap₂ (λ (n : ℕ) (xs : List ℤ). record { width = 2; rows = rows_of n 2 xs }) (is_rows ∙ sym (length-map all (λ (entry : ℤ × ℤ). entry.0 ∷ (entry.1 ∷ []))))
    is
    ∙ ap (λ (rs : List (List ℤ)). record { width = 2; rows = rs }) (rows_of-cells_of 2 (sums_grid all).rows (even-sums all))
