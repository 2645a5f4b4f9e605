-- What is reached from a place doesn't depend on how many waits may be taken, once they are as many as the place: a
-- wait goes to a smaller place.
use Rattle.std.proofs.Common.{◌≡◌, ℕ, zero, suc, ◌+◌, ◌<◌, ◌≤◌, Bool, false, not, List, [], length, map, get_or, refl, ap, ap₂, sym, ◌∙◌, arith, Option, Some, inl, inr}
use Rattle.std.specs.Prelude.{slice_get, nat_lt, ◌==◌, ◌&&◌, ◌||◌}
use Rattle.std.specs.List.{list_any, range_with_len}
use Rattle.std.specs.Option.{option_map_or, option_map}
use Rattle.std.proofs.lemmas.Bool.{cases_lt, ltb-true, ne_eqb, or_from}
use Rattle.std.proofs.lemmas.List.FromFn.{length-range_with_len, get_or-range_with_len, length-map-range_with_len, get_or-map-range_with_len}
use Rattle.std.proofs.lemmas.Option.{slice_get-map, slice_get-get_or, slice_get_past}
use Rattle.nim_command.specs.declared.command.Command.{Command}
use Rattle.nim_command.specs.Covered.{do_conflict, is_kept_in_order, is_reached}
use Rattle.nim_plan.specs.Reached.{is_marked, leads_to, row_of}
use Rattle.nim_base.proofs.Lists.{any_filter, any_same, guarded}
use Rattle.nim_plan.proofs.Lists.{any_nothing, both_none}

-- the numbers of the command at a place
before_at : List Command → ℕ → List ℕ
before_at commands place = option_map_or (λ (c : Command). c.before) (slice_get commands place) []

before_is : (commands : List Command) (place : ℕ) (c : Command) → slice_get commands place ≡ Some c → before_at commands place ≡ c.before
unfolding before_at
before_is commands place c found = ap (λ (o : Option Command). option_map_or (λ (found : Command). found.before) o []) found

range_get : (n k : ℕ) → k < n → slice_get (range_with_len 0 n) k ≡ Some k
range_get n k within =
    let there : k < length (range_with_len 0 n) = omega (arith, length-range_with_len 0 n) in
    let same : 0 + k ≡ k = omega arith in
    slice_get-get_or (range_with_len 0 n) k 0 there ∙ ap Some (get_or-range_with_len 0 n k 0 within ∙ same)

pub length_row : (commands : List Command) (place : ℕ) → length (row_of commands place) ≡ place
length_row commands place = length-map-range_with_len (is_reached place commands place) 0 place

-- one more wait
reached_next : (commands : List Command) (n place earlier : ℕ)
    → is_reached (suc n) commands place earlier ≡ list_any (λ x. nat_lt x place && ((x == earlier) || is_reached n commands x earlier))
    (before_at commands place)
unfolding before_at
reached_next commands n place earlier =
    any_filter (λ x. (x == earlier) || is_reached n commands x earlier) (λ x. nat_lt x place)
    (option_map_or (λ (c : Command). c.before) (slice_get commands place) [])

-- what is reached stands before
pub reached_past : (commands : List Command) (n place earlier : ℕ) → place ≤ earlier → is_reached n commands place earlier ≡ false
reached_past commands zero place earlier past = refl
reached_past commands (suc n) place earlier past =
    reached_next commands n place earlier
    ∙ any_nothing (λ x. nat_lt x place && ((x == earlier) || is_reached n commands x earlier))
    (λ x. both_none (nat_lt x place) ((x == earlier) || is_reached n commands x earlier)
    (λ test. let less : x < place = ltb-true x place test in
    or_from (x == earlier) (is_reached n commands x earlier) (ne_eqb x earlier (λ same. omega arith)) (reached_past commands n x earlier (omega arith))))
    (before_at commands place)

pub reached_same : (commands : List Command) (m n place earlier : ℕ) → place ≤ m → place ≤ n
    → is_reached m commands place earlier ≡ is_reached n commands place earlier
reached_same commands zero n place earlier first second = sym (reached_past commands n place earlier (omega arith))
reached_same commands (suc m) zero place earlier first second = reached_past commands (suc m) place earlier (omega arith)
reached_same commands (suc m) (suc n) place earlier first second =
    reached_next commands m place earlier
    ∙ any_same (λ x. nat_lt x place && ((x == earlier) || is_reached m commands x earlier))
    (λ x. nat_lt x place && ((x == earlier) || is_reached n commands x earlier))
    (λ x. guarded (nat_lt x place) ((x == earlier) || is_reached m commands x earlier) ((x == earlier) || is_reached n commands x earlier)
    (λ test. let less : x < place = ltb-true x place test in ap (λ (b : Bool). (x == earlier) || b)
    (reached_same commands m n x earlier (omega arith) (omega arith))))
    (before_at commands place)
    ∙ sym (reached_next commands n place earlier)

-- the row of a place has what is reached from it
in_row : (commands : List Command) (place earlier : ℕ)
    → option_map_or (λ (reached : Bool). reached) (slice_get (row_of commands place) earlier) false ≡ is_reached place commands place earlier
in_row commands place earlier =
    elim (cases_lt earlier place) [
      | inl less ↦
          ap (λ (found : Option Bool). option_map_or (λ (reached : Bool). reached) found false)
          (slice_get-map (is_reached place commands place) (range_with_len 0 place) earlier
          ∙ ap (option_map (is_reached place commands place)) (range_get place earlier less))
      | inr past ↦
          ap (λ (found : Option Bool). option_map_or (λ (reached : Bool). reached) found false)
          (slice_get_past (row_of commands place) earlier (omega (arith, length_row commands place)))
          ∙ sym (reached_past commands place place earlier past)
    ]

-- the table has what is reached
marked : (commands : List Command) (rows : List (List Bool)) (later place earlier : ℕ) → rows ≡ map (row_of commands) (range_with_len 0 later) → place < later
    → is_marked rows place earlier ≡ is_reached place commands place earlier
marked commands rows later place earlier table within =
    ap (λ (found : Option (List Bool)). option_map_or (λ (row : List Bool). option_map_or (λ (reached : Bool). reached) (slice_get row earlier) false) found
    false)
    (ap (λ (all : List (List Bool)). slice_get all place) table ∙ slice_get-map (row_of commands) (range_with_len 0 later) place
    ∙ ap (option_map (row_of commands)) (range_get later place within))
    ∙ in_row commands place earlier

-- what a command's waits lead to by the table of the places before is what is reached from its place
pub reached_by_rows : (commands : List Command) (rows : List (List Bool)) (later earlier : ℕ) (c : Command)
    → rows ≡ map (row_of commands) (range_with_len 0 later)
    → slice_get commands later ≡ Some c → list_any (leads_to rows later earlier) c.before ≡ is_reached later commands later earlier
reached_by_rows commands rows zero earlier c table found =
    any_nothing (leads_to rows zero earlier)
    (λ x. both_none (nat_lt x zero) ((x == earlier) || is_marked rows x earlier) (λ test. let less : x < zero = ltb-true x zero test in absurd (omega arith)))
    c.before
reached_by_rows commands rows (suc m) earlier c table found =
    any_same (leads_to rows (suc m) earlier) (λ x. nat_lt x (suc m) && ((x == earlier) || is_reached m commands x earlier))
    (λ x. guarded (nat_lt x (suc m)) ((x == earlier) || is_marked rows x earlier) ((x == earlier) || is_reached m commands x earlier)
    (λ test. let less : x < suc m = ltb-true x (suc m) test in
    ap (λ (b : Bool). (x == earlier) || b) (marked commands rows (suc m) x earlier table less
    ∙ reached_same commands x m x earlier (omega arith) (omega arith))))
    c.before
    ∙ ap (list_any (λ x. nat_lt x (suc m) && ((x == earlier) || is_reached m commands x earlier))) (sym (before_is commands (suc m) c found))
    ∙ sym (reached_next commands m (suc m) earlier)

-- the test of a pair of places, from their commands and the row of the later one
pub kept_at : (commands : List Command) (later earlier : ℕ) (l e : Command) (row : List Bool) (d : Bool) → later < length commands → earlier < later
    → row ≡ row_of commands later
    → (not (do_conflict (get_or commands earlier e).kind (get_or commands later l).kind) || get_or row earlier d) ≡ is_kept_in_order commands later earlier
kept_at commands later earlier l e row d there within is =
    let there_too : earlier < length commands = omega arith in
    ap₂ (λ (conflict known : Bool). not conflict || known)
    (sym (ap₂ (λ (first second : Option Command). option_map_or (λ (f : Command). option_map_or (λ (s : Command). do_conflict f.kind s.kind) second false) first
    false)
    (slice_get-get_or commands earlier e there_too) (slice_get-get_or commands later l there)))
    (ap (λ (all : List Bool). get_or all earlier d) is
    ∙ get_or-map-range_with_len (is_reached later commands later) 0 later earlier earlier d within (omega arith))
