-- The walk of the released commands takes those that a batch takes.
use Rattle.std.proofs.Common.{◌≡◌, ℕ, zero, suc, ◌+◌, ◌<◌, ◌≤◌, Bool, true, false, not, List, [], ◌∷◌, ◌++◌, length, refl, ap, ap₂, sym, ◌∙◌, arith, Option, None, Some}
use Rattle.std.specs.Prelude.{◌&&◌, nat_lt, if◌then◌else◌}
use Rattle.std.specs.List.{filter, list_any, range_with_len}
use Rattle.std.specs.Option.{option_map_or}
use Rattle.std.proofs.lemmas.Bool.{lt-ltb, ltb-true}
use Rattle.std.proofs.lemmas.List.{length-map}
use Rattle.nim_command.specs.Waits.{members_of}
use Rattle.nim_order.specs.Progress.{is_one_of}
use Rattle.nim_queue.specs.Stands.{first_to_pass, is_after, is_released, ready_of}
use Rattle.nim_history.specs.History.{WorkerState, asked_at, has_frame}
use Rattle.nim_worker.specs.declared.batch.Work.{Work}
use Rattle.nim_worker.specs.declared.worker.WorkerCore.{WorkerCore}
use Rattle.nim_worker.specs.Stands.{IsBeginning, tickets_of}
use Rattle.nim_worker.specs.Taken.{do_meet, is_taken_behind, taken_from, taken_of}

-- all places, in order
abbrev pub places_of : WorkerState → List ℕ
places_of state = range_with_len 0 (length (members_of state.session.groups))

abbrev pub released : WorkerState → ℕ → Bool
released state place = is_released state.session.groups (is_one_of state.ran) place

-- some of the released commands were looked at, and those of them taken that a batch takes
pub record IsWalked (state : WorkerState) (most : ℕ) (after : Option ℕ) (core : WorkerCore) (works : List Work) : Type 0 where
  pub begins : IsBeginning core works state
  pub left : taken_from state most (tickets_of works) (filter (is_after after) (places_of state)) ≡ taken_of state most

all_of : (xs : List ℕ) → filter (is_after None) xs ≡ xs
all_of [] = refl
all_of (x ∷ xs) = ap (λ (rest : List ℕ). x ∷ rest) (all_of xs)

whole : (state : WorkerState) (most : ℕ) → taken_from state most [] (places_of state) ≡ taken_of state most
unfolding taken_of
whole state most = refl

pub walk_begins : (state : WorkerState) (most : ℕ) (core : WorkerCore) → IsBeginning core [] state → IsWalked state most None core []
walk_begins state most core begins = record {
  begins = begins;
  left = ap (taken_from state most []) (all_of (places_of state)) ∙ whole state most;
}

-- once the batch is full no more is taken
pub taken_full : (state : WorkerState) (most : ℕ) (taken xs : List ℕ) → nat_lt (length taken) most ≡ false → taken_from state most taken xs ≡ taken
taken_full state most taken [] full = refl
taken_full state most taken (x ∷ xs) full =
    ap (λ (b : Bool). if b && is_taken_behind state taken x then taken_from state most (taken ++ x ∷ []) xs else taken_from state most taken xs) full
    ∙ taken_full state most taken xs full

-- one that isn't released isn't taken
passed_over : (state : WorkerState) (most : ℕ) (taken : List ℕ) (x : ℕ) (xs : List ℕ) → released state x ≡ false
    → taken_from state most taken (x ∷ xs) ≡ taken_from state most taken xs
passed_over state most taken x xs is = either (nat_lt (length taken) most) where
  none : is_taken_behind state taken x ≡ false
  none =
      ap (λ (b : Bool). (b && option_map_or (has_frame state) (asked_at state.session.groups x) false)
      && not (list_any (λ earlier. do_meet state.session.groups earlier x) taken)) is

  either : (b : Bool) → (if b && is_taken_behind state taken x then taken_from state most (taken ++ x ∷ []) xs else taken_from state most taken xs)
      ≡ taken_from state most taken xs
  either true = ap (λ (b : Bool). if b then taken_from state most (taken ++ x ∷ []) xs else taken_from state most taken xs) none
  either false = refl

none_more : (state : WorkerState) (most : ℕ) (after : Option ℕ) (taken xs : List ℕ)
    → first_to_pass (λ ticket. is_after after ticket && released state ticket) xs ≡ None
    → taken_from state most taken (filter (is_after after) xs) ≡ taken
none_more state most after taken [] none = refl
none_more state most after taken (x ∷ xs) none = either (is_after after x) (released state x) refl (none_more state most after taken xs) none where
  either : (later free : Bool) → released state x ≡ free
      → (first_to_pass (λ ticket. is_after after ticket && released state ticket) xs ≡ None → taken_from state most taken (filter (is_after after) xs) ≡ taken)
      → (if later && free then Some x else first_to_pass (λ ticket. is_after after ticket && released state ticket) xs) ≡ None
      → taken_from state most taken (if later then x ∷ filter (is_after after) xs else filter (is_after after) xs) ≡ taken
  either true true is more none = absurd cc
  either true false is more none = passed_over state most taken x (filter (is_after after) xs) is ∙ more none
  either false free is more none = more none

-- the first that passes a test is none before the first place
not_before : (test : ℕ → Bool) (from count ticket : ℕ) → first_to_pass test (range_with_len from count) ≡ Some ticket → from ≤ ticket
not_before test from zero ticket is = absurd cc
not_before test from (suc count) ticket is = either (test from) (not_before test (from + 1) count ticket) is where
  either : (b : Bool) → (first_to_pass test (range_with_len (from + 1) count) ≡ Some ticket → from + 1 ≤ ticket)
      → (if b then Some from else first_to_pass test (range_with_len (from + 1) count)) ≡ Some ticket → from ≤ ticket
  either true more is = let same : from ≡ ticket = cc in omega (arith, same)
  either false more is = omega (arith, more is)

-- what comes after a place that comes after the given one comes after it too
after_all : (after : Option ℕ) (from count : ℕ) → ((place : ℕ) → from ≤ place → is_after after place ≡ true)
    → filter (is_after after) (range_with_len from count) ≡ range_with_len from count
after_all after from zero later = refl
after_all after from (suc count) later =
    ap (λ (b : Bool). if b then from ∷ filter (is_after after) (range_with_len (from + 1) count) else filter (is_after after) (range_with_len (from + 1) count))
    (later from (omega arith))
    ∙ ap (λ (rest : List ℕ). from ∷ rest) (after_all after (from + 1) count (λ place above. later place (omega (arith, above))))

still_after : (after : Option ℕ) (from place : ℕ) → is_after after from ≡ true → from ≤ place → is_after after place ≡ true
still_after None from place is above = refl
still_after (Some given) from place is above = lt-ltb given place (omega (arith, ltb-true given from is, above))

-- whether a place comes after itself, or after a later one
not_after : (ticket place : ℕ) → place ≤ ticket → is_after (Some ticket) place ≡ false
not_after ticket place below = grind (arith, below)

-- those between the given place and the first released one behind it are passed over
next_one : (state : WorkerState) (most : ℕ) (after : Option ℕ) (taken : List ℕ) (ticket from count : ℕ)
    → first_to_pass (λ t. is_after after t && released state t) (range_with_len from count) ≡ Some ticket
    → taken_from state most taken (filter (is_after after) (range_with_len from count))
    ≡ taken_from state most taken (ticket ∷ filter (is_after (Some ticket)) (range_with_len from count))
next_one state most after taken ticket from zero is = absurd cc
next_one state most after taken ticket from (suc count) is =
    either (is_after after from) (released state from) refl refl (next_one state most after taken ticket (from + 1) count) is where
      rest : List ℕ
      rest = range_with_len (from + 1) count

      drop_one : from ≤ ticket → filter (is_after (Some ticket)) (from ∷ rest) ≡ filter (is_after (Some ticket)) rest
      drop_one below =
          ap (λ (b : Bool). if b then from ∷ filter (is_after (Some ticket)) rest else filter (is_after (Some ticket)) rest) (not_after ticket from below)

      Next : Type 0
      Next = first_to_pass (λ t. is_after after t && released state t) rest ≡ Some ticket
          → taken_from state most taken (filter (is_after after) rest) ≡ taken_from state most taken (ticket ∷ filter (is_after (Some ticket)) rest)

      go_on : Next → first_to_pass (λ t. is_after after t && released state t) rest ≡ Some ticket
          → taken_from state most taken (filter (is_after after) rest) ≡ taken_from state most taken (ticket ∷ filter (is_after (Some ticket)) (from ∷ rest))
      go_on next is =
          let below = not_before (λ t. is_after after t && released state t) (from + 1) count ticket is in
          next is
          ∙ ap (λ (xs : List ℕ). taken_from state most taken (ticket ∷ xs)) (sym (drop_one (omega (arith, below))))

      either : (later free : Bool) → is_after after from ≡ later → released state from ≡ free → Next
          → (if later && free then Some from else first_to_pass (λ t. is_after after t && released state t) rest) ≡ Some ticket
          → taken_from state most taken (if later then from ∷ filter (is_after after) rest else filter (is_after after) rest)
          ≡ taken_from state most taken (ticket ∷ filter (is_after (Some ticket)) (from ∷ rest))
      either true true later free next is =
          let same : from ≡ ticket = cc in
          let here : filter (is_after after) rest ≡ rest =
          after_all after (from + 1) count (λ place above. still_after after from place later (omega (arith, above))) in
          let there : filter (is_after (Some ticket)) rest ≡ rest =
          after_all (Some ticket) (from + 1) count (λ place above. lt-ltb ticket place (omega (arith, above, same))) in
          ap₂ (λ (n : ℕ) (xs : List ℕ). taken_from state most taken (n ∷ xs)) same (here ∙ sym there ∙ sym (drop_one (omega (arith, same))))
      either true false later free next is = passed_over state most taken from (filter (is_after after) rest) free ∙ go_on next is
      either false free later at next is = go_on next is

-- one more released command was looked at
pub walked_on : (state : WorkerState) (most : ℕ) (after : Option ℕ) (ticket : ℕ) (core new : WorkerCore) (works more : List Work)
    → IsWalked state most after core works
    → length works < most → ready_of state.session.groups (is_one_of state.ran) after ≡ Some ticket → IsBeginning new more state
    → tickets_of more ≡ (if is_taken_behind state (tickets_of works) ticket then tickets_of works ++ ticket ∷ [] else tickets_of works)
    → IsWalked state most (Some ticket) new more
walked_on state most after ticket core new works more walked room ready begins taken = record {
  begins = begins;
  left =
      let rest : List ℕ = filter (is_after (Some ticket)) (places_of state) in
      let open_to : nat_lt (length (tickets_of works)) most ≡ true =
      lt-ltb (length (tickets_of works)) most (omega (arith, room, length-map works (λ (w : Work). w.ticket))) in
      ap (λ (ts : List ℕ). taken_from state most ts rest) taken
      ∙ either rest (is_taken_behind state (tickets_of works) ticket) refl
      ∙ ap (λ (b : Bool). if b && is_taken_behind state (tickets_of works) ticket then taken_from state most (tickets_of works ++ ticket ∷ []) rest
      else taken_from state most (tickets_of works) rest) (sym open_to)
      ∙ sym (next_one state most after (tickets_of works) ticket 0 (length (members_of state.session.groups)) ready)
      ∙ walked.left;
} where
  either : (rest : List ℕ) (b : Bool) → is_taken_behind state (tickets_of works) ticket ≡ b
      → taken_from state most (if is_taken_behind state (tickets_of works) ticket then tickets_of works ++ ticket ∷ [] else tickets_of works) rest
      ≡ (if is_taken_behind state (tickets_of works) ticket then taken_from state most (tickets_of works ++ ticket ∷ []) rest
      else taken_from state most (tickets_of works) rest)
  either rest true is = rw is refl
  either rest false is = rw is refl

-- the walk is at its end
pub walk_ends : (state : WorkerState) (most : ℕ) (after : Option ℕ) (core : WorkerCore) (works : List Work) → IsWalked state most after core works
    → (if nat_lt (length works) most then ready_of state.session.groups (is_one_of state.ran) after else None) ≡ None → tickets_of works ≡ taken_of state most
walk_ends state most after core works walked none = either (nat_lt (length works) most) refl none where
  same : length (tickets_of works) ≡ length works
  same = length-map works (λ (w : Work). w.ticket)

  either : (b : Bool) → nat_lt (length works) most ≡ b → (if b then ready_of state.session.groups (is_one_of state.ran) after else None) ≡ None
      → tickets_of works ≡ taken_of state most
  either true is none = sym (none_more state most after (tickets_of works) (places_of state) none) ∙ walked.left
  either false is none =
      sym (taken_full state most (tickets_of works) (filter (is_after after) (places_of state)) (ap (λ (n : ℕ). nat_lt n most) same ∙ is)) ∙ walked.left
