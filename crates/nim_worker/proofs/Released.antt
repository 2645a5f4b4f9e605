-- Which commands may be completed, as a test and as a record; and those that a batch takes may be, in turn.
use Rattle.std.proofs.Common.{◌≡◌, ◌≢◌, ℕ, zero, suc, ◌+◌, ◌<◌, ◌≤◌, Bool, true, false, not, List, [], ◌∷◌, ◌++◌, length, refl, ap, ap₂, sym, subst, ◌∙◌, arith, Option, All, inl, inr}
use Rattle.std.specs.Prelude.{◌==◌, ◌&&◌, ◌||◌, nat_lt, if◌then◌else◌}
use Rattle.std.specs.List.{filter, list_all, list_any, range_with_len}
use Rattle.std.specs.Option.{option_map_or}
use Rattle.std.proofs.lemmas.Bool.{and_from, and_parts, both_ways, lt-ltb, ne_eqb, not-true, or_parts}
use Rattle.std.proofs.lemmas.List.Elements.{All-cons, All-head, All-nil, All-push, All-tail, All-weaker}
use Rattle.std.proofs.lemmas.Option.{slice_get_cases}
use Rattle.nim_command.specs.declared.command.Command.{Command}
use Rattle.nim_command.specs.Covered.{waits_at}
use Rattle.nim_command.specs.Waits.{Group, Member, members_of, placed_commands, waits_for, waits_of}
use Rattle.nim_order.specs.Progress.{IsReleasedAt, is_one_of}
use Rattle.nim_order.proofs.Listed.{get_listed, length_listed, listed}
use Rattle.nim_queue.specs.Stands.{is_released}
use Rattle.nim_queue.proofs.Released.{released_at}
use Rattle.nim_store.specs.declared.key.Key.{Key}
use Rattle.nim_history.specs.History.{MayComplete, WorkerState, asked_at, has_frame}
use Rattle.nim_history.specs.InTurn.{HaveOtherFrames, MayAllComplete}
use Rattle.nim_history.proofs.InTurn.{commands_in_turn}
use Rattle.nim_worker.specs.Taken.{do_meet, have_one_frame, is_key, is_taken_behind, may_complete, taken_from, taken_of, touch_one_slot}

-- the places that a command waits for are before it
before_it : (p : ℕ → Bool) (n from count : ℕ) → from + count ≤ n
    → filter (λ earlier. nat_lt earlier n) (filter p (range_with_len from count)) ≡ filter p (range_with_len from count)
before_it p n from zero below = refl
before_it p n from (suc count) below = either (p from) (before_it p n (from + 1) count (omega (arith, below))) where
  either : (b : Bool) → filter (λ earlier. nat_lt earlier n) (filter p (range_with_len (from + 1) count)) ≡ filter p (range_with_len (from + 1) count)
      → filter (λ earlier. nat_lt earlier n) (if b then from ∷ filter p (range_with_len (from + 1) count) else filter p (range_with_len (from + 1) count))
      ≡ (if b then from ∷ filter p (range_with_len (from + 1) count) else filter p (range_with_len (from + 1) count))
  either true rest =
      ap (λ (b : Bool). if b then from ∷ filter (λ earlier. nat_lt earlier n) (filter p (range_with_len (from + 1) count))
      else filter (λ earlier. nat_lt earlier n) (filter p (range_with_len (from + 1) count)))
      (lt-ltb from n (omega (arith, below)))
      ∙ ap (λ (xs : List ℕ). from ∷ xs) rest
  either false rest = rest

-- how many places there are
pub within_all : (groups : List Group) (place : ℕ) → place < length (placed_commands groups) → place < length (members_of groups)
unfolding listed
within_all groups place within = subst (λ (n : ℕ). place < n) (length_listed (members_of groups)) within

-- a command that may be next is released
released_from : (groups : List Group) (done : ℕ → Bool) (place : ℕ) → IsReleasedAt (placed_commands groups) done place → is_released groups done place ≡ true
unfolding listed
released_from groups done place is =
    let ms : List Member = members_of groups in
    elim (slice_get_cases ms place).1 [
      | inl found ↦
          let waits : waits_at (listed ms) place ≡ filter (λ earlier. nat_lt earlier place) (waits_of ms place) =
          ap (λ (o : Option Command). filter (λ earlier. nat_lt earlier place) (option_map_or (λ (c : Command). c.before) o []))
          (get_listed ms place found.0 found.2) in
          and_from (not (done place)) (list_all done (waits_of ms place)) (ap not is.waiting)
          (ap (list_all done) (sym (waits ∙ before_it (waits_for ms place) place 0 place (omega arith))) ∙ is.waits)
      | inr past ↦ absurd (omega (arith, past.0, within_all groups place is.within))
    ]

pub may_as_test : (state : WorkerState) (place : ℕ) → MayComplete state place → may_complete state place ≡ true
may_as_test state place may =
    and_from (is_released state.session.groups (is_one_of state.ran) place) (option_map_or (has_frame state) (asked_at state.session.groups place) false)
    (released_from state.session.groups (is_one_of state.ran) place may.released) may.frame

may_from_test : (state : WorkerState) (place : ℕ) → place < length (members_of state.session.groups) → may_complete state place ≡ true → MayComplete state place
may_from_test state place within may =
    let parts = and_parts (is_released state.session.groups (is_one_of state.ran) place)
    (option_map_or (has_frame state) (asked_at state.session.groups place) false) may in
    record { released = released_at state.session.groups (is_one_of state.ran) place within parts.0; frame = parts.1 }

-- a key is itself
same_number : (n : ℕ) → (n == n) ≡ true
same_number n = grind arith

itself : (key : Key) → is_key key key ≡ true
itself key =
    and_from (key.epoch == key.epoch) _ (same_number key.epoch)
    (and_from (key.instance == key.instance) _ (same_number key.instance)
    (and_from (key.entry == key.entry) _ (same_number key.entry)
    (and_from (key.object.0 == key.object.0) _ (same_number key.object.0) (same_number key.version))))

-- commands that don't meet don't receive one frame
other_frames : (groups : List Group) (one other : ℕ) → have_one_frame groups one other ≡ false → HaveOtherFrames groups one other
other_frames groups one other not key first second =
    both_ways true
    (sym (ap₂ (λ (a : Option Key) (b : Option Key). option_map_or (λ (x : Key). option_map_or (is_key x) b false) a false) first second ∙ itself key) ∙ not)
    refl

none_of : (p : ℕ → Bool) (xs : List ℕ) → list_any p xs ≡ false → All (λ x. p x ≡ false) xs
none_of p [] none = All-nil (λ x. p x ≡ false)
none_of p (x ∷ xs) none =
    let parts = or_parts (p x) (list_any p xs) none in All-cons (λ y. p y ≡ false) x xs parts.0 (none_of p xs parts.1)

not_among : (n : ℕ) (taken : List ℕ) → All (λ p. p < n) taken → is_one_of taken n ≡ false
not_among n [] below = refl
not_among n (t ∷ taken) below =
    let first = All-head (λ p. p < n) t taken below in
    ap₂ (λ (a : Bool) (b : Bool). a || b) (ne_eqb t n (λ same. omega (arith, same, first))) (not_among n taken (All-tail (λ p. p < n) t taken below))

-- commands that were taken may be completed, each at once and all in turn
pub record MayBeTaken (state : WorkerState) (taken : List ℕ) : Type 0 where
  pub turn : MayAllComplete state taken
  pub each : All (MayComplete state) taken

taken_more : (state : WorkerState) (taken : List ℕ) (n : ℕ) → n < length (members_of state.session.groups) → All (λ p. p < n) taken
    → is_taken_behind state taken n ≡ true
    → MayBeTaken state taken → MayBeTaken state (taken ++ n ∷ [])
taken_more state taken n within below is may =
    let groups : List Group = state.session.groups in
    let parts = and_parts (may_complete state n) (not (list_any (λ earlier. do_meet groups earlier n) taken)) is in
    let now : MayComplete state n = may_from_test state n within parts.0 in
    let apart = none_of (λ earlier. do_meet groups earlier n) taken (not-true (list_any (λ earlier. do_meet groups earlier n) taken) parts.1) in
    record {
      turn = commands_in_turn.more state taken n may.turn now (not_among n taken below)
          (All-weaker (λ earlier. do_meet groups earlier n ≡ false) (λ earlier. HaveOtherFrames groups earlier n)
          (λ earlier not. other_frames groups earlier n (or_parts (touch_one_slot groups earlier n) (have_one_frame groups earlier n) not).1) taken apart);
      each = All-push (MayComplete state) taken n may.each now;
    }

taken_all : (state : WorkerState) (most : ℕ) (taken : List ℕ) (from count : ℕ) → from + count ≡ length (members_of state.session.groups)
    → All (λ p. p < from) taken → MayBeTaken state taken
    → MayBeTaken state (taken_from state most taken (range_with_len from count))
taken_all state most taken from zero all below may = may
taken_all state most taken from (suc count) all below may =
    either (nat_lt (length taken) most && is_taken_behind state taken from) refl (λ ts. taken_all state most ts (from + 1) count (omega (arith, all))) where
      wider : All (λ p. p < from + 1) taken
      wider = All-weaker (λ p. p < from) (λ p. p < from + 1) (λ p less. omega (arith, less)) taken below

      either : (b : Bool) → (nat_lt (length taken) most && is_taken_behind state taken from) ≡ b
          → ((ts : List ℕ) → All (λ p. p < from + 1) ts → MayBeTaken state ts → MayBeTaken state (taken_from state most ts (range_with_len (from + 1) count)))
          → MayBeTaken state (if b then taken_from state most (taken ++ from ∷ []) (range_with_len (from + 1) count)
          else taken_from state most taken (range_with_len (from + 1) count))
      either true is go_on =
          let parts = and_parts (nat_lt (length taken) most) (is_taken_behind state taken from) is in
          go_on (taken ++ from ∷ []) (All-push (λ p. p < from + 1) taken from wider (omega arith))
          (taken_more state taken from (omega (arith, all)) below parts.1 may)
      either false is go_on = go_on taken wider may

pub may_all : (state : WorkerState) (most : ℕ) → MayBeTaken state (taken_of state most)
unfolding taken_of
may_all state most =
    taken_all state most [] 0 (length (members_of state.session.groups)) (omega arith) (All-nil (λ p. p < 0))
    (record { turn = record {}; each = All-nil (MayComplete state) })

-- where none is taken none may be completed
never_none : (state : WorkerState) (most : ℕ) (taken : List ℕ) (t : ℕ) (xs : List ℕ) → taken_from state most (t ∷ taken) xs ≡ [] → ⊥
never_none state most taken t [] is = absurd cc
never_none state most taken t (x ∷ xs) is =
    either (nat_lt (length (t ∷ taken)) most && is_taken_behind state (t ∷ taken) x) (λ ts. never_none state most ts t xs) is where
      either : (b : Bool) → ((ts : List ℕ) → taken_from state most (t ∷ ts) xs ≡ [] → ⊥)
          → (if b then taken_from state most (t ∷ (taken ++ x ∷ [])) xs else taken_from state most (t ∷ taken) xs) ≡ [] → ⊥
      either true never is = never (taken ++ x ∷ []) is
      either false never is = never taken is

none_taken : (state : WorkerState) (most from count place : ℕ) → 1 ≤ most → taken_from state most [] (range_with_len from count) ≡ [] → from ≤ place
    → place < from + count
    → may_complete state place ≡ true → ⊥
none_taken state most from zero place least none above below may = omega (arith, above, below)
none_taken state most from (suc count) place least none above below may =
    either (is_taken_behind state [] from) refl (λ rest up. none_taken state most (from + 1) count place least rest up (omega (arith, below)) may) none where
      room : nat_lt 0 most ≡ true
      room = lt-ltb 0 most (omega (arith, least))

      here : (from ≡ place) → is_taken_behind state [] from ≡ true
      here same = and_from (may_complete state from) true (ap (may_complete state) same ∙ may) refl

      either : (b : Bool) → is_taken_behind state [] from ≡ b → (taken_from state most [] (range_with_len (from + 1) count) ≡ [] → from + 1 ≤ place → ⊥)
          → (if nat_lt 0 most && is_taken_behind state [] from then taken_from state most (from ∷ []) (range_with_len (from + 1) count)
          else taken_from state most [] (range_with_len (from + 1) count)) ≡ []
          → ⊥
      either true is never none = never_none state most [] from (range_with_len (from + 1) count)
          (sym (ap₂ (λ (a : Bool) (b : Bool). if a && b then taken_from state most (from ∷ []) (range_with_len (from + 1) count)
          else taken_from state most [] (range_with_len (from + 1) count)) room is) ∙ none)
      either false is never none =
          let other : from ≢ place = λ same. both_ways (is_taken_behind state [] from) is (here same) in
          never
          (sym (ap₂ (λ (a : Bool) (b : Bool). if a && b then taken_from state most (from ∷ []) (range_with_len (from + 1) count)
          else taken_from state most [] (range_with_len (from + 1) count)) room is) ∙ none)
          (omega (arith, above, other))

pub none_may : (state : WorkerState) (most : ℕ) → 1 ≤ most → taken_of state most ≡ [] → (place : ℕ) → MayComplete state place → ⊥
unfolding taken_of
none_may state most least none place may =
    none_taken state most 0 (length (members_of state.session.groups)) place least none (omega arith)
    (let within = within_all state.session.groups place may.released.within in omega (arith, within)) (may_as_test state place may)
