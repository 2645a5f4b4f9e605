-- Whether some command may be completed, by a walk over the released ones.
use Rattle.std.proofs.Common.{◌≡◌, ℕ, zero, suc, ◌+◌, ◌<◌, ◌≤◌, Bool, true, false, not, List, [], ◌∷◌, length, refl, ap, sym, subst, ◌∙◌, arith, Option, None, Some}
use Rattle.std.specs.Prelude.{◌&&◌, ◌||◌, IfSome, if◌then◌else◌}
use Rattle.std.specs.List.{list_any, range_with_len}
use Rattle.std.specs.Option.{option_map_or}
use Rattle.std.proofs.lemmas.Bool.{and_parts}
use Rattle.nim_command.specs.Waits.{members_of}
use Rattle.nim_order.specs.Progress.{is_one_of}
use Rattle.nim_queue.specs.Stands.{command_count, first_to_pass, is_after, is_released, ready_of}
use Rattle.nim_history.specs.History.{Asked, WorkerState, asked_at, has_frame}
use Rattle.nim_history.proofs.Left.{asked_is}
use Rattle.nim_worker.specs.declared.worker.WorkerCore.{WorkerCore}
use Rattle.nim_worker.specs.Taken.{has_released, may_complete, taken_from, taken_of}
use Rattle.nim_base.proofs.Lists.{any_of_range, get_some}
use Rattle.nim_worker.proofs.OneTaken.{not_ran}
use Rattle.nim_worker.proofs.Walk.{IsWalked, taken_full, walk_ends, walked_on}

-- ---- where a batch would take nothing

none_from : (state : WorkerState) (xs : List ℕ) → taken_from state 1 [] xs ≡ [] → list_any (may_complete state) xs ≡ false
none_from state [] none = refl
none_from state (x ∷ xs) none = either (may_complete state x) refl (none_from state xs) where
  either : (b : Bool) → may_complete state x ≡ b → (taken_from state 1 [] xs ≡ [] → list_any (may_complete state) xs ≡ false)
      → (b || list_any (may_complete state) xs) ≡ false
  either true may rest =
      let taken : taken_from state 1 (x ∷ []) xs ≡ [] =
      sym (ap (λ (b : Bool). if b && not false then taken_from state 1 (x ∷ []) xs else taken_from state 1 [] xs) may) ∙ none in
      let full : taken_from state 1 (x ∷ []) xs ≡ x ∷ [] = taken_full state 1 (x ∷ []) xs refl in
      cc
  either false may rest =
      rest (sym (ap (λ (b : Bool). if b && not false then taken_from state 1 (x ∷ []) xs else taken_from state 1 [] xs) may) ∙ none)

none_released : (state : WorkerState) → taken_of state 1 ≡ [] → has_released state ≡ false
unfolding taken_of
none_released state none = none_from state (range_with_len 0 (length (members_of state.session.groups))) none

-- the walk is at its end
pub walked_past : (state : WorkerState) (after : Option ℕ) (core : WorkerCore) → IsWalked state 1 after core []
    → ready_of state.session.groups (is_one_of state.ran) after ≡ None → has_released state ≡ false
walked_past state after core walked none = none_released state (sym (walk_ends state 1 after core [] walked none))

-- ---- a released command

-- the first that passes a test passes it, and is one of those that were looked at
first_passes : (test : ℕ → Bool) (from count ticket : ℕ) → first_to_pass test (range_with_len from count) ≡ Some ticket
    → (test ticket ≡ true) × (from ≤ ticket) × (ticket < from + count)
first_passes test from zero ticket is = absurd cc
first_passes test from (suc count) ticket is = either (test from) refl (first_passes test (from + 1) count ticket) is where
  either : (b : Bool) → test from ≡ b
      → (first_to_pass test (range_with_len (from + 1) count) ≡ Some ticket → (test ticket ≡ true) × (from + 1 ≤ ticket) × (ticket < from + 1 + count))
      → (if b then Some from else first_to_pass test (range_with_len (from + 1) count)) ≡ Some ticket
      → (test ticket ≡ true) × (from ≤ ticket) × (ticket < from + suc count)
  either true does more is =
      let same : from ≡ ticket = cc in
      (ap test (sym same) ∙ does, omega (arith, same), omega (arith, same))
  either false not more is = let rest = more is in (rest.0, omega (arith, rest.1), omega (arith, rest.2))

-- a released command: it was asked for, and isn't complete
pub record IsNext (state : WorkerState) (ticket : ℕ) : Type 0 where
  pub asked : Asked
  pub there : asked_at state.session.groups ticket ≡ Some asked
  pub released : is_released state.session.groups (is_one_of state.ran) ticket ≡ true
  pub waiting : is_one_of state.ran ticket ≡ false
  pub within : ticket < length (members_of state.session.groups)

pub next_is : (state : WorkerState) (after : Option ℕ) (ticket : ℕ) → ready_of state.session.groups (is_one_of state.ran) after ≡ Some ticket
    → IsNext state ticket
next_is state after ticket ready =
    let groups = state.session.groups in
    let first = first_passes (λ (t : ℕ). is_after after t && is_released groups (is_one_of state.ran) t) 0 (command_count groups) ticket ready in
    let released = (and_parts (is_after after ticket) (is_released groups (is_one_of state.ran) ticket) first.0).1 in
    let within : ticket < length (members_of groups) = omega (arith, first.2) in
    let member = get_some (members_of groups) ticket within in
    let asked = asked_is groups ticket member.0 member.1 in
    record {
      asked = record { number = member.0.group; group = asked.0; command = member.0.command };
      there = asked.2;
      released = released;
      waiting = not_ran groups state.ran ticket released;
      within = within;
    }

-- whether it may be completed
may_next : (state : WorkerState) (ticket : ℕ) (next : IsNext state ticket) → may_complete state ticket ≡ has_frame state next.asked
may_next state ticket next =
    ap (λ (b : Bool). b && option_map_or (has_frame state) (asked_at state.session.groups ticket) false) next.released
    ∙ ap (λ (o : Option Asked). option_map_or (has_frame state) o false) next.there

framed_as : (state : WorkerState) (ticket : ℕ) (next : IsNext state ticket) (frame : Bool)
    → IfSome (asked_at state.session.groups ticket) (λ (asked : Asked). frame ≡ has_frame state asked) → may_complete state ticket ≡ frame
framed_as state ticket next frame is =
    may_next state ticket next
    ∙ sym (subst (λ (o : Option Asked). IfSome o (λ (asked : Asked). frame ≡ has_frame state asked)) next.there is)

-- it may, where its frame is there
pub one_released : (state : WorkerState) (ticket : ℕ) → IsNext state ticket
    → IfSome (asked_at state.session.groups ticket) (λ (asked : Asked). true ≡ has_frame state asked) → has_released state ≡ true
one_released state ticket next frame =
    any_of_range (may_complete state) 0 (length (members_of state.session.groups)) ticket (omega arith) (omega (arith, next.within))
    (framed_as state ticket next true frame)

-- and else the walk goes on
pub walked_by : (state : WorkerState) (after : Option ℕ) (ticket : ℕ) (core : WorkerCore) → IsWalked state 1 after core []
    → ready_of state.session.groups (is_one_of state.ran) after ≡ Some ticket → IsNext state ticket
    → IfSome (asked_at state.session.groups ticket) (λ (asked : Asked). false ≡ has_frame state asked) → IsWalked state 1 (Some ticket) core []
walked_by state after ticket core walked ready next frame =
    walked_on state 1 after ticket core core [] [] walked (omega arith) ready walked.begins
    (sym (ap (λ (b : Bool). if b && not false then ticket ∷ [] else []) (framed_as state ticket next false frame)))
