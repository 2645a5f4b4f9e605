-- What is reached through waits: from a place whose waits are complete, only complete places.
use Rattle.std.proofs.Common.{◌≡◌, ℕ, zero, suc, ◌<◌, ◌≤◌, Bool, true, List, length, subst, arith, inl, inr}
use Rattle.std.specs.Prelude.{◌==◌, ◌||◌, not}
use Rattle.std.specs.List.{list_all, range_with_len}
use Rattle.std.proofs.lemmas.Bool.{both_ways, eqb-true, false≢true, not-true, or_cases, or_left, or_right}
use Rattle.nim_command.specs.declared.command.Command.{Command}
use Rattle.nim_command.specs.Covered.{is_covered, is_kept_in_order, is_reached, waits_at}
use Rattle.nim_order.specs.Progress.{IsClosed, conflict_at}
use Rattle.nim_order.proofs.Items.{all_in_range, any_all, any_weaker}

pub reached_more : (commands : List Command) (n m place earlier : ℕ) → n ≤ m → is_reached n commands place earlier ≡ true
    → is_reached m commands place earlier ≡ true
reached_more commands zero m place earlier less reached = absurd (false≢true reached)
reached_more commands (suc n) zero place earlier less reached = absurd (omega arith)
reached_more commands (suc n) (suc m) place earlier less reached =
    any_weaker (λ x. (x == earlier) || is_reached n commands x earlier) (λ x. (x == earlier) || is_reached m commands x earlier)
    (λ x test. elim (or_cases (x == earlier) (is_reached n commands x earlier) test) [
      | inl same ↦ or_left (x == earlier) (is_reached m commands x earlier) same
      | inr more ↦ or_right (x == earlier) (is_reached m commands x earlier) (reached_more commands n m x earlier (omega arith) more)
    ])
    (waits_at commands place)
    reached

-- where the complete places are closed and all waits of a place are complete, so is all that is reached from it
pub reached_complete : (commands : List Command) (done : ℕ → Bool) → IsClosed commands done → (n place earlier : ℕ)
    → list_all done (waits_at commands place) ≡ true → is_reached n commands place earlier ≡ true → done earlier ≡ true
reached_complete commands done closed zero place earlier waits reached = absurd (false≢true reached)
reached_complete commands done closed (suc n) place earlier waits reached =
    any_all (λ x. (x == earlier) || is_reached n commands x earlier) done (done earlier ≡ true)
    (λ x test complete. elim (or_cases (x == earlier) (is_reached n commands x earlier) test) [
      | inl same ↦ subst (λ (y : ℕ). done y ≡ true) (eqb-true x earlier same) complete
      | inr more ↦ reached_complete commands done closed n x earlier (closed x complete) more
    ])
    (waits_at commands place)
    reached
    waits

-- of two commands of a covered list that conflict, the earlier is reached from the later
pub conflict_reached : (commands : List Command) (later earlier : ℕ) → is_covered commands ≡ true → later < length commands → earlier < later
    → conflict_at commands earlier later ≡ true → is_reached later commands later earlier ≡ true
conflict_reached commands later earlier covered within before conflict =
    let row : list_all (is_kept_in_order commands later) (range_with_len 0 later) ≡ true =
    all_in_range (λ l. list_all (is_kept_in_order commands l) (range_with_len 0 l)) 0 (length commands) covered later (omega arith) (omega arith) in
    let kept : is_kept_in_order commands later earlier ≡ true =
    all_in_range (is_kept_in_order commands later) 0 later row earlier (omega arith) (omega arith) in
    elim (or_cases (not (conflict_at commands earlier later)) (is_reached later commands later earlier) kept) [
      | inl none ↦ absurd (both_ways (conflict_at commands earlier later) (not-true (conflict_at commands earlier later) none) conflict)
      | inr reached ↦ reached
    ]
