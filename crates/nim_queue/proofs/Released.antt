-- What a queue says is released may be next by the laws of waits.
use Rattle.std.proofs.Common.{◌≡◌, ℕ, zero, suc, ◌+◌, ◌<◌, Bool, true, false, not, List, [], ◌∷◌, refl, ap, sym, subst, ◌∙◌, arith, Option, Some, None, inl, inr}
use Rattle.std.specs.Prelude.{◌&&◌, if◌then◌else◌, nat_lt, IfSome}
use Rattle.std.specs.List.{filter, list_all, range_with_len}
use Rattle.std.specs.Option.{option_map_or}
use Rattle.std.proofs.lemmas.Bool.{and_from, and_parts, not-true}
use Rattle.std.proofs.lemmas.Option.{slice_get_cases}
use Rattle.nim_command.specs.declared.command.Command.{Command}
use Rattle.nim_command.specs.Covered.{waits_at}
use Rattle.nim_command.specs.Waits.{Group, Member, members_of, placed_commands, waits_of}
use Rattle.nim_order.specs.Progress.{IsReleasedAt}
use Rattle.nim_order.proofs.Listed.{get_listed, length_listed, listed}
use Rattle.nim_queue.specs.Stands.{command_count, first_to_pass, is_after, is_released, ready_of}

kept_step : (p : ℕ → Bool) (n : ℕ) (rest : List ℕ) (b : Bool) → p n ≡ true → list_all p rest ≡ true → list_all p (if b then n ∷ rest else rest) ≡ true
kept_step p n rest true here all = and_from (p n) (list_all p rest) here all
kept_step p n rest false here all = all

-- what holds of all holds of those that pass a test
all_kept : (p test : ℕ → Bool) (xs : List ℕ) → list_all p xs ≡ true → list_all p (filter test xs) ≡ true
all_kept p test [] all = refl
all_kept p test (n ∷ xs) all =
    let parts = and_parts (p n) (list_all p xs) all in kept_step p n (filter test xs) (test n) parts.0 (all_kept p test xs parts.1)

pub released_at : (groups : List Group) (done : ℕ → Bool) (ticket : ℕ) → ticket < command_count groups → is_released groups done ticket ≡ true
    → IsReleasedAt (placed_commands groups) done ticket
unfolding listed
released_at groups done ticket within released =
    let ms : List Member = members_of groups in
    let parts = and_parts (not (done ticket)) (list_all done (waits_of ms ticket)) released in
    elim (slice_get_cases ms ticket).1 [
      | inl found ↦
          let waits : waits_at (listed ms) ticket ≡ filter (λ earlier. nat_lt earlier ticket) (waits_of ms ticket) =
          ap (λ (o : Option Command). filter (λ earlier. nat_lt earlier ticket) (option_map_or (λ (c : Command). c.before) o []))
          (get_listed ms ticket found.0 found.2) in
          record {
            within = subst (λ (n : ℕ). ticket < n) (sym (length_listed ms)) within;
            waiting = not-true (done ticket) parts.0;
            waits = ap (list_all done) waits ∙ all_kept done (λ earlier. nat_lt earlier ticket) (waits_of ms ticket) parts.1;
          }
      | inr past ↦ absurd (omega (arith, past.0, within))
    ]

weaker : (o : Option ℕ) (P Q : ℕ → Type 0) → ((k : ℕ) → P k → Q k) → IfSome o P → IfSome o Q
weaker None P Q more some = tt
weaker (Some k) P Q more some = more k some

found_step : (test : ℕ → Bool) (a n : ℕ) (b : Bool) (rest : Option ℕ) → test a ≡ b → IfSome rest (λ k. (k < a + 1 + n) × (test k ≡ true))
    → IfSome (if b then Some a else rest) (λ k. (k < a + suc n) × (test k ≡ true))
found_step test a n true rest passes later = (omega arith, passes)
found_step test a n false rest passes later =
    weaker rest (λ k. (k < a + 1 + n) × (test k ≡ true)) (λ k. (k < a + suc n) × (test k ≡ true)) (λ k found. (omega (arith, found.0), found.1)) later

-- the first that passes a test is in range and passes it
found : (test : ℕ → Bool) (a n : ℕ) → IfSome (first_to_pass test (range_with_len a n)) (λ k. (k < a + n) × (test k ≡ true))
found test a zero = tt
found test a (suc n) = found_step test a n (test a) (first_to_pass test (range_with_len (a + 1) n)) refl (found test (a + 1) n)

pub ready_is_released : (groups : List Group) (done : ℕ → Bool) (after : Option ℕ)
    → IfSome (ready_of groups done after) (λ ticket. IsReleasedAt (placed_commands groups) done ticket)
ready_is_released groups done after =
    let test : ℕ → Bool = λ ticket. is_after after ticket && is_released groups done ticket in
    weaker (ready_of groups done after) (λ k. (k < 0 + command_count groups) × (test k ≡ true)) (λ ticket. IsReleasedAt (placed_commands groups) done ticket)
    (λ k found. released_at groups done k (omega (arith, found.0)) (and_parts (is_after after k) (is_released groups done k) found.1).1)
    (found test 0 (command_count groups))
