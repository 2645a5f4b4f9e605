-- What slots hold where nothing is complete, and where everything is; and that something is always released.
use Rattle.std.proofs.Common.{◌≡◌, ℕ, zero, suc, ◌<◌, Bool, true, false, List, [], length, subst, sym, arith, inl, inr}
use Rattle.std.specs.Prelude.{◌⊎◌, nat_lt, slice_get}
use Rattle.std.specs.List.{list_all}
use Rattle.std.specs.Option.{option_map_or}
use Rattle.std.proofs.lemmas.Bool.{and_left, cases_Bool, cases_eq, ltb-true}
use Rattle.nim_base.specs.declared.number.Slot.{Slot}
use Rattle.nim_command.specs.declared.command.Command.{Command}
use Rattle.nim_command.specs.Covered.{waits_at}
use Rattle.nim_order.specs.Contents.{Leave}
use Rattle.nim_order.specs.Laws.{AtEnds, NeverStuck}
use Rattle.nim_order.specs.Progress.{held_when, writes_at}
use Rattle.nim_order.proofs.Held.{held_down, held_front}
use Rattle.nim_order.proofs.Items.{all_of_filter}

pub held_nothing : {X : Type 0} (leave : Leave X) (start : Slot → X) (commands : List Command) (done : ℕ → Bool)
    → ((place : ℕ) → done place ≡ false) → (slot : Slot) → held_when leave start commands done slot ≡ start slot
held_nothing leave start commands done none slot =
    held_down leave start commands done (length commands) 0 slot (omega arith) (λ k from to. and_left (done k) (writes_at commands k slot) (none k))

pub at_ends : (X : Type 0) → AtEnds X
at_ends X leave start commands done local = record {
  nothing = held_nothing leave start commands done;
  whole = λ all slot. held_front leave local start commands done (length commands) slot (λ k less written. all k less);
}

-- the first place below a number that isn't complete, if there is one
first_waiting : (done : ℕ → Bool) (n : ℕ)
    → ((k : ℕ) → k < n → done k ≡ true) ⊎ ((first : ℕ) × (first < n) × (done first ≡ false) × ((k : ℕ) → k < first → done k ≡ true))
first_waiting done zero = inl (λ k less. absurd (omega arith))
first_waiting done (suc n) =
    elim (first_waiting done n) [
      | inl all ↦ elim (cases_Bool (done n)) [
        | inl complete ↦
            inl (λ k less. elim (cases_eq k n) [
              | inl same ↦ subst (λ (x : ℕ). done x ≡ true) (sym same) complete
              | inr other ↦ all k (omega arith)
            ])
        | inr waiting ↦ inr (n, omega arith, waiting, all)
      ]
      | inr found ↦ inr (found.0, omega (arith, found.1), found.2, found.3)
    ]

-- where all before a place is complete, so is all that it waits for
waits_complete : (commands : List Command) (done : ℕ → Bool) (place : ℕ) → ((k : ℕ) → k < place → done k ≡ true)
    → list_all done (waits_at commands place) ≡ true
waits_complete commands done place all =
    all_of_filter done (λ (earlier : ℕ). nat_lt earlier place) (option_map_or (λ (c : Command). c.before) (slice_get commands place) [])
    (λ k less. all k (ltb-true k place less))

pub never_stuck : NeverStuck
never_stuck commands done place within waiting =
    elim (first_waiting done place) [
      | inl all ↦ (place, omega arith, record { within = within; waiting = waiting; waits = waits_complete commands done place all })
      | inr found ↦ (
        found.0,
        omega (arith, found.1),
        record { within = omega (arith, found.1); waiting = found.2; waits = waits_complete commands done found.0 found.3 },
      )
    ]
