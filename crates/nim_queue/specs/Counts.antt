-- Counts of open waits, and the tickets of those that have none.
use Rattle.std.specs.Prelude.{◌≡◌, ℕ, ◌-◌, ◌≤◌, ◌==◌, Bool, false, not, List, ◌∷◌, ◌++◌, length, drop, nat_lt, Option, None, Some, is_some}
use Rattle.std.specs.List.{filter, list_any, range_with_len}
use Rattle.std.specs.List.Sorted.{IsNonDecreasingBy}
use Rattle.std.specs.Option.{option_map_or}
use Rattle.std.specs.VecDeque.{deque_capacity}
use Rattle.nim_queue.specs.declared.slot_use.SlotUse.{SlotUse}
use Rattle.nim_queue.specs.declared.tickets.Tickets.{Tickets}
use Rattle.nim_queue.specs.declared.waiting.Waiting.{Waiting}

-- whether a ticket is among some
abbrev pub is_in : ℕ → List ℕ → Bool
is_in ticket tickets = list_any (λ other. ticket == other) tickets

-- how often it is
abbrev pub times : ℕ → List ℕ → ℕ
times ticket tickets = length (filter (λ other. ticket == other) tickets)

-- tickets that rise
abbrev pub IsRising : List ℕ → Type 0
IsRising tickets = IsNonDecreasingBy (λ ticket. ticket) tickets

-- the tickets below one
abbrev pub below : ℕ → List ℕ → List ℕ
below ticket tickets = filter (λ other. nat_lt other ticket) tickets

-- those that aren't below it
abbrev pub not_below : ℕ → List ℕ → List ℕ
not_below ticket tickets = filter (λ other. not (nat_lt other ticket)) tickets

-- one more ticket at its place
abbrev pub put_in : ℕ → List ℕ → List ℕ
put_in ticket tickets = below ticket tickets ++ ticket ∷ not_below ticket tickets

-- without the first that isn't below the given one
abbrev pub taken_out : ℕ → List ℕ → List ℕ
taken_out ticket tickets = below ticket tickets ++ drop 1 (not_below ticket tickets)

-- a waiting command with so many fewer open waits
abbrev pub fewer : ℕ → Waiting → Waiting
fewer count w = record w { pending = w.pending - count }

-- whether there is one that waits for nothing
abbrev pub is_free : Option Waiting → Bool
is_free kept = option_map_or (λ (w : Waiting). w.pending == 0) kept false

-- the tickets below a number whose commands wait
abbrev pub kept_ones : (ℕ → Option Waiting) → ℕ → List ℕ
kept_ones kept n = filter (λ ticket. is_some (kept ticket)) (range_with_len 0 n)

-- those of them that wait for nothing
abbrev pub free_ones : (ℕ → Option Waiting) → ℕ → List ℕ
free_ones kept n = filter (λ ticket. is_free (kept ticket)) (range_with_len 0 n)

-- The released tickets are those below a number that wait for nothing, with room for all that wait.
pub record AreReleased (kept : ℕ → Option Waiting) (released : Tickets) (n : ℕ) : Type 0 where
  pub items : released.items.items ≡ free_ones kept n
  pub room : length (kept_ones kept n) ≤ deque_capacity released.items
  -- none has a greater number
  pub past : (ticket : ℕ) → n ≤ ticket → kept ticket ≡ None

-- what stands under a number has no list that is longer
abbrev pub AreWithin : {X : Type 0} → (X → List ℕ) → (ℕ → Option X) → ℕ → Type 0
AreWithin {X} own kept most = (number : ℕ) (x : X) → kept number ≡ Some x → length (own x) ≤ most

-- no waiting command has more followers than this
abbrev pub AreShort : (ℕ → Option Waiting) → ℕ → Type 0
AreShort = AreWithin (λ (w : Waiting). w.followers)

-- no slot has more readers than this
abbrev pub AreBrief : (ℕ → Option SlotUse) → ℕ → Type 0
AreBrief = AreWithin (λ (u : SlotUse). u.readers)
