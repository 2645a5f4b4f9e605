-- Some places of a list of commands are complete: which may be next, and what the slots hold.
use Rattle.std.specs.Prelude.{◌≡◌, ℕ, zero, suc, ◌<◌, ◌==◌, Bool, true, false, ◌&&◌, ◌||◌, if◌then◌else◌, List, [], ◌∷◌, ◌++◌, length, slice_get}
use Rattle.std.specs.List.{list_all, list_any}
use Rattle.std.specs.Option.{option_map_or}
use Rattle.nim_base.specs.declared.number.Slot.{Slot}
use Rattle.nim_command.specs.declared.command.Command.{Command}
use Rattle.nim_command.specs.Covered.{do_conflict, waits_at}
use Rattle.nim_command.specs.Slots.{does_touch, does_write}
use Rattle.nim_order.specs.Contents.{Leave, held_before}

-- whether the command at a place touches a slot
abbrev pub touches_at : List Command → ℕ → Slot → Bool
touches_at commands place slot =
    option_map_or (λ (c : Command). does_touch c.kind slot) (slice_get commands place) false

-- whether it writes the slot
abbrev pub writes_at : List Command → ℕ → Slot → Bool
writes_at commands place slot = option_map_or (λ (c : Command). does_write c.kind slot) (slice_get commands place) false

-- whether the commands at two places conflict
abbrev pub conflict_at : List Command → ℕ → ℕ → Bool
conflict_at commands earlier later =
    option_map_or (λ (e : Command). option_map_or (λ (l : Command). do_conflict e.kind l.kind)
    (slice_get commands later) false)
    (slice_get commands earlier)
    false

-- What a slot holds when of the first so many places just these are complete: what the last complete one that writes it
-- leaves when commands run in the order of their list.
abbrev pub held_below : {X : Type 0} → Leave X → (Slot → X) → List Command → (ℕ → Bool) → ℕ → Slot → X
held_below leave start commands done zero slot = start slot
held_below leave start commands done (suc place) slot =
    if done place && writes_at commands place slot then held_before leave start commands (suc place) slot
    else held_below leave start commands done place slot

-- what the slots hold when just these places are complete
abbrev pub held_when : {X : Type 0} → Leave X → (Slot → X) → List Command → (ℕ → Bool) → Slot → X
held_when leave start commands done = held_below leave start commands done (length commands)

-- all that a complete command waits for is complete
abbrev pub IsClosed : List Command → (ℕ → Bool) → Type 0
IsClosed commands done = (place : ℕ) → done place ≡ true → list_all done (waits_at commands place) ≡ true

-- a command isn't complete, and all that it waits for is
pub record IsReleasedAt (commands : List Command) (done : ℕ → Bool) (place : ℕ) : Type 0 where
  pub within : place < length commands
  pub waiting : done place ≡ false
  pub waits : list_all done (waits_at commands place) ≡ true

-- the place is complete too, and no other one more
abbrev pub GainsPlace : (ℕ → Bool) → ℕ → (ℕ → Bool) → Type 0
GainsPlace done place now = (other : ℕ) → now other ≡ (done other || (place == other))

-- whether a place is one of these
abbrev pub is_one_of : List ℕ → ℕ → Bool
is_one_of places place = list_any (λ other. other == place) places

-- behind places that are complete, the commands at others may run in this order: each is released when its turn comes
abbrev pub MayRun : List Command → List ℕ → List ℕ → Type 0
MayRun commands past [] = Unit {0}
MayRun commands past (place ∷ places) =
    IsReleasedAt commands (is_one_of past) place × MayRun commands (past ++ place ∷ []) places
