-- What slots hold when commands run. The contents may be of any kind: versions, values, both.
use Rattle.std.specs.Prelude.{◌≡◌, ℕ, zero, suc, true, false, List, [], ◌∷◌, slice_get}
use Rattle.std.specs.Option.{option_map_or}
use Rattle.nim_base.specs.declared.number.Slot.{Slot}
use Rattle.nim_command.specs.declared.command.Command.{Command}
use Rattle.nim_command.specs.Slots.{does_touch, does_write}

-- what a command leaves in the slots, from what they held before it
abbrev pub Leave : Type 0 → Type 0
Leave X = Command → (Slot → X) → Slot → X

-- A command leaves all slots as they were but those that it writes, and what it leaves in these depends on nothing but
-- the slots that it touches.
pub record IsLocal {X : Type 0} (leave : Leave X) : Type 0 where
  pub keeps : (command : Command) (before : Slot → X) (slot : Slot) → does_write command.kind slot ≡ false
      → leave command before slot ≡ before slot
  pub depends : (command : Command) (first second : Slot → X)
      → ((touched : Slot) → does_touch command.kind touched ≡ true → first touched ≡ second touched)
      → (slot : Slot) → does_write command.kind slot ≡ true → leave command first slot ≡ leave command second slot

-- what the command at a place leaves, if there is one
abbrev pub left_at : {X : Type 0} → Leave X → List Command → ℕ → (Slot → X) → Slot → X
left_at {X} leave commands place before =
    option_map_or (λ (c : Command). leave c before) (slice_get commands place) before

-- what the slots hold before a place, when commands run in the order of their list from what the slots hold at first
abbrev pub held_before : {X : Type 0} → Leave X → (Slot → X) → List Command → ℕ → Slot → X
held_before leave start commands zero = start
held_before leave start commands (suc place) = left_at leave commands place (held_before leave start commands place)

-- what the slots hold once the commands at these places have run, one after another
abbrev pub held_after : {X : Type 0} → Leave X → List Command → List ℕ → (Slot → X) → Slot → X
held_after leave commands [] now = now
held_after leave commands (place ∷ places) now = held_after leave commands places (left_at leave commands place now)
