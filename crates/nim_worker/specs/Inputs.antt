-- What a Run takes out of the slots while its batch is out.
use Rattle.std.specs.Prelude.{◌≡◌, ℕ, ◌==◌, ℤ, List, [], ◌∷◌, ◌++◌, Bool, true, map, Option, All, Box}
use Rattle.std.specs.Option.{option_map, option_map_or}
use Rattle.std.specs.declared.alloc.Global.{Global}
use Rattle.nim_base.specs.declared.number.Object.{Object}
use Rattle.nim_base.specs.declared.number.Shape.{Shape}
use Rattle.nim_base.specs.declared.number.Slot.{Slot}
use Rattle.nim_base.specs.Functions.{read_values}
use Rattle.nim_base.specs.Value.{Grid, empty_grid}
use Rattle.nim_command.specs.Holds.{put_at}
use Rattle.nim_command.specs.Slots.{is_among, object_of}
use Rattle.nim_store.specs.declared.held.Held.{Held}
use Rattle.nim_history.specs.Kept.{content_seen, fitting_shape, held_or_empty}
use Rattle.nim_worker.specs.declared.inputs.Inputs.{Inputs}
use Rattle.nim_worker.specs.declared.inputs.Taken.{Taken}

-- what was taken out of a slot: nothing, or a content with its value
abbrev pub held_of : Taken → Grid → Option Held
held_of taken value = option_map (λ (content : Object × ℕ). record
    { object = content.0; version = content.1; value = value }) taken.content

-- the slots once all that was taken is given back
abbrev pub given_back : List Taken → List Grid → (Slot → Option Held) → Slot → Option Held
given_back (taken ∷ more) (value ∷ values) now = put_at taken.slot (held_of taken value) (given_back more values now)
given_back _ _ now = now

-- whether something was taken from this slot
abbrev pub is_from : Slot → Taken → Bool
is_from slot taken = slot.0 == taken.slot.0

-- what a slot that was emptied is read as
abbrev pub content_of : Taken → Object × ℕ
content_of taken = option_map_or (λ (content : Object × ℕ). content) taken.content (object_of taken.slot, 0)

-- what was taken of an empty slot is a value without rows
abbrev pub AreSeen : List Taken → List Grid → Type 0
AreSeen (taken ∷ more) (value ∷ values) =
    (option_map_or (λ (held : Held). held.value) (held_of taken value) empty_grid ≡ value) × AreSeen more values
AreSeen _ _ = Unit {0}

-- a list goes on with these
abbrev pub Continues : {X : Type 0} → List X → List X → Type 0
Continues {X} before after = (more : List X) × (after ≡ before ++ more)

-- all that was taken was taken from these slots
abbrev pub AreAmong : List Slot → List Taken → Type 0
AreAmong slots taken = All (λ (t : Taken). is_among slots t.slot ≡ true) taken

-- nothing was taken
pub record IsIdle (inputs : Inputs) : Type 0 where
  pub params : inputs.params.items ≡ []
  pub taken : inputs.taken.items ≡ []
  pub values : inputs.values.items ≡ []
  pub places : inputs.places.items ≡ []
  pub contents : inputs.contents.items ≡ []
  pub shapes : inputs.shapes.items ≡ []

-- nothing was taken by any of these
abbrev pub AreIdle : List (Box Inputs Global) → Type 0
AreIdle all = All (λ (inputs : Box Inputs Global). IsIdle inputs.value) all

-- The inputs of a task with these parameters that reads and writes these slots, taken out of slots that had this before
-- and have that now.
pub record AreInputs (all : List Shape) (numbers : List ℤ) (reads writes : List Slot) (before now : Slot → Option Held)
    (inputs : Inputs) : Type 0 where
  pub params : inputs.params.items ≡ numbers
  pub back : given_back inputs.taken.items inputs.values.items now ≡ before
  pub among : AreAmong reads inputs.taken.items
  pub values : read_values inputs.values.items inputs.places.items
      ≡ map (λ slot. (held_or_empty before slot).value) reads
  pub contents : inputs.contents.items ≡ map (content_seen before) reads
  pub shapes : inputs.shapes.items ≡ map (fitting_shape all) writes
