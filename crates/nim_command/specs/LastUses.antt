-- Who used a slot last in a list: its last writer, and the readers since.
use Rattle.std.specs.Prelude.{◌≡◌, ⊤, ℕ, suc, ◌==◌, ◌≤◌, ◌<◌, Bool, false, not, ◌&&◌, ◌||◌, if◌then◌else◌, List, [], ◌∷◌, ◌++◌, length, Option, None, Some, slice_get, slice_index_or}
use Rattle.std.specs.List.{flat_map, list_any}
use Rattle.std.specs.Option.{option_map_or}
use Rattle.nim_base.specs.declared.number.Slot.{Slot}
use Rattle.nim_command.specs.declared.last_uses.LastUses.{LastUses}
use Rattle.nim_command.specs.declared.last_uses.SlotUse.{SlotUse}
use Rattle.nim_command.specs.Before.{Footprint, is_rewritten}
use Rattle.nim_command.specs.Slots.{is_among}

-- whether a place is one of these
abbrev pub is_in : ℕ → List ℕ → Bool
is_in place places = list_any (λ other. place == other) places

-- whether a place is that of the writer
abbrev pub is_writer : ℕ → Option ℕ → Bool
is_writer place writer = option_map_or (λ other. place == other) writer false

-- Whether the one at a place uses the slot in this way, reading or writing it, and none behind it writes it. Places are
-- counted from the first number.
abbrev pub is_last : (Footprint → List Slot) → ℕ → List Footprint → Slot → ℕ → Bool
is_last used from [] slot place = false
is_last used from (next ∷ rest) slot place =
    (place == from && (is_among (used next) slot && not (is_rewritten rest slot)))
    || is_last used (suc from) rest slot place

-- whether the one at a place of a list writes the slot, and none behind it does
abbrev pub is_last_writer : List Footprint → Slot → ℕ → Bool
is_last_writer past slot place = is_last (λ (f : Footprint). f.writes) 0 past slot place

-- whether the one at a place of a list reads the slot, and none behind it writes it
abbrev pub is_reader_since : List Footprint → Slot → ℕ → Bool
is_reader_since past slot place = is_last (λ (f : Footprint). f.reads) 0 past slot place

-- the use of a slot that nobody uses
abbrev pub nobody : Slot → SlotUse
nobody slot = record { slot = slot; writer = None; readers = [] }

-- the use of a slot that the one at a place writes
abbrev pub written : Slot → ℕ → SlotUse
written slot place = record { slot = slot; writer = Some place; readers = [] }

-- a use that the one at a place reads too
abbrev pub with_reader : ℕ → SlotUse → SlotUse
with_reader place u = record u { readers = u.readers ++ place ∷ [] }

-- a use, if it is that of the slot
abbrev pub own : Slot → SlotUse → SlotUse
own slot u = if u.slot.0 == slot.0 then u else nobody slot

-- the use of a slot, by the table of where each stands
abbrev pub use_in : List ℕ → List SlotUse → Slot → SlotUse
use_in at uses slot = own slot (slice_index_or uses (slice_index_or at slot.0 0) (nobody slot))

-- where the use of a slot would stand
abbrev pub place_of : LastUses → Slot → ℕ
place_of uses slot = slice_index_or uses.at.items slot.0 0

-- the use of a slot that is kept
abbrev pub use_of : LastUses → Slot → SlotUse
use_of uses slot = use_in uses.at.items uses.uses.items slot

-- a place where the use of a slot stands
pub record IsAt (uses : LastUses) (slot : Slot) (at : ℕ) : Type 0 where
  pub here : at ≡ place_of uses slot
  pub inside : at < length uses.uses.items
  pub own : (slice_index_or uses.uses.items at (nobody slot)).slot ≡ slot

-- the place of the last writer of a slot that is kept, if one is
abbrev pub writer_of : LastUses → Slot → Option ℕ
writer_of uses slot = (use_of uses slot).writer

-- those of the readers since, maybe more than once
abbrev pub readers_of : LastUses → Slot → List ℕ
readers_of uses slot = (use_of uses slot).readers

-- what is kept are the last uses of each slot by these
pub record IsPastOf (uses : LastUses) (past : List Footprint) : Type 0 where
  pub writers : (slot : Slot) (place : ℕ) → is_writer place (writer_of uses slot) ≡ is_last_writer past slot place
  pub since : (slot : Slot) (place : ℕ) → is_in place (readers_of uses slot) ≡ is_reader_since past slot place

-- whether the one at a place is the last writer of a slot that is touched, or reads one since that is written
abbrev pub is_last_user : LastUses → Footprint → ℕ → Bool
is_last_user uses later place =
    (list_any (λ slot. is_writer place (writer_of uses slot)) later.reads
    || list_any (λ slot. is_writer place (writer_of uses slot)) later.writes)
    || list_any (λ slot. is_in place (readers_of uses slot)) later.writes

-- places in order, each once, from a place on
abbrev pub Rises : ℕ → List ℕ → Type 0
Rises from [] = ⊤
Rises from (place ∷ places) = (from ≤ place) × Rises (suc place) places

-- the number at a place, where there is one
abbrev pub number_at : List Footprint → ℕ → List ℕ
number_at past place = option_map_or (λ (f : Footprint). f.number ∷ []) (slice_get past place) []

-- the numbers at places
abbrev pub numbers_at : List Footprint → List ℕ → List ℕ
numbers_at past places = flat_map (number_at past) places
