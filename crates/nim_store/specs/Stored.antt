-- What a worker keeps in its slots.
use Rattle.std.specs.Prelude.{◌<◌, List, length, Option, None, slice_index_or}
use Rattle.nim_base.specs.declared.number.Shape.{Shape}
use Rattle.nim_base.specs.declared.number.Slot.{Slot}
use Rattle.nim_store.specs.declared.held.Held.{Held}

-- the shapes of all objects, and the slots by their numbers; those past the end are empty
pub record Stored : Type 0 where
  pub shapes : List Shape
  pub slots : List (Option Held)

-- what a list of slots has at a slot
abbrev pub slot_content : List (Option Held) → Slot → Option Held
slot_content slots slot = slice_index_or slots slot.0 None

-- what a slot has
abbrev pub slot_at : Stored → Slot → Option Held
slot_at stored = slot_content stored.slots

-- a slot has a place in memory, so that a put into it needs no other
abbrev pub HasPlace : Stored → Slot → Type 0
HasPlace stored slot = slot.0 < length stored.slots

-- each slot that had a place has one still
abbrev pub KeepsPlaces : Stored → Stored → Type 0
KeepsPlaces old new = (slot : Slot) → HasPlace old slot → HasPlace new slot
