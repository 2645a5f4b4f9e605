-- Who uses each slot.
use Rattle.std.specs.Prelude.{ℕ, List, Option, None, slice_index_or}
use Rattle.nim_queue.specs.declared.slot_use.SlotUse.{SlotUse}

-- the use of a slot, by the list of all slots; those past the end have none
abbrev pub used_in : List (Option SlotUse) → ℕ → Option SlotUse
used_in slots slot = slice_index_or slots slot None
