-- The slots of a worker: which object each is of, and which of them a command reads and writes.
use Rattle.std.specs.Prelude.{◌%◌, ◌==◌, Bool, ◌||◌, List, [], ◌∷◌}
use Rattle.std.specs.List.{list_any}
use Rattle.nim_base.specs.declared.number.Object.{Object}
use Rattle.nim_base.specs.declared.number.Slot.{Slot}
use Rattle.nim_command.specs.declared.command.Kind.{Kind}
use Rattle.nim_command.specs.declared.entry.EntryKind.{EntryKind}
use Rattle.nim_command.specs.declared.command.Kind.TheVariants.{Create, Load, Send, Receive, Copy, Run, Fetch}

-- Slot s and slot 512 + s are of one object, the main slot and the scratch slot.
abbrev pub object_of : Slot → Object
object_of slot = record { 0 = slot.0 % 512 }

-- the slots that a command reads
abbrev pub reads_of : Kind → List Slot
reads_of (Send slot peer entry) = slot ∷ []
reads_of (Copy from to) = from ∷ []
reads_of (Run position func params reads writes) = reads
reads_of (Fetch slot ticket) = slot ∷ []
reads_of _ = []

-- the slots that a command writes
abbrev pub writes_of : Kind → List Slot
writes_of (Create slot iota number) = slot ∷ []
writes_of (Load slot version value) = slot ∷ []
writes_of (Receive slot version) = slot ∷ []
writes_of (Copy from to) = to ∷ []
writes_of (Run position func params reads writes) = writes
writes_of _ = []

-- the slots that an entry reads
abbrev pub entry_reads : EntryKind → List Slot
entry_reads (EntryKind.Send slot peer entry) = slot ∷ []
entry_reads (EntryKind.Copy from to) = from ∷ []
entry_reads (EntryKind.Run func params reads writes) = reads
entry_reads (EntryKind.Receive slot offset) = []

-- the slots that an entry writes
abbrev pub entry_writes : EntryKind → List Slot
entry_writes (EntryKind.Receive slot offset) = slot ∷ []
entry_writes (EntryKind.Copy from to) = to ∷ []
entry_writes (EntryKind.Run func params reads writes) = writes
entry_writes (EntryKind.Send slot peer entry) = []

-- whether a slot is one of these
abbrev pub is_among : List Slot → Slot → Bool
is_among slots slot = list_any (λ (s : Slot). s.0 == slot.0) slots

-- whether a command reads, writes, touches a slot
abbrev pub does_read : Kind → Slot → Bool
does_read kind slot = is_among (reads_of kind) slot

-- whether a slot is among those that a command writes
abbrev pub does_write : Kind → Slot → Bool
does_write kind slot = is_among (writes_of kind) slot

-- whether a command reads a slot, writes it, or both
abbrev pub does_touch : Kind → Slot → Bool
does_touch kind slot = does_read kind slot || does_write kind slot
