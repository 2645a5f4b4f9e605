-- What a half receives as its block began with it: an order for an instance names the versions of these objects.
use Rattle.std.specs.Prelude.{◌==◌, if◌then◌else◌, List, [], ◌∷◌}
use Rattle.std.specs.List.{flat_map}
use Rattle.nim_base.specs.declared.number.Object.{Object}
use Rattle.nim_command.specs.declared.entry.Entry.{Entry}
use Rattle.nim_command.specs.declared.entry.EntryKind.{EntryKind}
use Rattle.nim_command.specs.Slots.{object_of}

-- the object that an entry receives as the block began with it
abbrev pub object_received : EntryKind → List Object
object_received (EntryKind.Receive slot offset) = if offset == 0 then object_of slot ∷ [] else []
object_received _ = []

-- those that a half receives, in its order
abbrev pub received_in : List Entry → List Object
received_in half = flat_map (λ (e : Entry). object_received e.kind) half
