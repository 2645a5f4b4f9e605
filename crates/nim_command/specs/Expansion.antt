-- The commands that an instance of a block and a run of a patch stand for.
use Rattle.std.specs.Prelude.{ℕ, ◌+◌, ◌==◌, Bool, false, if◌then◌else◌, ℤ, pos, List, [], ◌∷◌, map, slice_index_or}
use Rattle.nim_base.specs.declared.task.Param.{Param}
use Rattle.nim_base.specs.declared.task.Param.TheVariants.{Const, Arg}
use Rattle.nim_command.specs.declared.command.Command.{Command}
use Rattle.nim_command.specs.declared.command.Kind.{Kind}
use Rattle.nim_command.specs.declared.edit.PatchPart.{PatchPart}
use Rattle.nim_command.specs.declared.entry.Entry.{Entry}
use Rattle.nim_command.specs.declared.entry.EntryKind.{EntryKind}
use Rattle.nim_command.specs.Numbers.{counted_from, main_slot, patch_number, task_of}
use Rattle.nim_command.specs.Ruled.{commands_by_rule}

-- a parameter with the arguments put in; a missing argument is 0
abbrev pub param_with : List ℤ → Param → ℤ
param_with args (Const number) = number
param_with args (Arg place) = slice_index_or args place (pos 0)

-- the version that is received: for offset 0 the one that the order names, else counted from the base
abbrev pub version_at : ℕ → ℕ → ℕ → ℕ
version_at base named offset = if offset == 0 then named else counted_from base offset

-- what an entry does in an instance
abbrev pub kind_for : ℕ → List ℤ → ℕ → ℕ → EntryKind → Kind
kind_for base args named number (EntryKind.Send slot peer entry) = Kind.Send slot peer entry
kind_for base args named number (EntryKind.Receive slot offset) = Kind.Receive slot (version_at base named offset)
kind_for base args named number (EntryKind.Copy from to) = Kind.Copy from to
kind_for base args named number (EntryKind.Run func params reads writes) =
    Kind.Run (counted_from base (task_of number)) func (map (param_with args) params) reads writes

-- whether an entry takes the next of the versions that the order names
abbrev pub takes_version : EntryKind → Bool
takes_version (EntryKind.Receive slot offset) = offset == 0
takes_version _ = false

-- how many versions are taken once an entry has its own
abbrev pub taken_after : ℕ → EntryKind → ℕ
taken_after taken kind = if takes_version kind then taken + 1 else taken

-- the command of an entry
abbrev pub command_for : ℕ → List ℤ → ℕ → Entry → Command
command_for base args named entry =
    record { id = entry.id; kind = kind_for base args named entry.id entry.kind; before = entry.before }

-- The commands of entries once so many versions are taken: with the position of the block's task 0, the arguments,
-- and the versions that the order names. A missing version is 0.
abbrev pub expanded : ℕ → List ℤ → List ℕ → ℕ → List Entry → List Command
expanded base args versions taken [] = []
expanded base args versions taken (entry ∷ entries) =
    command_for base args (slice_index_or versions taken 0) entry
    ∷ expanded base args versions (taken_after taken entry.kind) entries

-- what one end of a copy does, with the version that the order names for it
abbrev pub part_kind : ℕ → PatchPart → Kind
part_kind named part =
    if part.receives then Kind.Receive (main_slot part.object) named
    else Kind.Send (main_slot part.object) part.peer (patch_number part.number)

-- how many versions are taken once a copy has its own
abbrev pub taken_past : ℕ → PatchPart → ℕ
taken_past taken part = if part.receives then taken + 1 else taken

-- one end of a copy as a command, its before set aside
abbrev pub command_of : ℕ → PatchPart → Command
command_of named part = record { id = patch_number part.number; kind = part_kind named part; before = [] }

-- the commands of a patch's copies
abbrev pub copied : List ℕ → ℕ → List PatchPart → List Command
copied versions taken [] = []
copied versions taken (part ∷ parts) =
    command_of (slice_index_or versions taken 0) part ∷ copied versions (taken_past taken part) parts

-- the commands of a patch
abbrev pub patch_commands : List ℕ → List PatchPart → List Command
patch_commands versions parts = commands_by_rule [] (copied versions 0 parts)
