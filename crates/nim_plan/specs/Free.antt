-- Which slots count for the waits of a command, on the walk down from it.
use Rattle.std.specs.Prelude.{ℕ, ◌==◌, Bool, not, ◌&&◌, ◌||◌, if◌then◌else◌, List, ◌++◌, filter}
use Rattle.std.specs.List.{list_any}
use Rattle.nim_base.specs.declared.number.Slot.{Slot}
use Rattle.nim_command.specs.declared.command.Command.{Command}
use Rattle.nim_command.specs.declared.command.Kind.{Kind}
use Rattle.nim_command.specs.Slots.{does_write, is_among, reads_of, writes_of}
use Rattle.nim_command.specs.Waits.{Member, is_written_by}

-- the slots that a command touches
abbrev pub touched_by : Kind → List Slot
touched_by kind = reads_of kind ++ writes_of kind

-- those that a command does not write
abbrev pub kept_free : Kind → List Slot → List Slot
kept_free kind slots = filter (λ slot. not (does_write kind slot)) slots

-- the slots that a command touches and none of those between writes
abbrev pub free_slots : List Member → Kind → List Slot
free_slots between kind = filter (λ slot. not (is_written_by between slot)) (touched_by kind)

-- whether a free slot is one of these
abbrev pub has_free : List Slot → List Slot → Bool
has_free free slots = list_any (is_among free) slots

-- whether a free slot is one of these and is written
abbrev pub has_rewritten : List Slot → Kind → List Slot → Bool
has_rewritten free kind slots = list_any (λ slot. is_among free slot && does_write kind slot) slots

-- whether a command names another one by its number
abbrev pub does_name : Command → ℕ → Bool
does_name command id = list_any (λ number. number == id) command.before

-- whether a command waits for an earlier one while these slots are free
abbrev pub is_waited_free : Member → List Slot → Member → Bool
is_waited_free earlier free later =
    if earlier.group == later.group then does_name later.command earlier.command.id
    else (has_free free (writes_of earlier.command.kind)
    || has_rewritten free later.command.kind (reads_of earlier.command.kind))
