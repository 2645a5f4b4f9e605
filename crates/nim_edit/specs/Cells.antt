-- What a half has under each number.
use Rattle.std.specs.Prelude.{ℕ, ◌==◌, if◌then◌else◌, List, [], ◌∷◌, Option, None, Some}
use Rattle.nim_command.specs.declared.entry.Entry.{Entry}
use Rattle.nim_command.specs.declared.entry.EntryKind.{EntryKind}

-- what the entry of a number does, if there is one
abbrev pub kind_at : List Entry → ℕ → Option EntryKind
kind_at [] number = None
kind_at (entry ∷ entries) number = if entry.id == number then Some entry.kind else kind_at entries number
