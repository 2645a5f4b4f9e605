-- Entries and commands with the before sets of the rule.
use Rattle.std.specs.Prelude.{List, [], ◌∷◌, ◌++◌}
use Rattle.nim_command.specs.declared.command.Command.{Command}
use Rattle.nim_command.specs.declared.entry.Entry.{Entry}
use Rattle.nim_command.specs.Before.{Footprint, before_of, footprint_of}
use Rattle.nim_command.specs.Slots.{entry_reads, entry_writes}

-- what an entry's before set depends on
abbrev pub entry_footprint : Entry → Footprint
entry_footprint entry = record { number = entry.id; reads = entry_reads entry.kind; writes = entry_writes entry.kind }

-- entries behind others, each with the before set of the rule in place of its own
abbrev pub entries_by_rule : List Footprint → List Entry → List Entry
entries_by_rule past [] = []
entries_by_rule past (entry ∷ entries) =
    record entry { before = before_of past (entry_footprint entry) }
    ∷ entries_by_rule (past ++ entry_footprint entry ∷ []) entries

-- the same of commands
abbrev pub commands_by_rule : List Footprint → List Command → List Command
commands_by_rule past [] = []
commands_by_rule past (command ∷ commands) =
    record command { before = before_of past (footprint_of command) }
    ∷ commands_by_rule (past ++ footprint_of command ∷ []) commands
