-- How many tasks a half runs.
use Rattle.std.specs.Prelude.{ℕ, Bool, true, false, List}
use Rattle.std.specs.List.{count_by}
use Rattle.nim_command.specs.declared.entry.Entry.{Entry}
use Rattle.nim_command.specs.declared.entry.EntryKind.{EntryKind}

-- whether an entry runs a task
abbrev pub runs_task : EntryKind → Bool
runs_task (EntryKind.Run func params reads writes) = true
runs_task _ = false

-- how many of a half's entries do
abbrev pub tasks_in : List Entry → ℕ
tasks_in half = count_by (λ (e : Entry). runs_task e.kind) half
