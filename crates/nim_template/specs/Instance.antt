-- An instance of a template: the commands of its halves, and what they leave.
use Rattle.std.specs.Prelude.{◌≡◌, ℕ, ◌+◌, ◌^◌, ◌<◌, true, ℤ, List, [], slice_index_or}
use Rattle.nim_base.specs.declared.number.Worker.{Worker}
use Rattle.nim_command.specs.declared.command.Command.{Command}
use Rattle.nim_command.specs.declared.entry.Entry.{Entry}
use Rattle.nim_command.specs.declared.template.WorkerTemplate.{WorkerTemplate}
use Rattle.nim_place.specs.Sound.{commands_from}
use Rattle.nim_place.specs.Versions.{Versions, after_commands, after_effect, latest_of}
use Rattle.nim_template.specs.Again.{IsBefore, are_current}

-- the half of the worker with a number
abbrev pub half_of : WorkerTemplate → ℕ → List Entry
half_of template number = slice_index_or template.halves number []

-- The commands of an instance, worker by worker. What the block began with is received in the version that is the
-- latest in the map.
abbrev pub instance_of : WorkerTemplate → ℕ → List ℤ → Versions → List (Worker × Command)
instance_of template base args versions = commands_from (latest_of versions) base args 0 template.halves

-- From every map before the base in which the preconditions hold, these commands leave what the effect says.
abbrev pub LeavesEffect : ℕ → ℕ → WorkerTemplate → Type 0
LeavesEffect workers objects template =
    (base : ℕ) (args : List ℤ) (versions : Versions) → IsBefore workers objects base versions → base + 1024 < 2 ^ 64
    → are_current versions template.preconditions ≡ true
    → after_effect base versions template.effect ≡ after_commands versions (instance_of template base args versions)
