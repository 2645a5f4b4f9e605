-- The map at the start of an epoch, when each object was put once.
use Rattle.std.specs.Prelude.{◌≡◌, ℕ, ◌+◌, ◌<◌, List, [], ◌∷◌, length}
use Rattle.nim_base.specs.declared.number.Object.{Object}
use Rattle.nim_base.specs.declared.number.Worker.{Worker}
use Rattle.nim_command.specs.declared.command.Command.{Command}
use Rattle.nim_command.specs.Numbers.{main_slot}
use Rattle.nim_job.specs.declared.job.Job.{Job}
use Rattle.nim_job.specs.Objects.{objects_of}
use Rattle.nim_job.specs.Versions.{read_version}
use Rattle.nim_place.specs.TaskOrders.{IsAt}
use Rattle.nim_place.specs.Versions.{after_commands, no_versions, puts_of, version_of}

-- Commands of so many workers put a version of each object into its main slot, one object after another from a number
-- on.
abbrev pub PutEach : (Object → ℕ) → ℕ → ℕ → List (Worker × Command) → Type 0
PutEach version workers number [] = Unit {0}
PutEach version workers number (c ∷ cs) =
    let object : Object = record { 0 = number } in
    (c.0.0 < workers) × (puts_of c.1.kind ≡ main_slot object ∷ []) × (version_of c.1.kind ≡ version object)
    × PutEach version workers (number + 1) cs

-- Where the versions are those that the task at a position reads, the map is then at this position: 0, and what is
-- created or loaded, where an epoch begins with the job, or that of a checkpoint.
abbrev pub MapStarts : Type 0
MapStarts =
    (job : Job) (position workers : ℕ) (commands : List (Worker × Command)) → length commands ≡ objects_of job.vars
    → PutEach (read_version job position) workers 0 commands
    → IsAt job position (after_commands (no_versions workers (objects_of job.vars)) commands)
