-- Which tasks commands run, and where.
use Rattle.std.specs.Prelude.{◌≡◌, ℕ, ◌+◌, ◌==◌, nat_le, nat_lt, Bool, ◌&&◌, if◌then◌else◌, List, [], ◌∷◌, IfSome, slice_get}
use Rattle.std.specs.List.{count_by, list_any}
use Rattle.nim_base.specs.declared.number.Worker.{Worker}
use Rattle.nim_base.specs.declared.task.Task.{Task}
use Rattle.nim_command.specs.declared.command.Command.{Command}
use Rattle.nim_command.specs.declared.command.Kind.{Kind}
use Rattle.nim_command.specs.declared.command.Kind.TheVariants.{Run}
use Rattle.nim_job.specs.declared.job.Job.{Job}
use Rattle.nim_job.specs.Objects.{objects_of}
use Rattle.nim_job.specs.Serial.{tasks_of}
use Rattle.nim_place.specs.declared.placement.Placement.{Placement}
use Rattle.nim_place.specs.Schedule.{owner_of}

-- the position of a Run
abbrev pub position_run : Kind → List ℕ
position_run (Run position func params reads writes) = position ∷ []
position_run kind = []

-- a Run is of the job's task at its position, and stands at this task's home
abbrev pub RunsAtHome : Job → Placement → List Bool → Worker → Kind → Type 0
RunsAtHome job place live worker (Run position func params reads writes) =
    IfSome (slice_get (tasks_of job) position)
    (λ (task : Task). worker ≡ owner_of place task (objects_of job.vars) live)
RunsAtHome job place live worker kind = Unit {0}

-- how many commands run the task at a position
abbrev pub times_run : ℕ → List (Worker × Command) → ℕ
times_run position commands =
    count_by (λ (one : Worker × Command). list_any (λ (p : ℕ). p == position) (position_run one.1.kind)) commands

-- Of so many positions from one on each is run once, and no other is run.
abbrev pub AreRunOnce : ℕ → ℕ → List (Worker × Command) → Type 0
AreRunOnce first count commands =
    (position : ℕ) → times_run position commands
    ≡ (if nat_le first position && nat_lt position (first + count) then 1 else 0)
