-- What a task's commands keep true of the orders so far: those that ask for what the map of versions stands for.
use Rattle.std.specs.Prelude.{◌≡◌, ℕ, ◌+◌, ◌^◌, ◌<◌, ◌≤◌, ◌==◌, Bool, true, ◌&&◌, if◌then◌else◌, List, ◌++◌, length, Some, slice_get}
use Rattle.std.specs.Option.{is_some}
use Rattle.nim_base.specs.declared.number.Object.{Object}
use Rattle.nim_base.specs.declared.number.Worker.{Worker}
use Rattle.nim_base.specs.declared.task.Task.{Task}
use Rattle.nim_command.specs.declared.command.Command.{Command}
use Rattle.nim_command.specs.Numbers.{task_of}
use Rattle.nim_message.specs.declared.order.ToWorker.{ToWorker}
use Rattle.nim_job.specs.declared.job.Job.{Job}
use Rattle.nim_job.specs.Objects.{objects_of}
use Rattle.nim_job.specs.Serial.{tasks_of}
use Rattle.nim_job.specs.Versions.{read_version}
use Rattle.nim_job.specs.Whole.{is_whole}
use Rattle.nim_plan.specs.Paired.{Key}
use Rattle.nim_place.specs.Extends.{AskFor, LongerIsCovered, LongerIsLegal, LongerIsPaired, longer, singles_of}
use Rattle.nim_place.specs.Schedule.{is_one_of}
use Rattle.nim_place.specs.Stands.{MapStands}
use Rattle.nim_place.specs.Versions.{Versions, holder, is_current, latest_of}

-- A map of versions is at a position of a job: it has the job's objects, some worker holds the latest version of each,
-- and this is the one that the task at the position reads.
pub record IsAt (job : Job) (position : ℕ) (versions : Versions) : Type 0 where
  pub objects : versions.objects ≡ objects_of job.vars
  pub holders : (object : Object) → object.0 < versions.objects → is_some (holder versions object) ≡ true
  pub latest : (object : Object) → object.0 < versions.objects
      → latest_of versions object ≡ read_version job position object

-- a whole job has this task at this position
pub record IsTaskAt (job : Job) (position : ℕ) (task : Task) : Type 0 where
  pub whole : is_whole job ≡ true
  pub there : slice_get (tasks_of job) position ≡ Some task

-- Orders so far ask for commands that a map stands for.
pub record AreSoFar (live : List Bool) (epoch : ℕ) (lists : ℕ → List ToWorker)
    (given : List (Worker × Command)) (versions : Versions) : Type 0 where
  pub stands : MapStands given versions
  pub ask : AskFor live epoch lists given

-- With Singles of a task's commands the orders ask for these too.
abbrev pub AsksForMore : Versions → List Bool → List (Worker × Command) → Type 0
AsksForMore versions live commands =
    (epoch instance : ℕ) (lists : ℕ → List ToWorker) (given : List (Worker × Command))
    → AreSoFar live epoch lists given versions
    → AskFor live epoch (longer lists (singles_of epoch instance commands)) (given ++ commands)

-- Legal lists stay legal with Singles of a task's commands, for every job whose task it is.
abbrev pub StaysLegal : Versions → List Bool → Task → ℕ → List (Worker × Command) → Type 0
StaysLegal versions live task position commands =
    (job : Job) (epoch instance : ℕ) (lists : ℕ → List ToWorker) (given : List (Worker × Command))
    → AreSoFar live epoch lists given versions → IsAt job position versions → IsTaskAt job position task
    → LongerIsLegal job live lists (singles_of epoch instance commands)

-- Covered lists stay covered.
abbrev pub StaysCovered : List (Worker × Command) → Type 0
StaysCovered commands =
    (epoch instance : ℕ) (lists : ℕ → List ToWorker) → LongerIsCovered lists (singles_of epoch instance commands)

-- whether a key is of a task of an instance
abbrev pub is_key_of : ℕ → ℕ → ℕ → Key → Bool
is_key_of epoch instance number key =
    (key.epoch == epoch) && (key.instance == instance) && (task_of key.entry == number)

-- Paired lists stay paired: each new key is one of this task of this instance.
abbrev pub StaysPaired : Versions → List Bool → Task → ℕ → List (Worker × Command) → Type 0
StaysPaired versions live task number commands =
    (epoch instance : ℕ) (lists : ℕ → List ToWorker) (given : List (Worker × Command))
    → AreSoFar live epoch lists given versions → length task.reads ≤ 8
    → LongerIsPaired (is_key_of epoch instance number) live lists (singles_of epoch instance commands)

-- A task that writes was run where no version is past its position.
pub record IsRunAt (before after : Versions) (owner : Worker) (task : Task) (position : ℕ) : Type 0 where
  -- the map has the workers and objects that it had
  pub workers : after.workers ≡ before.workers
  pub objects : after.objects ≡ before.objects
  -- the latest version of what it writes is the next one, that of each other object stays
  pub latest : (object : Object) → object.0 < before.objects → latest_of before object ≤ position
      → latest_of after object ≡ (if is_one_of task.writes object then position + 1 else latest_of before object)
  -- the owner holds the latest version of what it writes
  pub written : (object : Object) → object.0 < before.objects → latest_of before object ≤ position
      → is_one_of task.writes object ≡ true → is_current after object owner ≡ true
  -- what some worker holds some worker holds still
  pub holders : (object : Object) → object.0 < before.objects → latest_of before object ≤ position
      → is_some (holder before object) ≡ true → is_some (holder after object) ≡ true

-- So it is where the map stands for the commands so far.
abbrev pub RunsAt : Versions → Versions → Worker → Task → ℕ → Type 0
RunsAt before after owner task position =
    (given : List (Worker × Command)) → MapStands given before → position + 1 < 2 ^ 64
    → IsRunAt before after owner task position

-- Behind a task's commands the map is at the next position of each job whose task it is.
abbrev pub ComesToNext : Versions → Versions → Task → ℕ → Type 0
ComesToNext before after task position =
    (job : Job) (given : List (Worker × Command)) → MapStands given before → IsAt job position before
    → IsTaskAt job position task → IsAt job (position + 1) after
