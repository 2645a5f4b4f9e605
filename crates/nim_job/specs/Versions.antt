-- Which content of an object a task reads.
use Rattle.std.specs.Prelude.{◌≡◌, ℕ, ◌+◌, ◌≤◌, ◌==◌, zero, suc, Bool, false, List, take, slice_get, if◌then◌else◌}
use Rattle.std.specs.List.{list_any}
use Rattle.std.specs.Option.{option_map_or}
use Rattle.nim_base.specs.declared.number.Object.{Object}
use Rattle.nim_base.specs.declared.task.Task.{Task}
use Rattle.nim_base.specs.Value.{Grid}
use Rattle.nim_job.specs.declared.job.Job.{Job}
use Rattle.nim_job.specs.Objects.{initial_values, shapes_of, value_at}
use Rattle.nim_job.specs.Serial.{driver_at, tasks_of}
use Rattle.nim_job.specs.Step.{after_tasks}

-- whether a task writes the object
abbrev pub is_written : Object → Task → Bool
is_written object task = list_any (λ (o : Object). o.0 == object.0) task.writes

-- Among the first k tasks: one more than the greatest position whose task writes the object, 0 where none does.
abbrev pub version_before : List Task → ℕ → Object → ℕ
version_before tasks zero object = 0
version_before tasks (suc k) object =
    if option_map_or (is_written object) (slice_get tasks k) false then k + 1 else version_before tasks k object

-- what the task at position k of a job reads of an object
abbrev pub read_version : Job → ℕ → Object → ℕ
read_version job k object = version_before (tasks_of job) k object

-- what all objects hold after the first v tasks of a job
abbrev pub values_after : Job → ℕ → List Grid
values_after job v = after_tasks (shapes_of job.vars) (initial_values job.vars) (take v (tasks_of job))

-- what an object holds after the first v tasks of a job: the content of that version, where it is one
abbrev pub version_value : Job → Object → ℕ → Grid
version_value job object v = value_at (values_after job v) object

-- Each object that each task reads holds, right before the task, the content of the version that it reads.
abbrev pub ReadsVersions : Job → Type 0
ReadsVersions job = (k : ℕ) (object : Object) → value_at (values_after job k) object
    ≡ version_value job object (read_version job k object)

-- After each step the objects hold what the first so many tasks leave, as many as ran.
abbrev pub KeepsVersions : Job → Type 0
KeepsVersions job = (n : ℕ) → n ≤ job.steps → (driver_at job n).values ≡ values_after job (driver_at job n).position
