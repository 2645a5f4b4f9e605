-- An instance runs each task of its block once, at the task's home.
use Rattle.std.specs.Prelude.{◌≡◌, ℕ, ◌+◌, ◌^◌, ◌<◌, Bool, true, ℤ, List, length, All}
use Rattle.nim_base.specs.declared.number.Worker.{Worker}
use Rattle.nim_command.specs.declared.command.Command.{Command}
use Rattle.nim_command.specs.declared.template.WorkerTemplate.{WorkerTemplate}
use Rattle.nim_job.specs.declared.job.Job.{Job}
use Rattle.nim_job.specs.Objects.{objects_of}
use Rattle.nim_place.specs.declared.placement.Placement.{Placement}
use Rattle.nim_place.specs.TaskRuns.{AreRunOnce, RunsAtHome}
use Rattle.nim_place.specs.Versions.{Versions}
use Rattle.nim_template.specs.Again.{IsBefore, are_current}
use Rattle.nim_template.specs.Given.{AreTasksAt}
use Rattle.nim_template.specs.Instance.{instance_of}

-- The commands of an instance run the positions of its block's tasks, each once; and where these are a job's tasks,
-- each
-- at its home.
pub record IsRun (place : Placement) (live : List Bool) (objects : ℕ) (template : WorkerTemplate) (base : ℕ)
    (args : List ℤ) (versions : Versions) : Type 0 where
  pub once : AreRunOnce base (length template.forms) (instance_of template base args versions)
  pub homes : (job : Job) → AreTasksAt job base args template → objects ≡ objects_of job.vars
      → All (λ (one : Worker × Command). RunsAtHome job place live one.0 one.1.kind)
      (instance_of template base args versions)

-- So it does from every map before the base in which the preconditions hold.
abbrev pub RunTasks : Placement → List Bool → ℕ → WorkerTemplate → Type 0
RunTasks place live objects template =
    (base : ℕ) (args : List ℤ) (versions : Versions) → IsBefore (length live) objects base versions
    → base + 1024 < 2 ^ 64 → are_current versions template.preconditions ≡ true
    → IsRun place live objects template base args versions
