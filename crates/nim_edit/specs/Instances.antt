-- What an instance of a template may be asked for behind.
use Rattle.std.specs.Prelude.{◌≡◌, ℕ, true, ℤ, List}
use Rattle.nim_base.specs.declared.number.Worker.{Worker}
use Rattle.nim_command.specs.declared.command.Command.{Command}
use Rattle.nim_command.specs.declared.template.WorkerTemplate.{WorkerTemplate}
use Rattle.nim_job.specs.declared.job.Job.{Job}
use Rattle.nim_plan.specs.Legal.{AreLegal}
use Rattle.nim_place.specs.Stands.{MapStands, commands_for}
use Rattle.nim_place.specs.TaskOrders.{IsAt}
use Rattle.nim_place.specs.Versions.{Versions}
use Rattle.nim_template.specs.Again.{IsBefore, are_current}
use Rattle.nim_template.specs.Given.{AreTasksAt}
use Rattle.nim_template.specs.Instance.{instance_of}

-- From every map before the base in which the preconditions hold, and that stands for the commands so far, the commands
-- of an instance are legal behind these, worker by worker, for each job that is at the base and has the block's tasks
-- there.
abbrev pub InstancesAreLegal : ℕ → ℕ → WorkerTemplate → Type 0
InstancesAreLegal workers objects template =
    (job : Job) (base : ℕ) (args : List ℤ) (given : List (Worker × Command)) (versions : Versions)
    → MapStands given versions → IsBefore workers objects base versions
    → are_current versions template.preconditions ≡ true → IsAt job base versions
    → AreTasksAt job base args template → (worker : Worker)
    → AreLegal job (commands_for worker given) (commands_for worker (instance_of template base args versions))
