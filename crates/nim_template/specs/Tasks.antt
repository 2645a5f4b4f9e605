-- What an instance of a block asks for is what single scheduling gives its tasks.
use Rattle.std.specs.Prelude.{◌≡◌, ℕ, ◌+◌, ◌^◌, ◌<◌, nat_lt, Bool, true, ℤ, List, [], ◌∷◌, ◌++◌, length, map, slice_index_or}
use Rattle.std.specs.List.{filter}
use Rattle.nim_base.specs.declared.number.Worker.{Worker}
use Rattle.nim_base.specs.declared.task.Task.{Task}
use Rattle.nim_base.specs.declared.task.TaskForm.{TaskForm}
use Rattle.nim_command.specs.declared.command.Command.{Command}
use Rattle.nim_command.specs.declared.template.WorkerTemplate.{WorkerTemplate}
use Rattle.nim_command.specs.Expansion.{expanded, param_with}
use Rattle.nim_command.specs.Numbers.{counted_from}
use Rattle.nim_place.specs.declared.placement.Placement.{Placement}
use Rattle.nim_place.specs.Schedule.{scheduled}
use Rattle.nim_place.specs.Stands.{commands_for}
use Rattle.nim_place.specs.Versions.{Versions, after_commands}
use Rattle.nim_template.specs.Again.{IsBefore, are_current}

-- a form as a task of an instance, the arguments put in
abbrev pub task_with : List ℤ → TaskForm → Task
task_with args form =
    record { func = form.func; params = map (param_with args) form.params; reads = form.reads; writes = form.writes }

-- the commands that single scheduling gives the tasks of a block at a base, from one of this number and from a map on
abbrev pub scheduled_from : Placement → List Bool → ℕ → List ℤ → ℕ → Versions → List TaskForm → List (Worker × Command)
scheduled_from place live base args number versions [] = []
scheduled_from place live base args number versions (form ∷ forms) =
    let commands : List (Worker × Command) =
    scheduled versions (task_with args form) number (counted_from base number) place live in
    commands ++ scheduled_from place live base args (number + 1) (after_commands versions commands) forms

-- a command, its before set aside: that of a half is made for the half as a whole
abbrev pub without_before : Command → Command
without_before command = record { id = command.id; kind = command.kind; before = [] }

-- those of tasks, whose numbers are below those of closing copies
abbrev pub of_tasks : List Command → List Command
of_tasks commands = filter (λ (c : Command). nat_lt c.id 65536) (map without_before commands)

-- From every map before the base in which the preconditions hold, an instance of the template asks each worker for just
-- the commands that single scheduling gives the block's tasks there, before its closing copies.
abbrev pub DoTasks : Placement → List Bool → ℕ → WorkerTemplate → Type 0
DoTasks place live objects template =
    (base : ℕ) (args : List ℤ) (versions : Versions) → IsBefore (length live) objects base versions
    → base + 1024 < 2 ^ 64
    → are_current versions template.preconditions ≡ true → (worker : Worker) → worker.0 < length live
    → of_tasks (expanded base args [] 0 (slice_index_or template.halves worker.0 []))
    ≡ map without_before (commands_for worker (scheduled_from place live base args 0 versions template.forms))
