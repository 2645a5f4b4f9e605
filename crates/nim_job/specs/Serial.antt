-- What a job means: its tasks run one by one in program order.
use Rattle.std.specs.Prelude.{ℕ, zero, suc, Bool, true, false, not, ◌||◌, nat_lt, List, [], ◌∷◌, ◌++◌, length, if◌then◌else◌}
use Rattle.nim_base.specs.declared.task.Task.{Task}
use Rattle.nim_job.specs.declared.item.Item.{Item}
use Rattle.nim_job.specs.declared.job.Job.{Job}
use Rattle.nim_job.specs.Driver.{output_limit}
use Rattle.nim_job.specs.Step.{State, start, step, tasks_next}

-- the state after so many steps
unfoldable pub driver_at : Job → ℕ → State
driver_at job zero = start job
driver_at job (suc n) = step job (driver_at job n)

-- how a run ends: its status, and the bytes that it prints
pub record Ending : Type 0 where
  pub status : ℕ
  pub bytes : List ℕ

-- nothing is left
abbrev pub is_nil : List Item → Bool
is_nil [] = true
is_nil (item ∷ items) = false

-- items are left when the most statements are counted, or too much was printed
abbrev pub is_limit : State → Bool
is_limit state = not (is_nil state.driver.todo) || nat_lt output_limit (length state.driver.output)

-- a limit is status 4 and prints nothing; else the status is 0, and the output is that at the end
abbrev pub ending_of : State → Ending
ending_of state =
    if is_limit state then record { status = 4; bytes = [] } else record { status = 0; bytes = state.driver.output }

-- the status and the bytes of a job
abbrev pub serial_of : Job → Ending
serial_of job = ending_of (driver_at job job.steps)

-- the tasks of the first so many steps, in the order in which they run
unfoldable pub tasks_before : Job → ℕ → List Task
tasks_before job zero = []
tasks_before job (suc n) = tasks_before job n ++ tasks_next job (driver_at job n)

-- all tasks of a job, in program order; the place of a task in this list is its position
abbrev pub tasks_of : Job → List Task
tasks_of job = tasks_before job job.steps
