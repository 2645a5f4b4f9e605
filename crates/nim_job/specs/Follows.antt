-- How a machine follows the steps of a job, from any state at which it stands and has asked nothing yet.
use Rattle.std.specs.Prelude.{◌≡◌, ℕ, ◌+◌, ◌<◌, ◌≤◌, ℤ, List, [], length}
use Rattle.nim_base.specs.declared.number.Object.{Object}
use Rattle.nim_base.specs.declared.task.Task.{Task}
use Rattle.nim_base.specs.Value.{cell_of}
use Rattle.nim_job.specs.declared.ask.Ask.{Ask}
use Rattle.nim_job.specs.declared.job.Job.{Job}
use Rattle.nim_job.specs.declared.state.DriverState.{DriverState}
use Rattle.nim_job.specs.Driver.{output_limit}
use Rattle.nim_job.specs.Machine.{Machine, IsWithin, after_ask, answered, appended, ask_of, before_ask, machine_at, spans_of}
use Rattle.nim_job.specs.Objects.{objects_of, shapes_of, value_at}
use Rattle.nim_job.specs.Saved.{driver_in, gone_back}
use Rattle.nim_job.specs.Serial.{driver_at, serial_of}
use Rattle.nim_job.specs.Step.{State, after_tasks, output_of, tasks_next}
use Rattle.nim_job.specs.Tasks.{block_tasks_of, takes_of}

-- the state of a job after as many steps as a machine has counted
abbrev pub state_at : Job → Machine → State
state_at job m = driver_at job m.driver.count

-- The machine has asked nothing yet, and stands at the state of the job after as many steps as it has counted.
pub record StandsAt (job : Job) (m : Machine) : Type 0 where
  pub machine : m ≡ machine_at job (state_at job m)
  pub within : IsWithin m

-- From one machine to a later one that stands at a state too, these tasks are run.
pub record GoesOn (job : Job) (m next : Machine) (tasks : List Task) : Type 0 where
  pub stands : StandsAt job next
  pub values : (state_at job next).values ≡ after_tasks (shapes_of job.vars) (state_at job m).values tasks
  pub position : (state_at job next).position ≡ (state_at job m).position + length tasks

-- the same, and statements were counted
pub record GoesFurther (job : Job) (m next : Machine) (tasks : List Task) : Type 0 where
  pub goes : GoesOn job m next tasks
  pub counted : m.driver.count < next.driver.count

-- what is asked is there, and a block is given as many arguments as it takes
abbrev pub IsThere : Job → Ask → Type 0
IsThere job (Ask.Run block args) = (block < length job.blocks) × (length args ≡ takes_of job block)
IsThere job (Ask.Get object row cell) = object.0 < objects_of job.vars
IsThere job (Ask.Output var) = var < length job.vars
IsThere job _ = Unit {0}

-- Before it asks, a machine takes statements that ask nothing. It stands at a later state then, and no task was run.
-- What
-- it asks is there.
pub record Asks (job : Job) (m : Machine) : Type 0 where
  pub before : GoesOn job m (before_ask m) []
  pub printed : (before_ask m).driver.output ≡ m.driver.output
  pub there : IsThere job (ask_of m)

-- A block that is asked for is the one whose tasks the next step runs, and the job's tasks at this position are these.
-- Once it is answered the machine goes on.
pub record Runs (job : Job) (m : Machine) (block : ℕ) (args : List ℤ) : Type 0 where
  pub within : (before_ask m).driver.count < job.steps
  pub tasks : tasks_next job (state_at job (before_ask m)) ≡ block_tasks_of job block args
  pub goes : (cell : ℤ) → GoesFurther job m (answered (after_ask m) cell) (block_tasks_of job block args)

-- An output that is answered by what the variable's parts hold goes on within the limit, and past it the job ends at a
-- limit.
pub record Prints (job : Job) (m : Machine) (var : ℕ) (text : List ℕ) : Type 0 where
  pub goes : length m.driver.output + length text ≤ output_limit → GoesFurther job m (appended (after_ask m) text) []
  pub full : output_limit < length m.driver.output + length text → serial_of job ≡ record { status = 4; bytes = [] }

-- what follows each ask of a machine that stands at a state of the job
pub record Follows (job : Job) (m : Machine) : Type 0 where
  pub asks : Asks job m
  pub run : (block : ℕ) (args : List ℤ) → ask_of m ≡ Ask.Run block args → Runs job m block args
  pub get : (object : Object) (row cell : ℕ) → ask_of m ≡ Ask.Get object row cell
      → GoesFurther job m (answered (after_ask m) (cell_of (value_at (state_at job m).values object) row cell)) []
  pub checkpoint : (cell : ℤ) → ask_of m ≡ Ask.Checkpoint → GoesFurther job m (answered (after_ask m) cell) []
  pub output : (var : ℕ) → ask_of m ≡ Ask.Output var → Prints job m var (output_of job.vars (state_at job m).values var)
  pub finished : ask_of m ≡ Ask.Finished → serial_of job ≡ record { status = 0; bytes = m.driver.output }
  pub limit : ask_of m ≡ Ask.Limit → serial_of job ≡ record { status = 4; bytes = [] }

-- a machine that stands at a state of the job follows the job's steps
abbrev pub EachFollows : Job → Type 0
EachFollows job = (m : Machine) → StandsAt job m → Follows job m

-- ---- going back

-- the machine is one of the job, wherever it stands
pub record IsOf (job : Job) (m : Machine) : Type 0 where
  pub steps : m.steps ≡ job.steps
  pub body : m.body ≡ job.body
  pub spans : m.spans ≡ spans_of job.vars

-- a machine of a job stays one of this job
pub record StaysOf (job : Job) : Type 0 where
  pub stands : (m : Machine) → StandsAt job m → IsOf job m
  pub before : (m : Machine) → IsOf job m → IsOf job (before_ask m)
  pub asked : (m : Machine) → IsOf job m → IsOf job (after_ask m)
  pub answered : (m : Machine) (cell : ℤ) → IsOf job m → IsOf job (answered m cell)
  pub appended : (m : Machine) (text : List ℕ) → IsOf job m → IsOf job (appended m text)

-- A machine of the job that goes back to a state that was saved where a machine stood at a state of the job stands
-- there again.
abbrev pub ComesBack : Job → Type 0
ComesBack job = (m saved : Machine) (state : DriverState) → IsOf job m → StandsAt job saved
    → driver_in saved.body state ≡ saved.driver
    → StandsAt job (gone_back m state)
