-- How a controller leads its job: where its driver stands, and what its orders so far come to.
use Rattle.std.specs.Prelude.{◌≡◌, ℕ, ◌+◌, ◌-◌, ◌≤◌, ◌==◌, nat_le, Bool, true, false, ◌&&◌, List, [], ◌∷◌, length, map, All, None, Some, IfSome}
use Rattle.std.specs.List.{list_any}
use Rattle.nim_base.specs.declared.number.Object.{Object}
use Rattle.nim_base.specs.declared.number.Worker.{Worker}
use Rattle.nim_base.specs.Value.{Grid}
use Rattle.nim_command.specs.declared.command.Command.{Command}
use Rattle.nim_command.specs.Covered.{is_covered}
use Rattle.nim_command.specs.Waits.{placed_commands}
use Rattle.nim_message.specs.Orders.{session_of}
use Rattle.nim_order.specs.Orders.{IsOrderByRule}
use Rattle.nim_job.specs.declared.ask.Ask.{Ask}
use Rattle.nim_job.specs.declared.job.Job.{Job}
use Rattle.nim_job.specs.Follows.{IsOf, StandsAt, state_at}
use Rattle.nim_job.specs.Machine.{Machine, after_ask, ask_of}
use Rattle.nim_job.specs.Objects.{objects_of}
use Rattle.nim_job.specs.Serial.{serial_of, tasks_of}
use Rattle.nim_job.specs.Tasks.{block_forms_of}
use Rattle.nim_job.specs.Versions.{read_version, version_value}
use Rattle.nim_job.specs.Whole.{is_whole}
use Rattle.nim_plan.specs.Legal.{IsLegal}
use Rattle.nim_plan.specs.Paired.{ArePaired, Key}
use Rattle.nim_place.specs.declared.placement.Placement.{Placement}
use Rattle.nim_place.specs.Extends.{HaveNone, is_live, live_lists}
use Rattle.nim_place.specs.TaskRuns.{AreRunOnce, RunsAtHome}
use Rattle.nim_place.specs.TaskOrders.{AreSoFar, IsAt}
use Rattle.nim_place.specs.Versions.{Versions, no_versions}
use Rattle.nim_template.specs.Again.{IsBefore}
use Rattle.nim_reuse.specs.Decisions.{Decisions, no_decisions}
use Rattle.nim_reuse.specs.GoesOn.{AreDecided}
use Rattle.nim_course.specs.declared.fetched.Fetched.{Fetched}
use Rattle.nim_course.specs.declared.outcome.Outcome.{Outcome}
use Rattle.nim_course.specs.declared.outcome.Outcome.TheVariants.{Done, Limit, NoWorker, NoMemory}
use Rattle.nim_course.specs.declared.pending.Pending.{Pending}
use Rattle.nim_course.specs.declared.pending.Pending.TheVariants.{Begin, Idle, Block, Cell, Parts, Ended}
use Rattle.nim_course.specs.Controller.{Controller}
use Rattle.nim_place.specs.Directed.{Directed, by_number, orders_to}
use Rattle.nim_course.specs.Moves.{objects_in}

-- ---- where the driver stands

-- Nothing is unanswered where so many tasks were given. Where too much was printed the job passes its limits, else the
-- machine stands at a state of the job.
pub record IsOpenAt (job : Job) (m : Machine) (position : ℕ) : Type 0 where
  pub answered : m.asked ≡ None
  pub is_of : IsOf job m
  pub at : m.full ≡ false → StandsAt job m × (position ≡ (state_at job m).position)
  pub full : m.full ≡ true → serial_of job ≡ record { status = 4; bytes = [] }

-- this is unanswered, and nothing was before it
pub record HasAsked (job : Job) (ask : Ask) (m : Machine) (position : ℕ) : Type 0 where
  pub before : Machine
  pub opened : IsOpenAt job before position
  pub asks : ask_of before ≡ ask
  pub after : m ≡ after_ask before

-- a cell of the object that was fetched is unanswered
pub record HasAskedCell (job : Job) (c : Controller) (row cell : ℕ) : Type 0 where
  pub object : Object
  pub fetched : map (λ (f : Fetched). f.object) c.fetched ≡ object ∷ []
  pub asked : HasAsked job (Ask.Get object row cell) c.machine c.position

-- the parts of the variable that were fetched are unanswered
pub record HasAskedParts (job : Job) (c : Controller) (var : ℕ) : Type 0 where
  pub fetched : map (λ (f : Fetched). f.object) c.fetched ≡ objects_in c var
  pub asked : HasAsked job (Ask.Output var) c.machine c.position

-- where the driver stands, by what is pending
abbrev pub IsDriverAt : Job → Controller → Pending → Type 0
IsDriverAt job c Begin = IsOpenAt job c.machine c.position
IsDriverAt job c Idle = IsOpenAt job c.machine c.position
IsDriverAt job c (Block block args) = HasAsked job (Ask.Run block args) c.machine c.position
IsDriverAt job c (Cell row cell) = HasAskedCell job c row cell
IsDriverAt job c (Parts var) = HasAskedParts job c var
IsDriverAt job c Ended = serial_of job ≡ record { status = 0; bytes = c.machine.driver.output }

-- how the job ends, by the outcome
abbrev pub EndsBy : Job → Controller → Outcome → Type 0
EndsBy job c Done = serial_of job ≡ record { status = 0; bytes = c.machine.driver.output }
EndsBy job c Limit = serial_of job ≡ record { status = 4; bytes = [] }
EndsBy job c NoWorker = Unit {0}
EndsBy job c NoMemory = Unit {0}

-- What was fetched is in the version that the task at a position reads, and what was reported of it is that content.
pub record IsFetchedAt (job : Job) (position : ℕ) (f : Fetched) : Type 0 where
  pub version : f.version ≡ read_version job position f.object
  pub value : IfSome f.value (λ (value : Grid). value ≡ version_value job f.object f.version)

-- ---- what the orders so far come to

-- whether a key is of this epoch, and of this instance or a later one
abbrev pub is_key_from : ℕ → ℕ → Key → Bool
is_key_from epoch instance key = (key.epoch == epoch) && nat_le instance key.instance

-- The orders so far ask for commands that the map of versions stands for, the map is at the position, and what was
-- decided of the job's blocks rests on them. No key passes the test of those that are still to come. Since the epoch
-- began, each task was run once, at its home; epoch 0 begins with the job.
pub record AreLeading (job : Job) (place : Placement) (live : List Bool) (epoch position : ℕ) (to_come : Key → Bool)
    (given : List Directed) (versions : Versions) (decisions : Decisions) : Type 0 where
  pub commands : List (Worker × Command)
  pub so_far : AreSoFar live epoch (by_number given) commands versions
  pub before : IsBefore (length live) (objects_of job.vars) position versions
  pub at : IsAt job position versions
  pub decided : AreDecided place live (objects_of job.vars) (block_forms_of job) (by_number given) decisions
  pub fresh : HaveNone to_come live (by_number given)
  pub from : ℕ
  pub first : epoch ≡ 0 → from ≡ 0
  pub since : from ≤ position
  pub runs : AreRunOnce from (position - from) commands
  pub homes : All (λ (one : Worker × Command). RunsAtHome job place live one.0 one.1.kind) commands

-- before an epoch is begun nothing lies anywhere
pub record IsToBegin (job : Job) (c : Controller) : Type 0 where
  pub versions : c.versions ≡ no_versions (length c.live) (objects_of job.vars)
  pub position : c.position ≡ 0
  pub decisions : c.decisions ≡ no_decisions (length job.blocks)

-- before an epoch is begun there are no orders of it
abbrev pub AreLeadingFor : Job → Controller → List Directed → Pending → Type 0
AreLeadingFor job c given Begin = IsToBegin job c
AreLeadingFor job c given pending =
    AreLeading job c.place c.live c.epoch c.position (is_key_from c.epoch c.instance) given c.versions
    c.decisions

-- the orders to each live worker may be given for the job, and what they ask for is covered; and all lists are paired
pub record AreRight (job : Job) (live : List Bool) (given : List Directed) : Type 0 where
  pub legal : (worker : Worker) → is_live live worker ≡ true → IsLegal job (orders_to worker.0 given)
  pub rule : (worker : Worker) → is_live live worker ≡ true → All IsOrderByRule (orders_to worker.0 given)
  pub covered : (worker : Worker) → is_live live worker ≡ true
      → is_covered (placed_commands (session_of (orders_to worker.0 given)).groups) ≡ true
  pub paired : ArePaired (live_lists live (by_number given))

-- whether what was fetched is awaited
abbrev pub does_fetch : Pending → Bool
does_fetch (Cell row cell) = true
does_fetch (Parts var) = true
does_fetch pending = false

-- how many instances were begun or are about to be: one that waits for room was asked for
abbrev pub instances_begun : Controller → Pending → ℕ
instances_begun c (Block block args) = c.instance + 1
instances_begun c pending = c.instance

-- A controller leads a whole job by these orders, all that it gave.
pub record Leads (job : Job) (c : Controller) (given : List Directed) : Type 0 where
  pub whole : is_whole job ≡ true
  pub is_job : c.job ≡ job
  -- where its driver stands, and how the job ends
  pub driver : c.outcome ≡ None → IsDriverAt job c c.pending
  pub end : IfSome c.outcome (EndsBy job c)
  pub fetched : All (IsFetchedAt job c.position) c.fetched
  pub unfetched : does_fetch c.pending ≡ false → c.fetched ≡ []
  -- some of few workers is live, and what the orders come to
  pub some : c.outcome ≡ None → list_any (λ (flag : Bool). flag) c.live ≡ true
  pub few : length c.live ≤ 16
  pub right : AreRight job c.live given
  pub leading : AreLeadingFor job c given c.pending
  pub instances : instances_begun c c.pending ≤ c.machine.driver.count
  -- at the driver's end, and so once the job is done, all its tasks were run
  pub all_run : c.pending ≡ Ended → c.position ≡ length (tasks_of job)
  pub done : c.outcome ≡ Some Done → c.pending ≡ Ended
