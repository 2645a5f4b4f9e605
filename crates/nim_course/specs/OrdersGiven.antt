-- The orders that a controller gives: those that begin an epoch, those of an instance's tasks, and those that fetch.
use Rattle.std.specs.Prelude.{ℕ, ◌+◌, ℤ, pos, false, true, List, [], ◌∷◌, ◌++◌, length, map, slice_index_or, Option, None, Some}
use Rattle.std.specs.List.{range_with_len}
use Rattle.std.specs.Option.{option_map_or}
use Rattle.nim_base.specs.declared.number.Object.{Object}
use Rattle.nim_base.specs.declared.number.Shape.{Shape}
use Rattle.nim_base.specs.declared.number.Worker.{Worker}
use Rattle.nim_base.specs.declared.task.Task.{Task}
use Rattle.nim_base.specs.Value.{empty_grid}
use Rattle.nim_command.specs.declared.command.Command.{Command}
use Rattle.nim_command.specs.declared.command.Kind.{Kind}
use Rattle.nim_command.specs.declared.command.Kind.TheVariants.{Create, Load, Fetch}
use Rattle.nim_command.specs.Numbers.{counted_from, main_slot}
use Rattle.nim_message.specs.declared.order.ToWorker.TheVariants.{Single}
use Rattle.nim_job.specs.declared.job.Init.{Init}
use Rattle.nim_job.specs.declared.job.Init.TheVariants.{Fill, Iota, Loaded}
use Rattle.nim_job.specs.declared.job.Var.{Var}
use Rattle.nim_job.specs.Objects.{first_cell, shapes_of}
use Rattle.nim_job.specs.Tasks.{block_forms_of}
use Rattle.nim_place.specs.Extends.{singles_of}
use Rattle.nim_place.specs.Orders.{resets_of}
use Rattle.nim_place.specs.Placement.{home}
use Rattle.nim_place.specs.Schedule.{owner_of, scheduled}
use Rattle.nim_place.specs.Versions.{Versions, after_commands, holder, latest_of}
use Rattle.nim_template.specs.declared.template.ControllerTemplate.{ControllerTemplate}
use Rattle.nim_reuse.specs.declared.instance.InstanceAt.{InstanceAt}
use Rattle.nim_reuse.specs.Reuse.{orders_at}
use Rattle.nim_course.specs.declared.fetched.Fetched.{Fetched}
use Rattle.nim_course.specs.Controller.{Controller, Flight}
use Rattle.nim_course.specs.Summaries.{counted_on}
use Rattle.nim_place.specs.Directed.{Directed, directed}

-- the greatest number of 32 bits, an instance that no `do` has
abbrev pub no_instance : ℕ
no_instance = 4294967295

-- one command alone, numbered 0
abbrev pub lone_command : Kind → Command
lone_command kind = record { id = 0; kind = kind; before = [] }

-- a command alone in a Single, which is of no instance
abbrev pub single_for : ℕ → Worker × Command → Directed
single_for epoch c = (c.0, Single epoch no_instance (c.1 ∷ []))

-- ---- the beginning of an epoch

-- what a part holds at first is made, or put there where it was loaded
abbrev pub first_kind : Shape → Init → ℕ → Object → Kind
first_kind shape (Fill number) part object = Create (main_slot object) false number
first_kind shape Iota part object = Create (main_slot object) true (pos (first_cell shape part))
first_kind shape (Loaded values) part object = Load (main_slot object) 0 (slice_index_or values part empty_grid)

-- at its home a part of a variable, whose part 0 is this object, gets what it holds at first
abbrev pub first_command : Controller → Var → ℕ → ℕ → Worker × Command
first_command c v first part =
    let object : Object = record { 0 = first + part } in
    (home c.place object c.versions.objects c.live, lone_command (first_kind v.shape v.init part object))

-- those of all parts of variables, where the first of them is this object
abbrev pub first_commands : Controller → ℕ → List Var → List (Worker × Command)
first_commands c first [] = []
first_commands c first (v ∷ vars) =
    map (first_command c v first) (range_with_len 0 v.parts) ++ first_commands c (first + v.parts) vars

-- a Reset to each live worker, and what each object holds at first
abbrev pub epoch_orders : Controller → List Directed
epoch_orders c =
    directed (length c.live) (resets_of c.live c.epoch (length c.live) (shapes_of c.job.vars))
    ++ map (single_for c.epoch) (first_commands c 0 c.job.vars)

-- ---- an instance of a block

-- the commands of one of its tasks
abbrev pub task_commands : Controller → ℕ → Versions → Task → List (Worker × Command)
task_commands c number versions task =
    scheduled versions task number (counted_from c.position number) c.place c.live

-- the map behind its tasks, from one of this number on
abbrev pub after_instance : Controller → ℕ → Versions → List Task → Versions
after_instance c number versions [] = versions
after_instance c number versions (task ∷ tasks) =
    after_instance c (number + 1) (after_commands versions (task_commands c number versions task)) tasks

-- the orders of its tasks: each worker gets its commands of one task in one Single
abbrev pub instance_orders : Controller → ℕ → Versions → List Task → List Directed
instance_orders c number versions [] = []
instance_orders c number versions (task ∷ tasks) =
    let commands : List (Worker × Command) = task_commands c number versions task in
    directed (length c.live) (singles_of c.epoch c.instance commands)
    ++ instance_orders c (number + 1) (after_commands versions commands) tasks

-- who runs a task, and is to report it
abbrev pub awaited_worker : Controller → Task → Option Worker
awaited_worker c task = Some (owner_of c.place task c.versions.objects c.live)

-- the instance in flight; a block without tasks never is
abbrev pub flight_of : Controller → List Task → List Flight
flight_of c [] = []
flight_of c tasks =
    record { instance = c.instance; base = c.position; runs = map (awaited_worker c) tasks; through = [] } ∷ []

-- what is recorded of a block
abbrev pub recorded_of : Controller → ℕ → ControllerTemplate
recorded_of c block = record { block = block; forms = block_forms_of c.job block }

-- ---- an instance of a block that was recorded

-- which instance is next
abbrev pub instance_at : Controller → ℕ → InstanceAt
instance_at c block = record { epoch = c.epoch; instance = c.instance; block = block; base = c.position }

-- its orders
abbrev pub reused_orders : Controller → ℕ → List ℤ → List Directed
reused_orders c block args = orders_at c.place c.live (instance_at c block) args c.versions c.decisions

-- the instance in flight, where some worker is to report that it is through
abbrev pub reused_flight : Controller → List Worker → List Flight
reused_flight c [] = []
reused_flight c awaited = record { instance = c.instance; base = c.position; runs = []; through = awaited } ∷ []

-- ---- a fetch

-- what is fetched of objects: their latest versions
abbrev pub fetched_of : Versions → Object → Fetched
fetched_of versions object = record { object = object; version = latest_of versions object; value = None }

-- the command that fetches an object under a ticket, at a worker
abbrev pub fetch_at : ℕ → Object → Worker → Worker × Command
fetch_at ticket object worker = (worker, lone_command (Fetch (main_slot object) ticket))

-- those that fetch objects, each from the lowest worker that holds its latest version, the first under this ticket
abbrev pub fetch_commands : Versions → ℕ → List Object → List (Worker × Command)
fetch_commands versions ticket [] = []
fetch_commands versions ticket (object ∷ objects) =
    option_map_or (λ (worker : Worker). fetch_at ticket object worker ∷ []) (holder versions object) []
    ++ fetch_commands versions (counted_on ticket 1) objects

-- the orders that fetch them, a Single each
abbrev pub fetch_orders : Controller → List Object → List Directed
fetch_orders c objects = map (single_for c.epoch) (fetch_commands c.versions c.ticket objects)
