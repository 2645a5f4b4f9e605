-- What a controller does in a turn, one move after another, until nothing is left that it may do.
use Rattle.std.specs.Prelude.{◌≡◌, ℕ, zero, suc, ◌+◌, nat_le, ℤ, pos, Bool, true, false, List, [], ◌∷◌, ◌++◌, length, map, slice_get, slice_index_or, Some}
use Rattle.std.specs.List.{list_any, range_with_len}
use Rattle.std.specs.Option.{is_none, option_map_or}
use Rattle.nim_base.specs.declared.number.Object.{Object}
use Rattle.nim_base.specs.declared.task.Task.{Task}
use Rattle.nim_base.specs.Value.{Grid, cell_of, empty_grid}
use Rattle.nim_command.specs.Numbers.{counted_from}
use Rattle.nim_job.specs.declared.ask.Ask.{Ask}
use Rattle.nim_job.specs.Machine.{after_ask, answered, appended, ask_of}
use Rattle.nim_job.specs.Objects.{first_object, parts_of}
use Rattle.nim_job.specs.Step.{part_texts}
use Rattle.nim_job.specs.Tasks.{block_forms_of, block_tasks_of}
use Rattle.nim_place.specs.Directed.{Directed}
use Rattle.nim_place.specs.Versions.{after_commands}
use Rattle.nim_reuse.specs.declared.instance.InstanceAt.{InstanceAt}
use Rattle.nim_reuse.specs.declared.reused.Reused.{Reused}
use Rattle.nim_reuse.specs.Decisions.{after_recording, is_recorded}
use Rattle.nim_reuse.specs.Reuse.{decisions_at, reused_at, versions_at}
use Rattle.nim_course.specs.declared.fetched.Fetched.{Fetched}
use Rattle.nim_course.specs.declared.outcome.Outcome.{Outcome}
use Rattle.nim_course.specs.declared.pending.Pending.{Pending}
use Rattle.nim_course.specs.declared.pending.Pending.TheVariants.{Begin, Idle, Block, Cell, Parts, Ended}
use Rattle.nim_course.specs.Controller.{Controller}
use Rattle.nim_course.specs.OrdersGiven.{after_instance, epoch_orders, fetch_orders, fetched_of, first_commands, flight_of, instance_at, instance_orders, recorded_of, reused_flight, reused_orders}
use Rattle.nim_course.specs.Summaries.{counted_on, orders_counted, reused_counted, single_counted}

-- ---- what holds a controller up

-- whether the value of something that was fetched wasn't reported yet
abbrev pub is_open : Fetched → Bool
is_open f = is_none f.value

-- so many instances may be in flight
abbrev pub most_in_flight : ℕ
most_in_flight = 4

-- whether what is pending waits for a report
abbrev pub does_wait : Controller → Pending → Bool
does_wait c (Block block args) = nat_le most_in_flight (length c.flight)
does_wait c (Cell row cell) = list_any is_open c.fetched
does_wait c (Parts var) = list_any is_open c.fetched
does_wait c Ended = nat_le 1 (length c.flight)
does_wait c _ = false

-- a controller may do nothing more where it has an outcome, or waits for a report
abbrev pub is_held_up : Controller → Bool
is_held_up c = option_map_or (λ (outcome : Outcome). true) c.outcome (does_wait c c.pending)

-- ---- one move

-- the epoch is begun
abbrev pub epoch_begun : Controller → Controller
epoch_begun c = record c { versions = after_commands c.versions (first_commands c 0 c.job.vars); pending = Idle }

-- an instance of a block was given task by task, and the block recorded
abbrev pub with_instance : Controller → ℕ → List Task → Controller
with_instance c block tasks = record c {
  machine = answered c.machine (pos 0);
  versions = after_instance c 0 c.versions tasks;
  decisions = after_recording (recorded_of c block) c.decisions;
  position = counted_from c.position (length tasks);
  instance = counted_on c.instance 1;
  pending = Idle;
  flight = c.flight ++ flight_of c tasks;
  summary = single_counted c.summary;
}

-- an instance of a block that was recorded was asked for as a whole
abbrev pub with_reused : Controller → ℕ → Controller
with_reused c block =
    let at : InstanceAt = instance_at c block in
    let reused : Reused = reused_at c.place c.live at c.versions c.decisions in
    record c {
      machine = answered c.machine (pos 0);
      versions = versions_at c.place c.live at c.versions c.decisions;
      decisions = decisions_at c.place c.live at c.versions c.decisions;
      position = counted_from c.position (length (block_forms_of c.job block));
      instance = counted_on c.instance 1;
      pending = Idle;
      flight = c.flight ++ reused_flight c reused.awaited;
      summary = reused_counted reused.is_new reused.patched c.summary;
    }

-- An instance of a block was given: task by task where the block wasn't recorded.
abbrev pub with_block : Bool → Controller → ℕ → List ℤ → Controller
with_block false c block args = with_instance c block (block_tasks_of c.job block args)
with_block true c block args = with_reused c block

-- the parts of a variable, as objects
abbrev pub objects_in : Controller → ℕ → List Object
objects_in c var =
    map (λ (part : ℕ). record { 0 = first_object c.job.vars var + part }) (range_with_len 0 (parts_of c.job.vars var))

-- objects were fetched, and this is pending then
abbrev pub fetching : Controller → List Object → Pending → Controller
fetching c objects pending = record c {
  ticket = counted_on c.ticket (length objects);
  pending = pending;
  first = c.ticket;
  fetched = map (fetched_of c.versions) objects;
}

-- what the driver asked next
abbrev pub asked : Controller → Ask → Controller
asked c (Ask.Run block args) = record c { machine = after_ask c.machine; pending = Block block args }
asked c (Ask.Get object row cell) =
    fetching (record c { machine = after_ask c.machine }) (object ∷ []) (Cell row cell)
asked c Ask.Checkpoint = record c { machine = answered (after_ask c.machine) (pos 0) }
asked c (Ask.Output var) = fetching (record c { machine = after_ask c.machine }) (objects_in c var) (Parts var)
asked c Ask.Finished = record c { machine = after_ask c.machine; pending = Ended }
asked c Ask.Limit = record c { machine = after_ask c.machine; outcome = Some Outcome.Limit }

-- what was reported of something that was fetched
abbrev pub value_in : Fetched → Grid
value_in f = option_map_or (λ (value : Grid). value) f.value empty_grid

-- the cell of a `get`, of the object that was fetched
abbrev pub cell_told : List Fetched → ℕ → ℕ → ℤ
cell_told fetched row cell = cell_of (slice_index_or (map value_in fetched) 0 empty_grid) row cell

-- what is printed of a variable whose parts were fetched
abbrev pub text_told : Controller → ℕ → List ℕ
text_told c var = part_texts (option_map_or (λ v. v.name) (slice_get c.job.vars var) []) 0 (map value_in c.fetched)

-- what a controller does with what is pending
abbrev pub after_pending : Controller → Pending → Controller
after_pending c Begin = epoch_begun c
after_pending c Idle = asked c (ask_of c.machine)
after_pending c (Block block args) = with_block (is_recorded c.decisions block) c block args
after_pending c (Cell row cell) =
    record c { machine = answered c.machine (cell_told c.fetched row cell); pending = Idle; fetched = [] }
after_pending c (Parts var) =
    record c { machine = appended c.machine (text_told c var); pending = Idle; fetched = [] }
after_pending c Ended = record c { outcome = Some Outcome.Done }

-- the orders that an ask leads to
abbrev pub orders_asked : Controller → Ask → List Directed
orders_asked c (Ask.Get object row cell) = fetch_orders c (object ∷ [])
orders_asked c (Ask.Output var) = fetch_orders c (objects_in c var)
orders_asked c _ = []

-- those of an instance of a block
abbrev pub orders_of_block : Bool → Controller → ℕ → List ℤ → List Directed
orders_of_block false c block args = instance_orders c 0 c.versions (block_tasks_of c.job block args)
orders_of_block true c block args = reused_orders c block args

-- the orders that are given with a move
abbrev pub orders_with : Controller → Pending → List Directed
orders_with c Begin = epoch_orders c
orders_with c Idle = orders_asked c (ask_of c.machine)
orders_with c (Block block args) = orders_of_block (is_recorded c.decisions block) c block args
orders_with c _ = []

-- the orders that are given with the next one
abbrev pub orders_of : Controller → List Directed
orders_of c = orders_with c c.pending

-- orders were counted
abbrev pub with_counted : List Directed → Controller → Controller
with_counted orders c = record c { summary = orders_counted c.decisions orders c.summary }

-- one move, its orders counted
abbrev pub moved : Controller → Controller
moved c = with_counted (orders_of c) (after_pending c c.pending)

-- ---- a turn

-- so many moves, one after another
abbrev pub after_moves : ℕ → Controller → Controller
after_moves zero c = c
after_moves (suc count) c = moved (after_moves count c)

-- the orders that they give
abbrev pub orders_of_moves : ℕ → Controller → List Directed
orders_of_moves zero c = []
orders_of_moves (suc count) c = orders_of_moves count c ++ orders_of (after_moves count c)

-- before none of them the controller is held up
abbrev pub AreFree : ℕ → Controller → Type 0
AreFree zero c = Unit {0}
AreFree (suc count) c = AreFree count c × (is_held_up (after_moves count c) ≡ false)

-- From one controller to another, moves gave these orders.
pub record IsMoved (before : Controller) (orders : List Directed) (after : Controller) : Type 0 where
  pub count : ℕ
  pub free : AreFree count before
  pub gave : orders ≡ orders_of_moves count before
  pub state : after ≡ after_moves count before

-- A turn goes as far as it can: it moves until the controller is held up, and none is due then.
pub record IsTurned (before : Controller) (orders : List Directed) (after : Controller) : Type 0 where
  pub end : Controller
  pub moved : IsMoved before orders end
  pub held_up : is_held_up end ≡ true
  pub rests : after ≡ record end { due = false }
