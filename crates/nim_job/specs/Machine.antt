-- The machine that takes a driver's statements in order: what it asks, and where it stands then.
use Rattle.std.specs.Prelude.{◌≡◌, ℕ, ◌≤◌, ◌+◌, ◌-◌, ◌%◌, zero, suc, ℤ, Bool, true, false, ◌&&◌, nat_le, Option, None, Some, List, [], ◌∷◌, ◌++◌, length, map, slice_get, slice_set, if◌then◌else◌}
use Rattle.std.specs.List.{range_with_len}
use Rattle.std.specs.Option.{option_map_or}
use Rattle.nim_base.specs.declared.number.Object.{Object}
use Rattle.nim_job.specs.declared.ask.Ask.{Ask}
use Rattle.nim_job.specs.declared.ask.Asked.{Asked}
use Rattle.nim_job.specs.declared.item.Item.{Item}
use Rattle.nim_job.specs.declared.item.Item.TheVariants.{Run}
use Rattle.nim_job.specs.declared.job.Job.{Job}
use Rattle.nim_job.specs.declared.job.Var.{Var}
use Rattle.nim_job.specs.declared.span.Span.{Span}
use Rattle.nim_job.specs.declared.stmt.Stmt.{Stmt, out-Stmt}
use Rattle.nim_job.specs.declared.stmt.Stmt.TheOpen.{Stmt-F}
use Rattle.nim_job.specs.Driver.{Driver, atom_value, output_limit, start_driver}
use Rattle.nim_job.specs.Objects.{first_object, parts_of}
use Rattle.nim_job.specs.Quiet.{is_quiet, quiet_step}
use Rattle.nim_job.specs.Step.{State}

-- the most statements that are counted, the whole body, where the variables' objects are, where the driver stands,
-- which
-- kind of ask isn't answered, and whether too much was printed
pub record Machine : Type 0 where
  pub steps : ℕ
  pub body : List Stmt
  pub spans : List Span
  pub driver : Driver
  pub asked : Option Asked
  pub full : Bool

-- the objects of a variable
abbrev pub span_of : List Var → ℕ → Span
span_of vars var = record { first = first_object vars var; parts = parts_of vars var }

-- the objects of each variable
abbrev pub spans_of : List Var → List Span
spans_of vars = map (span_of vars) (range_with_len 0 (length vars))

-- the object of a part, taken modulo the parts; object 0 where there is no such variable
abbrev pub span_object : List Span → ℕ → ℕ → Object
span_object spans var part =
    record { 0 = option_map_or (λ (span : Span). span.first + part % span.parts) (slice_get spans var) 0 }

-- a variable has parts, and its objects can be counted in 16 bits
abbrev pub is_span : Span → Bool
is_span span = nat_le 1 span.parts && nat_le (span.first + span.parts) 512

-- the machine of a job where it has asked nothing yet and stands at a state's driver
abbrev pub machine_at : Job → State → Machine
machine_at job state = record {
  steps = job.steps;
  body = job.body;
  spans = spans_of job.vars;
  driver =
      state.driver;
  asked = None;
  full = false;
}

-- the machine of a job that was just made
abbrev pub start_machine : Job → Machine
start_machine job = record {
  steps = job.steps;
  body = job.body;
  spans = spans_of job.vars;
  driver =
      start_driver job;
  asked = None;
  full = false;
}

-- so many quiet steps, or fewer where an item that asks comes first
abbrev pub quiet_steps : ℕ → Driver → Driver
quiet_steps zero driver = driver
quiet_steps (suc n) driver = if is_quiet driver.todo then quiet_steps n (quiet_step driver) else driver

-- the machine once the items in front that ask nothing are taken, as many as may still be counted
abbrev pub before_ask : Machine → Machine
before_ask m = if m.full then m else record m { driver = quiet_steps (m.steps - m.driver.count) m.driver }

-- what a statement asks
abbrev pub stmt_ask : List ℤ → List Span → Stmt-F Stmt → Ask
stmt_ask scalars spans (Stmt-F.Do block args) = Ask.Run block (map (atom_value scalars) args)
stmt_ask scalars spans (Stmt-F.Get s var part row cell) = Ask.Get (span_object spans var part) row cell
stmt_ask scalars spans Stmt-F.Checkpoint = Ask.Checkpoint
stmt_ask scalars spans (Stmt-F.Output var) = Ask.Output var
stmt_ask scalars spans _ = Ask.Finished

-- which kind of ask a statement makes, and of a `get` which scalar it sets
abbrev pub stmt_asked : Stmt-F Stmt → Option Asked
stmt_asked (Stmt-F.Do block args) = Some Asked.Run
stmt_asked (Stmt-F.Get s var part row cell) = Some (Asked.Get s)
stmt_asked Stmt-F.Checkpoint = Some Asked.Checkpoint
stmt_asked (Stmt-F.Output var) = Some Asked.Output
stmt_asked _ = None

-- what an item asks, and which kind of ask it is; further turns of a loop ask nothing
abbrev pub item_ask : Machine → Item → Ask
item_ask m (Run stmt) = stmt_ask m.driver.scalars m.spans (out-Stmt stmt)
item_ask m item = Ask.Finished

-- which kind of ask an item makes; further turns of a loop make none
abbrev pub item_asked : Item → Option Asked
item_asked (Run stmt) = stmt_asked (out-Stmt stmt)
item_asked item = None

-- what is asked where these items are to do: nothing at the end, and nothing where one more statement would pass
-- the most that are counted
abbrev pub items_ask : Machine → List Item → Ask
items_ask m [] = Ask.Finished
items_ask m (item ∷ rest) = if nat_le m.steps m.driver.count then Ask.Limit else item_ask m item

-- where the machine stands once these items have asked
abbrev pub items_asked : Machine → List Item → Machine
items_asked m [] = m
items_asked m (item ∷ rest) =
    if nat_le m.steps m.driver.count then m else record m { driver = quiet_step m.driver; asked = item_asked item }

-- what a machine asks by its first item, and where it stands then
abbrev pub ask_now : Machine → Ask
ask_now m = if m.full then Ask.Limit else items_ask m m.driver.todo

-- where a machine stands once its first item has asked; a full one stays where it is
abbrev pub asked_now : Machine → Machine
asked_now m = if m.full then m else items_asked m m.driver.todo

-- what the machine asks next
abbrev pub ask_of : Machine → Ask
ask_of m = ask_now (before_ask m)

-- where the machine stands once it has asked
abbrev pub after_ask : Machine → Machine
after_ask m = asked_now (before_ask m)

-- the scalars once an ask is answered by a cell: the one of a `get` is set
abbrev pub told_cell : Option Asked → List ℤ → ℤ → List ℤ
told_cell (Some (Asked.Get s)) scalars cell = slice_set scalars s cell
told_cell _ scalars cell = scalars

-- the ask is answered by this cell
abbrev pub answered : Machine → ℤ → Machine
answered m cell =
    record m { driver = record m.driver { scalars = told_cell m.asked m.driver.scalars cell }; asked = None }

-- the ask is answered by this text, which is printed; where it would be too much nothing is, and the machine is full
abbrev pub appended : Machine → List ℕ → Machine
appended m text =
    if nat_le (length m.driver.output + length text) output_limit
    then record m { driver = record m.driver { output = m.driver.output ++ text }; asked = None }
    else record m { asked = None; full = true }

-- whether a kind of ask is one that a cell or nothing answers, and not a text
abbrev pub takes_cell : Option Asked → Bool
takes_cell (Some Asked.Run) = true
takes_cell (Some (Asked.Get s)) = true
takes_cell (Some Asked.Checkpoint) = true
takes_cell _ = false

-- whether it is one that a text answers
abbrev pub takes_text : Option Asked → Bool
takes_text (Some Asked.Output) = true
takes_text _ = false

-- the same of what is asked
abbrev pub asks_cell : Ask → Bool
asks_cell (Ask.Run block args) = true
asks_cell (Ask.Get object row cell) = true
asks_cell Ask.Checkpoint = true
asks_cell _ = false

-- whether what is asked is answered by a text
abbrev pub asks_text : Ask → Bool
asks_text (Ask.Output var) = true
asks_text _ = false

-- what is asked wants the kind of answer that is kept; what wants none leaves nothing to answer
pub record Wants (ask : Ask) (asked : Option Asked) : Type 0 where
  pub cell : takes_cell asked ≡ asks_cell ask
  pub text : takes_text asked ≡ asks_text ask
  pub nothing : asks_cell ask ≡ false → asks_text ask ≡ false → asked ≡ None

-- no more is counted than the most that are, and no more is printed than may be
pub record IsWithin (m : Machine) : Type 0 where
  pub counted : m.driver.count ≤ m.steps
  pub printed : length m.driver.output ≤ output_limit
