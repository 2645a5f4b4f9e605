-- One step of a driver whose tasks run one by one: the first item is taken, counted and done.
use Rattle.std.specs.Prelude.{ℕ, ◌+◌, Bool, nat_lt, if◌then◌else◌, List, [], ◌∷◌, ◌++◌, length, map, slice_get, slice_set}
use Rattle.std.specs.Option.{option_map_or}
use Rattle.nim_base.specs.declared.number.Object.{Object}
use Rattle.nim_base.specs.declared.number.Shape.{Shape}
use Rattle.nim_base.specs.declared.task.Task.{Task}
use Rattle.nim_base.specs.Value.{Grid, cell_of}
use Rattle.nim_base.specs.Text.{text_of}
use Rattle.nim_base.specs.Apply.{apply_of}
use Rattle.nim_job.specs.declared.block.Place.TheVariants.{Fixed}
use Rattle.nim_job.specs.declared.item.Item.{Item}
use Rattle.nim_job.specs.declared.item.Item.TheVariants.{Run}
use Rattle.nim_job.specs.declared.job.Job.{Job}
use Rattle.nim_job.specs.declared.job.Var.{Var}
use Rattle.nim_job.specs.declared.stmt.Stmt.{Stmt, out-Stmt}
use Rattle.nim_job.specs.declared.stmt.Stmt.TheOpen.{Stmt-F}
use Rattle.nim_job.specs.Driver.{Driver, atom_value, output_limit, start_driver}
use Rattle.nim_job.specs.Objects.{initial_values, value_at, shape_at, shapes_of, parts_at}
use Rattle.nim_job.specs.Quiet.{quiet_step}
use Rattle.nim_job.specs.Tasks.{block_tasks_of, object_meant}

-- the driver, what the objects hold, and how many tasks ran
pub record State : Type 0 where
  pub driver : Driver
  pub values : List Grid
  pub position : ℕ

-- a job before its first step: its objects hold what they hold at first, and no task ran
abbrev pub start : Job → State
start job = record { driver = start_driver job; values = initial_values job.vars; position = 0 }

-- what the objects hold once these values are written
abbrev pub written : List Grid → List Object → List Grid → List Grid
written values (object ∷ objects) (grid ∷ grids) = written (slice_set values object.0 grid) objects grids
written values _ _ = values

-- what the objects hold after a task
abbrev pub after_task : List Shape → List Grid → Task → List Grid
after_task shapes values task =
    written values task.writes (apply_of task.func task.params (map (value_at values) task.reads)
    (map (shape_at shapes) task.writes))

-- what the objects hold after tasks, one after another
abbrev pub after_tasks : List Shape → List Grid → List Task → List Grid
after_tasks shapes values [] = values
after_tasks shapes values (task ∷ tasks) = after_tasks shapes (after_task shapes values task) tasks

-- the texts of parts, the first of them with this number
abbrev pub part_texts : List ℕ → ℕ → List Grid → List ℕ
part_texts name part [] = []
part_texts name part (grid ∷ grids) = text_of name part grid ++ part_texts name (part + 1) grids

-- what `output` prints of a variable
abbrev pub output_of : List Var → List Grid → ℕ → List ℕ
output_of vars values var = part_texts (option_map_or (λ v. v.name) (slice_get vars var) []) 0
    (parts_at vars values var)

-- the tasks that a statement runs
abbrev pub stmt_tasks : Job → State → Stmt-F Stmt → List Task
stmt_tasks job state (Stmt-F.Do block args) = block_tasks_of job block (map (atom_value state.driver.scalars) args)
stmt_tasks job state _ = []

-- the tasks that the first of these items runs
abbrev pub items_tasks : Job → State → List Item → List Task
items_tasks job state (Run stmt ∷ rest) = stmt_tasks job state (out-Stmt stmt)
items_tasks job state _ = []

-- whether more was printed than may be
abbrev pub is_over : State → Bool
is_over state = nat_lt output_limit (length state.driver.output)

-- the tasks that the next step runs; where too much was printed there is none
abbrev pub tasks_next : Job → State → List Task
tasks_next job state = if is_over state then [] else items_tasks job state state.driver.todo

-- the object of a variable's part, the part taken modulo the variable's parts
abbrev pub object_of_part : List Var → ℕ → ℕ → Object
object_of_part vars var part = object_meant vars 0 (record { var = var; place = Fixed part })

-- what a statement that asks is told: a `get` its cell, 0 where there is none, and an `output` what it prints
abbrev pub stmt_told : Job → State → Stmt-F Stmt → Driver → Driver
stmt_told job state (Stmt-F.Get s var part row cell) driver =
    record driver {
      scalars = slice_set driver.scalars s
          (cell_of (value_at state.values (object_of_part job.vars var part)) row cell);
    }
stmt_told job state (Stmt-F.Output var) driver =
    record driver { output = driver.output ++ output_of job.vars state.values var }
stmt_told job state _ driver = driver

-- the driver once the first of these items is told what it asks for
abbrev pub items_told : Job → State → List Item → Driver → Driver
items_told job state (Run stmt ∷ rest) driver = stmt_told job state (out-Stmt stmt) driver
items_told job state _ driver = driver

-- one step of the first of these items; where nothing is left the state stays
abbrev pub items_step : Job → State → List Item → State
items_step job state [] = state
items_step job state items = record {
  driver = items_told job state items (quiet_step state.driver);
  values = after_tasks (shapes_of job.vars) state.values (items_tasks job state items);
  position = state.position + length (items_tasks job state items);
}

-- one step; where too much was printed the state stays
abbrev pub step : Job → State → State
step job state = if is_over state then state else items_step job state state.driver.todo
