-- The tasks of a block: those of its stages in order.
use Rattle.std.specs.Prelude.{ℕ, ◌+◌, ◌-◌, ◌%◌, ℤ, pos, List, [], map, if◌then◌else◌, slice_get, slice_index_or}
use Rattle.std.specs.List.{flat_map, range_with_len}
use Rattle.std.specs.Option.{option_map_or}
use Rattle.nim_base.specs.declared.number.Object.{Object}
use Rattle.nim_base.specs.declared.task.Param.{Param}
use Rattle.nim_base.specs.declared.task.Param.TheVariants.{Const, Arg}
use Rattle.nim_base.specs.declared.task.TaskForm.{TaskForm}
use Rattle.nim_base.specs.declared.task.Task.{Task}
use Rattle.nim_job.specs.declared.block.Place.{Place}
use Rattle.nim_job.specs.declared.block.Place.TheVariants.{Fixed, Plus, Minus}
use Rattle.nim_job.specs.declared.block.Ref.{Ref}
use Rattle.nim_job.specs.declared.block.Stage.{Stage}
use Rattle.nim_job.specs.declared.job.Var.{Var}
use Rattle.nim_job.specs.declared.job.Job.{Job}
use Rattle.nim_job.specs.Objects.{parts_of, first_object}

-- the part that a reference means at task i of its stage, of so many parts
abbrev pub part_of : Place → ℕ → ℕ → ℕ
part_of (Fixed n) i parts = n % parts
part_of (Plus n) i parts = (i + n) % parts
part_of (Minus n) i parts = (i + (parts - n % parts)) % parts

-- the object that a reference means at task i of its stage
abbrev pub object_meant : List Var → ℕ → Ref → Object
object_meant vars i ref = record { 0 = first_object vars ref.var + part_of ref.place i (parts_of vars ref.var) }

-- task i of a stage, its arguments not yet put in
abbrev pub form_of : List Var → Stage → ℕ → TaskForm
form_of vars stage i = record {
  func = stage.func;
  params = stage.params;
  reads = map (object_meant vars i) stage.reads;
  writes = map (object_meant vars i) stage.writes;
}

-- one task for each part of the first variable that is written, or one task
abbrev pub task_count : List Var → Stage → ℕ
task_count vars stage =
    if stage.each then option_map_or (λ ref. parts_of vars ref.var) (slice_get stage.writes 0) 0 else 1

-- the tasks of a stage, in order
abbrev pub stage_forms : List Var → Stage → List TaskForm
stage_forms vars stage = map (form_of vars stage) (range_with_len 0 (task_count vars stage))

-- the tasks of a block, in order
abbrev pub forms_of : List Var → List Stage → List TaskForm
forms_of vars stages = flat_map (stage_forms vars) stages

-- the stages of a block; there are none past the last block
abbrev pub stages_of : Job → ℕ → List Stage
stages_of job block = option_map_or (λ b. b.stages) (slice_get job.blocks block) []

-- how many arguments a block takes
abbrev pub takes_of : Job → ℕ → ℕ
takes_of job block = option_map_or (λ b. b.args) (slice_get job.blocks block) 0

-- a parameter with the arguments put in
abbrev pub param_of : List ℤ → Param → ℤ
param_of args (Const number) = number
param_of args (Arg a) = slice_index_or args a (pos 0)

-- a task with the arguments put in
abbrev pub task_with_args : List ℤ → TaskForm → Task
task_with_args args form = record {
  func = form.func;
  params = map (param_of args) form.params;
  reads = form.reads;
  writes = form.writes;
}

-- the tasks of a block in order, their arguments not yet put in
abbrev pub block_forms_of : Job → ℕ → List TaskForm
block_forms_of job block = forms_of job.vars (stages_of job block)

-- the tasks that a `do` runs, in order
abbrev pub block_tasks_of : Job → ℕ → List ℤ → List Task
block_tasks_of job block args = map (task_with_args args) (block_forms_of job block)
