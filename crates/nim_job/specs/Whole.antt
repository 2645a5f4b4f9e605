-- When a job is whole: its limits, and that what it names is there, rule by rule.
use Rattle.std.specs.Prelude.{ℕ, ◌+◌, ◌*◌, ◌==◌, Bool, true, false, not, ◌&&◌, nat_lt, nat_le, Option, None, Some, List, [], ◌∷◌, length, map, is_some, slice_get, if◌then◌else◌}
use Rattle.std.specs.List.{list_all, list_any, range_with_len, sum_by}
use Rattle.std.specs.Option.{option_and_then, option_map_or}
use Rattle.nim_base.specs.declared.number.Object.{Object}
use Rattle.nim_base.specs.declared.number.Shape.{Shape}
use Rattle.nim_base.specs.declared.task.Param.{Param}
use Rattle.nim_base.specs.declared.task.Param.TheVariants.{Const, Arg}
use Rattle.nim_base.specs.declared.task.Task.{Task}
use Rattle.nim_base.specs.Apply.{has_counts}
use Rattle.nim_base.specs.Value.{Grid}
use Rattle.nim_job.specs.declared.block.Place.{Place}
use Rattle.nim_job.specs.declared.block.Place.TheVariants.{Fixed, Plus, Minus}
use Rattle.nim_job.specs.declared.block.Ref.{Ref}
use Rattle.nim_job.specs.declared.block.Stage.{Stage}
use Rattle.nim_job.specs.declared.block.Block.{Block}
use Rattle.nim_job.specs.declared.job.Init.{Init}
use Rattle.nim_job.specs.declared.job.Init.TheVariants.{Loaded}
use Rattle.nim_job.specs.declared.job.Var.{Var}
use Rattle.nim_job.specs.declared.job.Job.{Job}
use Rattle.nim_job.specs.declared.stmt.Arith.{Arith}
use Rattle.nim_job.specs.declared.stmt.Atom.{Atom}
use Rattle.nim_job.specs.declared.stmt.Atom.TheVariants as atom
use Rattle.nim_job.specs.declared.stmt.Cond.{Cond}
use Rattle.nim_job.specs.declared.stmt.Stmt.{Stmt, fold-Stmt}
use Rattle.nim_job.specs.declared.stmt.Stmt.TheOpen.{Stmt-F}
use Rattle.nim_job.specs.Objects.{objects_of}
use Rattle.nim_job.specs.Tasks.{object_meant, task_count}

-- whether a number is in a range, the ends with it
abbrev pub is_between : ℕ → ℕ → ℕ → Bool
is_between low high n = nat_le low n && nat_le n high

-- ---- variables

-- 1 to 64 parts, of 1 to 65,536 columns and rows and at most 65,536 cells
abbrev pub is_var : Var → Bool
is_var v = is_between 1 64 v.parts && is_between 1 65536 v.shape.width && is_between 1 65536 v.shape.rows
    && nat_le (v.shape.width * v.shape.rows) 65536

-- the cells of a variable
abbrev pub cells_in : Var → ℕ
cells_in v = v.parts * (v.shape.width * v.shape.rows)

-- at most 32 variables, 512 objects and 1,048,576 cells
abbrev pub are_vars : List Var → Bool
are_vars vars = nat_le (length vars) 32 && nat_le (objects_of vars) 512 && nat_le (sum_by cells_in vars) 1048576
    && list_all is_var vars

-- what a data file gives for a part: as wide as the variable, and with at most its rows
abbrev pub is_loaded : Shape → Grid → Bool
is_loaded shape grid = (grid.width == shape.width) && nat_le (length grid.rows) shape.rows

-- what a variable holds at first is there: of loaded data a value a part
abbrev pub has_init : ℕ → Shape → Init → Bool
has_init parts shape (Loaded values) = (length values == parts) && list_all (is_loaded shape) values
has_init parts shape _ = true

-- what a variable holds at first is there for each of its parts
abbrev pub is_filled : Var → Bool
is_filled v = has_init v.parts v.shape v.init

-- ---- blocks

-- the task's own number stands only where the stage has `each`
abbrev pub is_place : Bool → Place → Bool
is_place each (Fixed n) = true
is_place each (Plus n) = each
is_place each (Minus n) = each

-- the variable is there
abbrev pub is_ref : List Var → Bool → Ref → Bool
is_ref vars each ref = nat_lt ref.var (length vars) && is_place each ref.place

-- the argument is there
abbrev pub is_param : ℕ → Param → Bool
is_param args (Const number) = true
is_param args (Arg a) = nat_lt a args

-- whether what a stage reads and writes are variables that are there
abbrev pub has_refs : List Var → Stage → Bool
has_refs vars stage = list_all (is_ref vars true) stage.reads && list_all (is_ref vars true) stage.writes

-- no object stands twice
abbrev pub are_distinct : List Object → Bool
are_distinct [] = true
are_distinct (object ∷ objects) = not (list_any (λ (o : Object). o.0 == object.0) objects) && are_distinct objects

-- no task of a stage writes an object twice
abbrev pub has_distinct : List Var → Stage → Bool
has_distinct vars stage =
    list_all (λ i. are_distinct (map (object_meant vars i) stage.writes)) (range_with_len 0 (task_count vars stage))

-- its counts are its function's, what it names is there, and no task of it writes an object twice
abbrev pub is_stage : List Var → ℕ → Stage → Bool
is_stage vars args stage = has_counts stage.func (length stage.params) (length stage.reads) (length stage.writes)
    && list_all (is_param args) stage.params && list_all (is_ref vars stage.each) stage.reads
    && list_all (is_ref vars stage.each) stage.writes
    && has_distinct vars stage

-- at most 8 arguments and 1,024 tasks
abbrev pub is_whole_block : List Var → Block → Bool
is_whole_block vars block = nat_le block.args 8 && nat_le (sum_by (task_count vars) block.stages) 1024
    && list_all (is_stage vars block.args) block.stages

-- ---- statements

-- From how many loops, whiles and ifs stand around a statement, and how many scalars the lines before it set: how
-- many are set behind it. Nothing where the statement isn't whole.
abbrev pub Scan : Type 0
Scan = ℕ → ℕ → Option ℕ

-- a scalar that is read was set before
abbrev pub is_atom : ℕ → Atom → Bool
is_atom scalars (atom.Const number) = true
is_atom scalars (atom.Scalar s) = nat_lt s scalars

-- behind the first atom of a `let` no scalar is read that wasn't set before
abbrev pub is_rest : ℕ → Option (Arith × Atom) → Bool
is_rest scalars None = true
is_rest scalars (Some rest) = is_atom scalars rest.1

-- on neither side of a condition a scalar is read that wasn't set before
abbrev pub is_cond : ℕ → Cond → Bool
is_cond scalars cond = is_atom scalars cond.left && is_atom scalars cond.right

-- A scalar is set that was set before, or the next one; there are at most 64.
abbrev pub set_at : ℕ → ℕ → Option ℕ
set_at scalars s =
    if nat_lt s scalars then Some scalars else if (s == scalars) && nat_lt s 64 then Some (scalars + 1) else None

-- a block is there and takes so many arguments
abbrev pub is_call : Job → ℕ → ℕ → Bool
is_call job block args = option_map_or (λ b. args == b.args) (slice_get job.blocks block) false

-- statements one after another
abbrev pub scan_all : List Scan → Scan
scan_all [] depth scalars = Some scalars
scan_all (scan ∷ scans) depth scalars = option_and_then (λ behind. scan_all scans depth behind) (scan depth scalars)

-- loops, whiles and ifs nest at most 16 deep
abbrev pub scan_body : List Scan → Scan
scan_body scans depth scalars = if nat_lt depth 16 then scan_all scans (depth + 1) scalars else None

-- a statement, of its parts
abbrev pub scan_stmt : Job → Stmt-F Scan → Scan
scan_stmt job (Stmt-F.Do block args) depth scalars =
    if is_call job block (length args) && list_all (is_atom scalars) args then Some scalars else None
scan_stmt job (Stmt-F.Let s first rest) depth scalars =
    if is_atom scalars first && is_rest scalars rest then set_at scalars s else None
scan_stmt job (Stmt-F.Get s var part row cell) depth scalars =
    if nat_lt var (length job.vars) then set_at scalars s else None
scan_stmt job (Stmt-F.Loop turns body) depth scalars =
    if is_atom scalars turns then scan_body body depth scalars else None
scan_stmt job (Stmt-F.While cond body) depth scalars =
    if is_cond scalars cond then scan_body body depth scalars else None
scan_stmt job (Stmt-F.If cond first second) depth scalars =
    if is_cond scalars cond then option_and_then (λ behind. scan_body second depth behind)
    (scan_body first depth scalars) else None
scan_stmt job Stmt-F.Checkpoint depth scalars = Some scalars
scan_stmt job (Stmt-F.Output var) depth scalars = if nat_lt var (length job.vars) then Some scalars else None

-- a statement with all that it holds
abbrev pub scan_of : Job → Stmt → Scan
scan_of job stmt = fold-Stmt Scan (scan_stmt job) stmt

-- how many scalars a body sets, where it is whole
abbrev pub scalars_set : Job → Option ℕ
scalars_set job = scan_all (map (scan_of job) job.body) 0 0

-- ---- jobs

-- 1 to 1,000,000 statements may be counted, there are at most 32 blocks, and each part of the tree is whole, but that
-- loaded values may be missing
abbrev pub is_checked : Job → Bool
is_checked job = is_between 1 1000000 job.steps && are_vars job.vars && nat_le (length job.blocks) 32
    && list_all (is_whole_block job.vars) job.blocks && is_some (scalars_set job)

-- and no loaded values are missing
abbrev pub is_whole : Job → Bool
is_whole job = is_checked job && list_all is_filled job.vars

-- whether the object is one of so many
abbrev pub is_object_within : ℕ → Object → Bool
is_object_within objects object = nat_lt object.0 objects

-- whether a task's counts are its function's, what it reads and writes are of so many objects, and it writes none twice
abbrev pub is_whole_task : ℕ → Task → Bool
is_whole_task objects task = has_counts task.func (length task.params) (length task.reads) (length task.writes)
    && list_all (is_object_within objects) task.reads && list_all
    (is_object_within objects) task.writes && are_distinct task.writes
