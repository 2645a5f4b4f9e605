-- The tree that a printer gives a job: names in place of numbers, and each line its number.
use Rattle.std.specs.Prelude.{ℕ, ◌+◌, List, [], ◌∷◌, ◌++◌, length, map, slice_index_or, codes, decimal, Option, None, Some}
use Rattle.std.specs.List.{flat_map, range_with_len}
use Rattle.nim_base.specs.declared.task.Func.{Func}
use Rattle.nim_base.specs.declared.task.Func.TheVariants as func
use Rattle.nim_base.specs.declared.task.Param.{Param}
use Rattle.nim_base.specs.declared.task.Param.TheVariants.{Const, Arg}
use Rattle.nim_job.specs.declared.block.Block.{Block as job_block}
use Rattle.nim_job.specs.declared.block.Place.{Place}
use Rattle.nim_job.specs.declared.block.Place.TheVariants.{Fixed, Plus, Minus}
use Rattle.nim_job.specs.declared.block.Ref.{Ref as job_ref}
use Rattle.nim_job.specs.declared.block.Stage.{Stage as job_stage}
use Rattle.nim_job.specs.declared.job.Init.{Init as job_init}
use Rattle.nim_job.specs.declared.job.Init.TheVariants as init
use Rattle.nim_job.specs.declared.job.Job.{Job}
use Rattle.nim_job.specs.declared.job.Var.{Var as job_var}
use Rattle.nim_job.specs.declared.stmt.Arith.{Arith}
use Rattle.nim_job.specs.declared.stmt.Arith.TheVariants as arith_is
use Rattle.nim_job.specs.declared.stmt.Atom.{Atom as job_atom}
use Rattle.nim_job.specs.declared.stmt.Atom.TheVariants as atom_is
use Rattle.nim_job.specs.declared.stmt.Cmp.{Cmp}
use Rattle.nim_job.specs.declared.stmt.Cmp.TheVariants as cmp
use Rattle.nim_job.specs.declared.stmt.Cond.{Cond}
use Rattle.nim_job.specs.declared.stmt.Stmt.{Stmt, fold-Stmt}
use Rattle.nim_job.specs.declared.stmt.Stmt.TheOpen.{Stmt-F}
use Rattle.nim_parse.specs.declared.sections.Atom.{Atom}
use Rattle.nim_parse.specs.declared.sections.Atom.TheVariants.{Number, Name}
use Rattle.nim_parse.specs.declared.sections.Block.{Block}
use Rattle.nim_parse.specs.declared.sections.Condition.{Condition}
use Rattle.nim_parse.specs.declared.sections.Condition.TheVariants.{Holds}
use Rattle.nim_parse.specs.declared.sections.Expression.{Expression}
use Rattle.nim_parse.specs.declared.sections.Expression.TheVariants.{Alone, Two}
use Rattle.nim_parse.specs.declared.sections.Index.{Index}
use Rattle.nim_parse.specs.declared.sections.Index.TheVariants.{Part, After, Before}
use Rattle.nim_parse.specs.declared.sections.Init.{Init}
use Rattle.nim_parse.specs.declared.sections.Init.TheVariants.{Fill, Iota, Load}
use Rattle.nim_parse.specs.declared.sections.Line.{Line}
use Rattle.nim_parse.specs.declared.sections.Operator.{Operator}
use Rattle.nim_parse.specs.declared.sections.Operator.TheVariants.{Add, Subtract, Multiply, Divide, Remainder}
use Rattle.nim_parse.specs.declared.sections.Ref.{Ref}
use Rattle.nim_parse.specs.declared.sections.Relation.{Relation}
use Rattle.nim_parse.specs.declared.sections.Relation.TheVariants.{Less, AtMost, Equal, NotEqual, Greater, AtLeast}
use Rattle.nim_parse.specs.declared.sections.Stage.{Stage}
use Rattle.nim_parse.specs.declared.sections.Statement.{Statement}
use Rattle.nim_parse.specs.declared.sections.Statement.TheVariants.{Do, Let, Get, Loop, While, If, Else, End, Checkpoint, Output}
use Rattle.nim_parse.specs.declared.sections.Sections.{Sections}
use Rattle.nim_parse.specs.declared.sections.Var.{Var}

-- ---- names

-- arguments and scalars have no names in a job
abbrev pub argument_name : ℕ → List ℕ
argument_name arg = codes "k" ++ decimal arg

-- what a scalar is called that has a number alone: `s` and the number
abbrev pub scalar_name : ℕ → List ℕ
scalar_name scalar = codes "s" ++ decimal scalar

-- what a variable is called, by its number; no bytes where there is none
abbrev pub var_name : List job_var → ℕ → List ℕ
var_name vars var = slice_index_or (map (λ v. v.name) vars) var []

-- what a block is called, by its number; no bytes where there is none
abbrev pub block_name : List job_block → ℕ → List ℕ
block_name blocks block = slice_index_or (map (λ b. b.name) blocks) block []

-- what a function is called in the language
abbrev pub func_name : Func → List ℕ
func_name func.Set = codes "set"
func_name func.Copy = codes "copy"
func_name func.Addc = codes "addc"
func_name func.Mulc = codes "mulc"
func_name func.Add = codes "add"
func_name func.Sub = codes "sub"
func_name func.Max = codes "max"
func_name func.Sum = codes "sum"
func_name func.Total = codes "total"
func_name func.Count = codes "count"
func_name func.Stencil = codes "stencil"
func_name func.Keep = codes "keep"
func_name func.Group = codes "group"
func_name func.Merge = codes "merge"
func_name func.Split = codes "split"

-- ---- variables and blocks, the first on a line of this number

-- what a variable holds at first; of loaded data only that they are to be loaded
abbrev pub init_for : job_init → Init
init_for (init.Fill number) = Fill number
init_for init.Iota = Iota
init_for (init.Loaded values) = Load

-- the lines of variables, the first of them with this number
abbrev pub vars_for : ℕ → List job_var → List Var
vars_for line [] = []
vars_for line (v ∷ vars) =
    record {
      line = line;
      name = v.name;
      parts = v.parts;
      width = v.shape.width;
      rows = v.shape.rows;
      init =
          init_for v.init;
    } ∷ vars_for (line + 1) vars

-- which part a reference means: a number, or `i` with a number that is added or taken away
abbrev pub index_for : Place → Index
index_for (Fixed number) = Part number
index_for (Plus number) = After number
index_for (Minus number) = Before number

-- a reference by its variable's name in place of the number
abbrev pub ref_for : List job_var → job_ref → Ref
ref_for vars ref = record { name = var_name vars ref.var; index = index_for ref.place }

-- a number as it stands, an argument of the block by its name
abbrev pub param_for : Param → Atom
param_for (Const number) = Number number
param_for (Arg arg) = Name (argument_name arg)

-- the lines of a block's stages, the first of them with this number
abbrev pub stages_for : List job_var → ℕ → List job_stage → List Stage
stages_for vars line [] = []
stages_for vars line (stage ∷ stages) =
    record {
      line = line;
      function = func_name stage.func;
      reads = map (ref_for vars) stage.reads;
      writes = map (ref_for vars) stage.writes;
      parameters = map param_for stage.params;
      each = stage.each;
    } ∷ stages_for vars (line + 1) stages

-- a head, its stages and an `end`
abbrev pub block_lines : job_block → ℕ
block_lines block = 2 + length block.stages

-- the lines of blocks, the head of the first with this number
abbrev pub blocks_for : List job_var → ℕ → List job_block → List Block
blocks_for vars line [] = []
blocks_for vars line (block ∷ blocks) =
    record {
      line = line;
      name = block.name;
      arguments = map argument_name (range_with_len 0 block.args);
      stages = stages_for vars (line + 1) block.stages;
    } ∷ blocks_for vars (line + block_lines block) blocks

-- how many lines blocks have
abbrev pub blocks_lines : List job_block → ℕ
blocks_lines [] = 0
blocks_lines (block ∷ blocks) = block_lines block + blocks_lines blocks

-- ---- statements

-- a number as it stands, a scalar by its name
abbrev pub atom_for : job_atom → Atom
atom_for (atom_is.Const number) = Number number
atom_for (atom_is.Scalar scalar) = Name (scalar_name scalar)

-- the sign of what a `let` does with its two atoms
abbrev pub operator_for : Arith → Operator
operator_for arith_is.Plus = Add
operator_for arith_is.Minus = Subtract
operator_for arith_is.Times = Multiply
operator_for arith_is.Divide = Divide
operator_for arith_is.Remainder = Remainder

-- the sign of how a condition compares its two atoms
abbrev pub relation_for : Cmp → Relation
relation_for cmp.Less = Less
relation_for cmp.AtMost = AtMost
relation_for cmp.Equal = Equal
relation_for cmp.Differs = NotEqual
relation_for cmp.Greater = Greater
relation_for cmp.AtLeast = AtLeast

-- the value of a `let`: its first atom, and behind it a sign and another one if there is a rest
abbrev pub value_for : job_atom → Option (Arith × job_atom) → Expression
value_for first None = Alone (atom_for first)
value_for first (Some rest) = Two (atom_for first) (operator_for rest.0) (atom_for rest.1)

-- a condition, always written with both its atoms
abbrev pub condition_for : Cond → Condition
condition_for cond = Holds (atom_for cond.left) (relation_for cond.cmp) (atom_for cond.right)

-- the statements of several parts, one part behind another
abbrev pub joined : List (List Statement) → List Statement
joined parts = flat_map (λ part. part) parts

-- no `else` where nothing stands behind it
abbrev pub else_for : List (List Statement) → List Statement
else_for [] = []
else_for (part ∷ parts) = Else ∷ joined (part ∷ parts)

-- the statements on lines of their own, in order, from those of the parts
abbrev pub stmt_for : Job → Stmt-F (List Statement) → List Statement
stmt_for job (Stmt-F.Do block args) = Do (block_name job.blocks block) (map atom_for args) ∷ []
stmt_for job (Stmt-F.Let scalar first rest) = Let (scalar_name scalar) (value_for first rest) ∷ []
stmt_for job (Stmt-F.Get scalar var part row cell) = Get (scalar_name scalar) (var_name job.vars var) part row cell ∷ []
stmt_for job (Stmt-F.Loop turns body) = Loop (atom_for turns) ∷ joined body ++ End ∷ []
stmt_for job (Stmt-F.While cond body) = While (condition_for cond) ∷ joined body ++ End ∷ []
stmt_for job (Stmt-F.If cond first second) = If (condition_for cond) ∷ joined first ++ else_for second ++ End ∷ []
stmt_for job Stmt-F.Checkpoint = Checkpoint ∷ []
stmt_for job (Stmt-F.Output var) = Output (var_name job.vars var) ∷ []

-- a statement with all that it holds, on lines of their own
abbrev pub statements_of : Job → Stmt → List Statement
statements_of job stmt = fold-Stmt (List Statement) (stmt_for job) stmt

-- statements on lines one after another, the first of them with this number
abbrev pub lines_for : ℕ → List Statement → List Line
lines_for line [] = []
lines_for line (statement ∷ statements) =
    record { line = line; statement = statement } ∷ lines_for (line + 1) statements

-- ---- jobs

-- The header is line 1 and `steps` line 2.
abbrev pub tree_for : Job → Sections
tree_for job = record {
  steps = Some (record { line = 2; most = job.steps });
  vars = vars_for 3 job.vars;
  blocks = blocks_for job.vars (3 + length job.vars) job.blocks;
  statements = lines_for (3 + length job.vars + blocks_lines job.blocks) (flat_map (statements_of job) job.body);
}
