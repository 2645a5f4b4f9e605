-- The rules on what a driver's lines say, by number. Each tells whether it refuses a line, which it knows with what
-- stands before it.
use Rattle.std.specs.Prelude.{ℕ, ◌+◌, ◌==◌, Bool, true, false, not, ◌&&◌, ◌||◌, nat_le, nat_lt, if◌then◌else◌, is_none, List, [], ◌∷◌, ◌++◌, length, map, slice_get, Option, None, Some, unwrap_or}
use Rattle.std.specs.List.{list_all, list_any, sum_by}
use Rattle.std.specs.Option.{option_map_or}
use Rattle.nim_base.specs.declared.task.Func.TheVariants as func
use Rattle.nim_base.specs.Apply.{has_counts}
use Rattle.nim_job.specs.declared.job.Var.{Var as job_var}
use Rattle.nim_job.specs.Objects.{objects_of}
use Rattle.nim_job.specs.Tasks.{task_count}
use Rattle.nim_job.specs.Whole.{cells_in, has_distinct, is_between, is_var}
use Rattle.nim_parse.specs.declared.sections.Atom.{Atom}
use Rattle.nim_parse.specs.declared.sections.Atom.TheVariants.{Number, Name}
use Rattle.nim_parse.specs.declared.sections.Block.{Block}
use Rattle.nim_parse.specs.declared.sections.Condition.{Condition}
use Rattle.nim_parse.specs.declared.sections.Condition.TheVariants.{NotZero, Holds}
use Rattle.nim_parse.specs.declared.sections.Expression.{Expression}
use Rattle.nim_parse.specs.declared.sections.Expression.TheVariants.{Alone, Two}
use Rattle.nim_parse.specs.declared.sections.Index.{Index}
use Rattle.nim_parse.specs.declared.sections.Index.TheVariants.{Part}
use Rattle.nim_parse.specs.declared.sections.Ref.{Ref}
use Rattle.nim_parse.specs.declared.sections.Stage.{Stage}
use Rattle.nim_parse.specs.declared.sections.Statement.{Statement}
use Rattle.nim_parse.specs.declared.sections.Statement.TheVariants.{Do, Let, Get, Loop, While, If, Output}
use Rattle.nim_check.specs.Made.{block_names, stage_of, var_names, var_of}
use Rattle.nim_check.specs.Names.{Word, func_of, has_twice, is_in, place_in, reserved}
use Rattle.nim_check.specs.DriverPlaces.{DriverPlace, at_steps, at_var, at_block, at_stage, at_statement, scope_with}

-- ---- what the rules ask

-- the scalar that a statement sets
abbrev pub set_by : Statement → List Word
set_by (Let name value) = name ∷ []
set_by (Get name variable part row column) = name ∷ []
set_by _ = []

-- the names that a line gives a meaning
abbrev pub declared_by : DriverPlace → List Word
declared_by (at_var before v) = v.name ∷ []
declared_by (at_block vars before block) = block.name ∷ block.arguments
declared_by (at_statement tree scope line) = set_by line.statement
declared_by _ = []

-- the references of a stage, those that it reads first
abbrev pub refs_of : Stage → List Ref
refs_of stage = stage.reads ++ stage.writes

-- a reference has the task's own number
abbrev pub is_own : Index → Bool
is_own (Part number) = false
is_own _ = true

-- the variables are within their number, that of their objects, and that of their cells
abbrev pub are_few : List job_var → Bool
are_few vars = nat_le (length vars) 32 && nat_le (objects_of vars) 512 && nat_le (sum_by cells_in vars) 1048576

-- a number, or a name that is one of these
abbrev pub is_known : List Word → Atom → Bool
is_known words (Number number) = true
is_known words (Name name) = is_in words name

-- whether the variable that a statement names is there
abbrev pub has_variable : List Word → Statement → Bool
has_variable vars (Get name variable part row column) = is_in vars variable
has_variable vars (Output variable) = is_in vars variable
has_variable vars _ = true

-- whether the block that a statement names is there, and takes so many arguments
abbrev pub has_block : List Block → Statement → Bool
has_block blocks (Do block arguments) = option_map_or (λ b. length arguments == length b.arguments)
    (slice_get blocks (place_in (block_names blocks) block)) false
has_block blocks _ = true

-- the atoms of the value of a `let`, one or two
abbrev pub value_reads : Expression → List Atom
value_reads (Alone atom) = atom ∷ []
value_reads (Two left operator right) = left ∷ right ∷ []

-- the atoms of a condition, one or two
abbrev pub condition_reads : Condition → List Atom
condition_reads (NotZero atom) = atom ∷ []
condition_reads (Holds left relation right) = left ∷ right ∷ []

-- what a statement reads
abbrev pub read_by : Statement → List Atom
read_by (Do block arguments) = arguments
read_by (Let name value) = value_reads value
read_by (Loop turns) = turns ∷ []
read_by (While condition) = condition_reads condition
read_by (If condition) = condition_reads condition
read_by _ = []

-- a loop, while or if begins
abbrev pub opens : Statement → Bool
opens (Loop turns) = true
opens (While condition) = true
opens (If condition) = true
opens _ = false

-- ---- the rules

-- `steps` isn't 1 to 1,000,000
abbrev pub rule_40 : DriverPlace → Bool
rule_40 (at_steps steps) = not (is_between 1 1000000 steps.most)
rule_40 _ = false

-- a declared variable, block, argument or a set scalar is a reserved word
abbrev pub rule_41 : DriverPlace → Bool
rule_41 place = list_any (is_in reserved) (declared_by place)

-- a variable or block whose name a variable or block has; an argument twice in one block
abbrev pub rule_42 : DriverPlace → Bool
rule_42 (at_var before v) = is_in (var_names before) v.name
rule_42 (at_block vars before block) =
    is_in (var_names vars) block.name || is_in (block_names before) block.name || has_twice block.arguments
rule_42 _ = false

-- parts not 1 to 64; width or rows not 1 to 65,536; width times rows more than 65,536
abbrev pub rule_43 : DriverPlace → Bool
rule_43 (at_var before v) = not (is_var (var_of v))
rule_43 _ = false

-- with this line more than 32 variables, 512 objects, 1,048,576 cells, 32 blocks, 8 arguments of a block, or 64 scalars
abbrev pub rule_44 : DriverPlace → Bool
rule_44 (at_var before v) = not (are_few (map var_of (before ++ v ∷ [])))
rule_44 (at_block vars before block) = nat_lt 32 (length before + 1) || nat_lt 8 (length block.arguments)
rule_44 (at_statement tree scope line) = nat_lt 64 (length (scope_with scope line.statement).scalars)
rule_44 _ = false

-- an unknown function
abbrev pub rule_45 : DriverPlace → Bool
rule_45 (at_stage vars block before stage) = is_none (func_of stage.function)
rule_45 _ = false

-- counts of reads, writes or parameters other than the function's
abbrev pub rule_46 : DriverPlace → Bool
rule_46 (at_stage vars block before stage) =
    not (has_counts (unwrap_or (func_of stage.function) func.Set) (length stage.parameters) (length stage.reads)
    (length stage.writes))
rule_46 _ = false

-- a name that isn't a variable, in a reference, `get` or `output`
abbrev pub rule_47 : DriverPlace → Bool
rule_47 (at_stage vars block before stage) =
    not (list_all (λ (ref : Ref). is_in (var_names vars) ref.name) (refs_of stage))
rule_47 (at_statement tree scope line) = not (has_variable (var_names tree.vars) line.statement)
rule_47 _ = false

-- `i` in a reference of a stage without `each i`
abbrev pub rule_48 : DriverPlace → Bool
rule_48 (at_stage vars block before stage) =
    not stage.each && list_any (λ (ref : Ref). is_own ref.index) (refs_of stage)
rule_48 _ = false

-- a task that writes one object twice
abbrev pub rule_49 : DriverPlace → Bool
rule_49 (at_stage vars block before stage) =
    not (has_distinct (map var_of vars) (stage_of (var_names vars) block.arguments stage))
rule_49 _ = false

-- a name after `with` that isn't an argument of the block
abbrev pub rule_50 : DriverPlace → Bool
rule_50 (at_stage vars block before stage) = not (list_all (is_known block.arguments) stage.parameters)
rule_50 _ = false

-- with this line more than 1,024 tasks in the block
abbrev pub rule_51 : DriverPlace → Bool
rule_51 (at_stage vars block before stage) =
    nat_lt 1024 (sum_by (task_count (map var_of vars))
    (map (stage_of (var_names vars) block.arguments) (before ++ stage ∷ [])))
rule_51 _ = false

-- `do` of an unknown block or with another number of arguments
abbrev pub rule_52 : DriverPlace → Bool
rule_52 (at_statement tree scope line) = not (has_block tree.blocks line.statement)
rule_52 _ = false

-- a scalar that is read and that no earlier line sets
abbrev pub rule_53 : DriverPlace → Bool
rule_53 (at_statement tree scope line) = not (list_all (is_known scope.scalars) (read_by line.statement))
rule_53 _ = false

-- loops, whiles and ifs nested more than 16 deep
abbrev pub rule_54 : DriverPlace → Bool
rule_54 (at_statement tree scope line) = opens line.statement && nat_le 16 scope.depth
rule_54 _ = false

-- ---- the table

-- a row of the table: its number, and which lines it refuses
pub record Rule : Type 0 where
  pub number : ℕ
  pub refuses : DriverPlace → Bool

-- all rules, the smallest number first
abbrev pub rules : List Rule
rules =
    record { number = 40; refuses = rule_40 }
    ∷ record { number = 41; refuses = rule_41 }
    ∷ record { number = 42; refuses = rule_42 }
    ∷ record { number = 43; refuses = rule_43 }
    ∷ record { number = 44; refuses = rule_44 }
    ∷ record { number = 45; refuses = rule_45 }
    ∷ record { number = 46; refuses = rule_46 }
    ∷ record { number = 47; refuses = rule_47 }
    ∷ record { number = 48; refuses = rule_48 }
    ∷ record { number = 49; refuses = rule_49 }
    ∷ record { number = 50; refuses = rule_50 }
    ∷ record { number = 51; refuses = rule_51 }
    ∷ record { number = 52; refuses = rule_52 }
    ∷ record { number = 53; refuses = rule_53 }
    ∷ record { number = 54; refuses = rule_54 }
    ∷ []

-- the number of the first of these rules that refuses a line, if one does
abbrev pub first_that : List Rule → DriverPlace → Option ℕ
first_that [] place = None
first_that (rule ∷ rules) place = if rule.refuses place then Some rule.number else first_that rules place

-- the smallest rule that refuses a line
unfoldable pub rule_of : DriverPlace → Option ℕ
rule_of place = first_that rules place
