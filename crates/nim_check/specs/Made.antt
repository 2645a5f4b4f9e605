-- The job that a tree stands for: numbers in place of names. What a name that isn't there gives is no matter, since a
-- rule refuses its line.
use Rattle.std.specs.Prelude.{ℕ, nat_lt, if◌then◌else◌, List, [], length, map, Option, unwrap_or}
use Rattle.std.specs.Option.{option_map_or}
use Rattle.nim_base.specs.declared.task.Func.TheVariants as func
use Rattle.nim_base.specs.declared.task.Param.{Param}
use Rattle.nim_base.specs.declared.task.Param.TheVariants as param
use Rattle.nim_job.specs.declared.block.Block.{Block as job_block}
use Rattle.nim_job.specs.declared.block.Place.{Place}
use Rattle.nim_job.specs.declared.block.Place.TheVariants.{Fixed, Plus, Minus}
use Rattle.nim_job.specs.declared.block.Ref.{Ref as job_ref}
use Rattle.nim_job.specs.declared.block.Stage.{Stage as job_stage}
use Rattle.nim_job.specs.declared.job.Init.{Init as job_init}
use Rattle.nim_job.specs.declared.job.Init.TheVariants as init
use Rattle.nim_job.specs.declared.job.Job.{Job}
use Rattle.nim_job.specs.declared.job.Var.{Var as job_var}
use Rattle.nim_parse.specs.declared.sections.Atom.{Atom}
use Rattle.nim_parse.specs.declared.sections.Atom.TheVariants.{Number, Name}
use Rattle.nim_parse.specs.declared.sections.Block.{Block}
use Rattle.nim_parse.specs.declared.sections.Index.{Index}
use Rattle.nim_parse.specs.declared.sections.Index.TheVariants.{Part, Own, After, Before}
use Rattle.nim_parse.specs.declared.sections.Init.{Init}
use Rattle.nim_parse.specs.declared.sections.Init.TheVariants.{Fill, Iota, Load}
use Rattle.nim_parse.specs.declared.sections.Ref.{Ref}
use Rattle.nim_parse.specs.declared.sections.Stage.{Stage}
use Rattle.nim_parse.specs.declared.sections.Steps.{Steps}
use Rattle.nim_parse.specs.declared.sections.Sections.{Sections}
use Rattle.nim_parse.specs.declared.sections.Var.{Var}
use Rattle.nim_check.specs.declared.body.Names.{Names}
use Rattle.nim_check.specs.Body.{body_of}
use Rattle.nim_check.specs.Names.{Word, func_of, place_in}
use Rattle.nim_check.specs.DriverPlaces.{scalars_of}

-- the text of a name; a byte past 127, which no name of a driver has, is a question mark
abbrev pub ascii_text : Word → Word
ascii_text word = map (λ b. if nat_lt b 128 then b else 63) word

-- the most statements that are counted, where the driver doesn't say
abbrev pub most_steps : ℕ
most_steps = 1000000

-- loaded data aren't there yet
abbrev pub init_of : Init → job_init
init_of (Fill number) = init.Fill number
init_of Iota = init.Iota
init_of Load = init.Loaded []

-- a declared variable: its name, how many parts it has, their shape, and what they hold at first
abbrev pub var_of : Var → job_var
var_of v = record {
  name = ascii_text v.name;
  parts = v.parts;
  shape = record { width = v.width; rows = v.rows };
  init =
      init_of v.init;
}

-- the names of variables, in order of declaration
abbrev pub var_names : List Var → List Word
var_names vars = map (λ v. v.name) vars

-- the names of blocks, in order of declaration
abbrev pub block_names : List Block → List Word
block_names blocks = map (λ b. b.name) blocks

-- a fixed part, or the task's own number and what is added to it or taken away; `i` alone adds 0
abbrev pub place_of : Index → Place
place_of (Part number) = Fixed number
place_of Own = Plus 0
place_of (After number) = Plus number
place_of (Before number) = Minus number

-- a reference by its variable's number in place of the name
abbrev pub ref_of : List Word → Ref → job_ref
ref_of vars ref = record { var = place_in vars ref.name; place = place_of ref.index }

-- a number as it stands, an argument of the block by its place
abbrev pub param_of : List Word → Atom → Param
param_of args (Number number) = param.Const number
param_of args (Name arg) = param.Arg (place_in args arg)

-- a stage by its function, the numbers of the variables that it reads and writes, and its parameters
abbrev pub stage_of : List Word → List Word → Stage → job_stage
stage_of vars args stage = record {
  func = unwrap_or (func_of stage.function) func.Set;
  reads = map (ref_of vars) stage.reads;
  writes = map (ref_of vars) stage.writes;
  params = map (param_of args) stage.parameters;
  each = stage.each;
}

-- a block by its name, how many arguments it has, and its stages
abbrev pub block_of : List Word → Block → job_block
block_of vars block = record {
  name = ascii_text block.name;
  args = length block.arguments;
  stages =
      map (stage_of vars block.arguments) block.stages;
}

-- the names that statements may use, each at the place of its number
abbrev pub names_of : Sections → Names
names_of tree =
    record { vars = var_names tree.vars; blocks = block_names tree.blocks; scalars = scalars_of tree.statements }

-- the most statements that are counted: what the `steps` line says, or the usual number without one
abbrev pub steps_of : Option Steps → ℕ
steps_of steps = option_map_or (λ s. s.most) steps most_steps

-- the job of a tree, but for loaded data
abbrev pub job_of : Sections → Job
job_of tree = record {
  steps = steps_of tree.steps;
  vars = map var_of tree.vars;
  blocks = map (block_of (var_names tree.vars)) tree.blocks;
  body = body_of (names_of tree) tree.statements;
}
