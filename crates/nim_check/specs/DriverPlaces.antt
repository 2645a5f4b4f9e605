-- The lines of a tree in their order, each with what stands before it.
use Rattle.std.specs.Prelude.{ℕ, ◌+◌, ◌-◌, if◌then◌else◌, List, [], ◌∷◌, ◌++◌, Option, None, Some}
use Rattle.nim_parse.specs.declared.sections.Block.{Block}
use Rattle.nim_parse.specs.declared.sections.Line.{Line}
use Rattle.nim_parse.specs.declared.sections.Stage.{Stage}
use Rattle.nim_parse.specs.declared.sections.Statement.{Statement}
use Rattle.nim_parse.specs.declared.sections.Statement.TheVariants.{Let, Get, Loop, While, If, End}
use Rattle.nim_parse.specs.declared.sections.Steps.{Steps}
use Rattle.nim_parse.specs.declared.sections.Sections.{Sections}
use Rattle.nim_parse.specs.declared.sections.Var.{Var}
use Rattle.nim_check.specs.declared.scope.Scope.{Scope}
use Rattle.nim_check.specs.Names.{Word, is_in}

-- what is in scope before the first statement: no scalar, and nothing is open
abbrev pub empty_scope : Scope
empty_scope = record { scalars = []; depth = 0 }

-- the scalars that are set, with one more at the end where it wasn't set before
abbrev pub with_scalar : List Word → Word → List Word
with_scalar scalars name = if is_in scalars name then scalars else scalars ++ name ∷ []

-- what is in scope behind one more statement: it may set a scalar, open a loop, while or if, or end one
abbrev pub scope_with : Scope → Statement → Scope
scope_with scope (Let name value) = record scope { scalars = with_scalar scope.scalars name }
scope_with scope (Get name variable part row column) = record scope { scalars = with_scalar scope.scalars name }
scope_with scope (Loop turns) = record scope { depth = scope.depth + 1 }
scope_with scope (While condition) = record scope { depth = scope.depth + 1 }
scope_with scope (If condition) = record scope { depth = scope.depth + 1 }
scope_with scope End = record scope { depth = scope.depth - 1 }
scope_with scope _ = scope

-- what is in scope behind some more lines
abbrev pub scope_of : Scope → List Line → Scope
scope_of scope [] = scope
scope_of scope (line ∷ lines) = scope_of (scope_with scope line.statement) lines

-- the scalars of a driver, in the order of the lines that first set them; the place of one is its number
abbrev pub scalars_of : List Line → List Word
scalars_of lines = (scope_of empty_scope lines).scalars

-- A place in a driver: a line with what it may refer to. That is of a variable those before it; of a block's head the
-- variables and the blocks before it; of a stage the variables, its block and the stages before it; of a statement the
-- whole tree and what is in scope.
pub data DriverPlace : Type 0 where
  at_steps : Steps → DriverPlace
  at_var : List Var → Var → DriverPlace
  at_block : List Var → List Block → Block → DriverPlace
  at_stage : List Var → Block → List Stage → Stage → DriverPlace
  at_statement : Sections → Scope → Line → DriverPlace

-- the number of the line
abbrev pub place_line : DriverPlace → ℕ
place_line (at_steps steps) = steps.line
place_line (at_var before v) = v.line
place_line (at_block vars before block) = block.line
place_line (at_stage vars block before stage) = stage.line
place_line (at_statement tree scope line) = line.line

-- the `steps` line, if there is one
abbrev pub places_of_steps : Option Steps → List DriverPlace
places_of_steps None = []
places_of_steps (Some steps) = at_steps steps ∷ []

-- the lines of variables behind others, each with all those before it
abbrev pub places_of_vars : List Var → List Var → List DriverPlace
places_of_vars before [] = []
places_of_vars before (v ∷ vars) = at_var before v ∷ places_of_vars (before ++ v ∷ []) vars

-- the lines of a block's stages behind others, each with all those before it
abbrev pub places_of_stages : List Var → Block → List Stage → List Stage → List DriverPlace
places_of_stages vars block before [] = []
places_of_stages vars block before (stage ∷ stages) =
    at_stage vars block before stage ∷ places_of_stages vars block (before ++ stage ∷ []) stages

-- a block's head, and its stages
abbrev pub places_of_block : List Var → List Block → Block → List DriverPlace
places_of_block vars before block = at_block vars before block ∷ places_of_stages vars block [] block.stages

-- the lines of blocks behind others, each block's own line with all blocks before it
abbrev pub places_of_blocks : List Var → List Block → List Block → List DriverPlace
places_of_blocks vars before [] = []
places_of_blocks vars before (block ∷ blocks) =
    places_of_block vars before block ++ places_of_blocks vars (before ++ block ∷ []) blocks

-- the lines of statements behind others, each with what is in scope there
abbrev pub places_of_statements : Sections → Scope → List Line → List DriverPlace
places_of_statements tree scope [] = []
places_of_statements tree scope (line ∷ lines) =
    at_statement tree scope line ∷ places_of_statements tree (scope_with scope line.statement) lines

-- all lines of a tree
abbrev pub places_of_tree : Sections → List DriverPlace
places_of_tree tree = places_of_steps tree.steps ++ (places_of_vars [] tree.vars
    ++ (places_of_blocks tree.vars [] tree.blocks ++ places_of_statements tree empty_scope tree.statements))
