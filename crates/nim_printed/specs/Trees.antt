-- Which trees a printer can print: names are names that aren't reserved, numbers are in the ranges of the language,
-- each
-- stage writes something, and statements nest.
use Rattle.std.specs.Prelude.{Bool, true, false, ◌&&◌, List, [], ◌∷◌, Option, None, Some}
use Rattle.std.specs.List.{list_all}
use Rattle.nim_parse.specs.declared.nest.Open.{Open}
use Rattle.nim_parse.specs.declared.sections.Atom.{Atom}
use Rattle.nim_parse.specs.declared.sections.Atom.TheVariants.{Number, Name}
use Rattle.nim_parse.specs.declared.sections.Block.{Block}
use Rattle.nim_parse.specs.declared.sections.Condition.{Condition}
use Rattle.nim_parse.specs.declared.sections.Condition.TheVariants.{NotZero, Holds}
use Rattle.nim_parse.specs.declared.sections.Expression.{Expression}
use Rattle.nim_parse.specs.declared.sections.Expression.TheVariants.{Alone, Two}
use Rattle.nim_parse.specs.declared.sections.Index.{Index}
use Rattle.nim_parse.specs.declared.sections.Index.TheVariants.{Part, Own, After, Before}
use Rattle.nim_parse.specs.declared.sections.Init.{Init}
use Rattle.nim_parse.specs.declared.sections.Init.TheVariants.{Fill}
use Rattle.nim_parse.specs.declared.sections.Line.{Line}
use Rattle.nim_parse.specs.declared.sections.Ref.{Ref}
use Rattle.nim_parse.specs.declared.sections.Stage.{Stage}
use Rattle.nim_parse.specs.declared.sections.Statement.{Statement}
use Rattle.nim_parse.specs.declared.sections.Statement.TheVariants.{Do, Let, Get, Loop, While, If, Else, End, Checkpoint, Output}
use Rattle.nim_parse.specs.declared.sections.Steps.{Steps}
use Rattle.nim_parse.specs.declared.sections.Sections.{Sections}
use Rattle.nim_parse.specs.declared.sections.Var.{Var}
use Rattle.nim_parse.specs.Nesting.{is_empty, open_after}
use Rattle.nim_printed.specs.Spelled.{is_unreserved, is_int, is_small}

-- a number of 64 bits with its sign, or a name that isn't reserved
abbrev pub is_printable_atom : Atom → Bool
is_printable_atom (Number number) = is_int number
is_printable_atom (Name name) = is_unreserved name

-- the number of a part, or what is added to `i` or taken away, can be written
abbrev pub is_index : Index → Bool
is_index (Part number) = is_small number
is_index Own = true
is_index (After number) = is_small number
is_index (Before number) = is_small number

-- a name that isn't reserved, and a part that can be written
abbrev pub is_printable_ref : Ref → Bool
is_printable_ref ref = is_unreserved ref.name && is_index ref.index

-- a number that fills the variable is one of 64 bits
abbrev pub is_printable_init : Init → Bool
is_printable_init (Fill number) = is_int number
is_printable_init _ = true

-- the most statements that are counted, if that is said, can be written
abbrev pub is_steps : Option Steps → Bool
is_steps None = true
is_steps (Some steps) = is_small steps.most

-- a name that isn't reserved, and numbers that can be written
abbrev pub is_printable_var : Var → Bool
is_printable_var v = is_unreserved v.name && is_small v.parts && is_small v.width && is_small v.rows &&
    is_printable_init v.init

-- one reference or more, each of which can be written
abbrev pub is_some_refs : List Ref → Bool
is_some_refs [] = false
is_some_refs (ref ∷ refs) = list_all is_printable_ref (ref ∷ refs)

-- a name that isn't reserved, one write or more, and references and parameters that can be written
abbrev pub is_printable_stage : Stage → Bool
is_printable_stage stage = is_unreserved stage.function && list_all is_printable_ref stage.reads && is_some_refs
    stage.writes
    && list_all is_printable_atom stage.parameters

-- a block's name and its arguments aren't reserved, and each of its stages can be written
abbrev pub is_printable_block : Block → Bool
is_printable_block block = is_unreserved block.name && list_all is_unreserved block.arguments && list_all
    is_printable_stage block.stages

-- each atom of the value of a `let` can be written
abbrev pub is_printable_value : Expression → Bool
is_printable_value (Alone atom) = is_printable_atom atom
is_printable_value (Two left operator right) = is_printable_atom left && is_printable_atom right

-- each atom of a condition can be written
abbrev pub is_condition : Condition → Bool
is_condition (NotZero atom) = is_printable_atom atom
is_condition (Holds left relation right) = is_printable_atom left && is_printable_atom right

-- the names of a statement aren't reserved, and its atoms and numbers can be written
abbrev pub is_statement : Statement → Bool
is_statement (Do block arguments) = is_unreserved block && list_all is_printable_atom arguments
is_statement (Let name value) = is_unreserved name && is_printable_value value
is_statement (Get name variable part row column) =
    is_unreserved name && is_unreserved variable && is_small part && is_small row && is_small column
is_statement (Loop turns) = is_printable_atom turns
is_statement (While condition) = is_condition condition
is_statement (If condition) = is_condition condition
is_statement Else = true
is_statement End = true
is_statement Checkpoint = true
is_statement (Output variable) = is_unreserved variable

-- nothing is open behind the statements
abbrev pub is_closed : Option (List Open) → Bool
is_closed None = false
is_closed (Some opened) = is_empty opened

-- each line of a tree can be written, and its statements close all that they open
abbrev pub is_printable : Sections → Bool
is_printable tree = is_steps tree.steps && list_all is_printable_var tree.vars && list_all is_printable_block
    tree.blocks
    && list_all (λ (line : Line). is_statement line.statement) tree.statements
    && is_closed (open_after [] tree.statements)
