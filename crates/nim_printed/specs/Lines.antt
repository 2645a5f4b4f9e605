-- The words of a tree, line by line.
use Rattle.std.specs.Prelude.{ℕ, ℤ, pos, negsuc, ◌+◌, suc, Bool, if◌then◌else◌, List, [], ◌∷◌, ◌++◌, length, map, codes, decimal, Option, None, Some}
use Rattle.std.specs.List.{flat_map}
use Rattle.nim_parse.specs.declared.sections.Atom.{Atom}
use Rattle.nim_parse.specs.declared.sections.Atom.TheVariants.{Number, Name}
use Rattle.nim_parse.specs.declared.sections.Block.{Block}
use Rattle.nim_parse.specs.declared.sections.Condition.{Condition}
use Rattle.nim_parse.specs.declared.sections.Condition.TheVariants.{NotZero, Holds}
use Rattle.nim_parse.specs.declared.sections.Expression.{Expression}
use Rattle.nim_parse.specs.declared.sections.Expression.TheVariants.{Alone, Two}
use Rattle.nim_parse.specs.declared.sections.Index.{Index}
use Rattle.nim_parse.specs.declared.sections.Index.TheVariants.{Part, Own, After, Before}
use Rattle.nim_parse.specs.declared.sections.Init.{Init}
use Rattle.nim_parse.specs.declared.sections.Init.TheVariants.{Fill, Iota, Load}
use Rattle.nim_parse.specs.declared.sections.Line.{Line}
use Rattle.nim_parse.specs.declared.sections.Operator.{Operator}
use Rattle.nim_parse.specs.declared.sections.Operator.TheVariants.{Add, Subtract, Multiply, Divide, Remainder}
use Rattle.nim_parse.specs.declared.sections.Ref.{Ref}
use Rattle.nim_parse.specs.declared.sections.Relation.{Relation}
use Rattle.nim_parse.specs.declared.sections.Relation.TheVariants.{Less, AtMost, Equal, NotEqual, Greater, AtLeast}
use Rattle.nim_parse.specs.declared.sections.Stage.{Stage}
use Rattle.nim_parse.specs.declared.sections.Statement.{Statement}
use Rattle.nim_parse.specs.declared.sections.Statement.TheVariants.{Do, Let, Get, Loop, While, If, Else, End, Checkpoint, Output}
use Rattle.nim_parse.specs.declared.sections.Steps.{Steps}
use Rattle.nim_parse.specs.declared.sections.Sections.{Sections}
use Rattle.nim_parse.specs.declared.sections.Var.{Var}
use Rattle.nim_printed.specs.Words.{Word}

-- a number without a sign, which is one word
abbrev pub number_words : ℕ → List Word
number_words number = decimal number ∷ []

-- a number with its sign; a `-` before it is a word of its own
abbrev pub int_words : ℤ → List Word
int_words (pos n) = decimal n ∷ []
int_words (negsuc n) = codes "-" ∷ decimal (suc n) ∷ []

-- a number with its sign, or a name
abbrev pub atom_words : Atom → List Word
atom_words (Number number) = int_words number
atom_words (Name name) = name ∷ []

-- items with commas between them, in brackets
abbrev pub more_words : List (List Word) → List Word
more_words [] = codes ")" ∷ []
more_words (item ∷ items) = codes "," ∷ item ++ more_words items

-- all items of a list, in brackets; there may be none
abbrev pub listed_words : List (List Word) → List Word
listed_words [] = codes "(" ∷ codes ")" ∷ []
listed_words (item ∷ items) = codes "(" ∷ item ++ more_words items

-- which part a reference means: a number, `i` alone, or `i` with a number that is added or taken away
abbrev pub index_words : Index → List Word
index_words (Part number) = number_words number
index_words Own = codes "i" ∷ []
index_words (After number) = codes "i" ∷ codes "+" ∷ number_words number
index_words (Before number) = codes "i" ∷ codes "-" ∷ number_words number

-- a variable's name, and which part in square brackets
abbrev pub ref_words : Ref → List Word
ref_words ref = ref.name ∷ codes "[" ∷ index_words ref.index ++ codes "]" ∷ []

-- what a variable holds at first: `fill` with a number, `iota`, or `load`
abbrev pub init_words : Init → List Word
init_words (Fill number) = codes "fill" ∷ int_words number
init_words Iota = codes "iota" ∷ []
init_words Load = codes "load" ∷ []

-- the parameters of a stage behind `with`, no word where there are none
abbrev pub with_words : List Atom → List Word
with_words [] = []
with_words (atom ∷ atoms) = codes "with" ∷ flat_map atom_words (atom ∷ atoms)

-- `each i`, where a stage has turns
abbrev pub each_words : Bool → List Word
each_words each = if each then codes "each" ∷ codes "i" ∷ [] else []

-- the sign between the two atoms of a `let`
abbrev pub operator_word : Operator → Word
operator_word Add = codes "+"
operator_word Subtract = codes "-"
operator_word Multiply = codes "*"
operator_word Divide = codes "/"
operator_word Remainder = codes "%"

-- the sign between the two atoms of a condition
abbrev pub relation_word : Relation → Word
relation_word Less = codes "<"
relation_word AtMost = codes "<="
relation_word Equal = codes "="
relation_word NotEqual = codes "!="
relation_word Greater = codes ">"
relation_word AtLeast = codes ">="

-- what a `let` sets a scalar to: an atom, or two with a sign between
abbrev pub value_words : Expression → List Word
value_words (Alone atom) = atom_words atom
value_words (Two left operator right) = atom_words left ++ operator_word operator ∷ atom_words right

-- what a `while` or an `if` asks: an atom, or two with a sign between
abbrev pub condition_words : Condition → List Word
condition_words (NotZero atom) = atom_words atom
condition_words (Holds left relation right) = atom_words left ++ relation_word relation ∷ atom_words right

-- the line of the most statements that are counted, if there is one
abbrev pub steps_lines : Option Steps → List (List Word)
steps_lines None = []
steps_lines (Some steps) = (codes "steps" ∷ number_words steps.most) ∷ []

-- the line that declares a variable
abbrev pub var_words : Var → List Word
var_words v =
    codes "var" ∷ v.name ∷ codes "parts" ∷ number_words v.parts ++ codes "width" ∷ number_words v.width ++ codes "rows"
    ∷ number_words v.rows
    ++ init_words v.init

-- the line of a stage: function, reads and writes, then its parameters and its turns
abbrev pub stage_words : Stage → List Word
stage_words stage =
    stage.function ∷ flat_map ref_words stage.reads ++ codes "->" ∷ flat_map ref_words stage.writes
    ++ with_words stage.parameters ++ each_words stage.each

-- the lines of a block: its head, its stages, and an `end`
abbrev pub block_words : Block → List (List Word)
block_words block =
    (codes "block" ∷ block.name ∷ listed_words (map (λ argument. argument ∷ []) block.arguments))
    ∷ map stage_words block.stages ++ (codes "end" ∷ []) ∷ []

-- the line of a statement; what it encloses stands on lines of its own
abbrev pub statement_words : Statement → List Word
statement_words (Do block arguments) = codes "do" ∷ block ∷ listed_words (map atom_words arguments)
statement_words (Let name value) = codes "let" ∷ name ∷ codes "=" ∷ value_words value
statement_words (Get name variable part row column) =
    codes "get" ∷ name ∷ codes "=" ∷ variable ∷ codes "[" ∷ number_words part ++ codes "]" ∷ number_words row
    ++ number_words column
statement_words (Loop turns) = codes "loop" ∷ atom_words turns
statement_words (While condition) = codes "while" ∷ condition_words condition
statement_words (If condition) = codes "if" ∷ condition_words condition
statement_words Else = codes "else" ∷ []
statement_words End = codes "end" ∷ []
statement_words Checkpoint = codes "checkpoint" ∷ []
statement_words (Output variable) = codes "output" ∷ variable ∷ []

-- all lines of a tree
abbrev pub tree_words : Sections → List (List Word)
tree_words tree =
    (codes "nimbus" ∷ codes "1" ∷ []) ∷ steps_lines tree.steps ++ map var_words tree.vars
    ++ flat_map block_words tree.blocks
    ++ map (λ (line : Line). statement_words line.statement) tree.statements

-- ---- the numbers of the lines

-- variables on lines one after another, the first of them on this one
abbrev pub vars_numbered : ℕ → List Var → List Var
vars_numbered line [] = []
vars_numbered line (v ∷ vars) = record v { line = line } ∷ vars_numbered (line + 1) vars

-- stages on lines one after another, the first of them on this one
abbrev pub stages_numbered : ℕ → List Stage → List Stage
stages_numbered line [] = []
stages_numbered line (stage ∷ stages) = record stage { line = line } ∷ stages_numbered (line + 1) stages

-- blocks one after another with all their lines, the head of the first on this one
abbrev pub blocks_numbered : ℕ → List Block → List Block
blocks_numbered line [] = []
blocks_numbered line (block ∷ blocks) =
    record block { line = line; stages = stages_numbered (line + 1) block.stages }
    ∷ blocks_numbered (line + length (block_words block)) blocks

-- statements on lines one after another, the first of them on this one
abbrev pub lines_numbered : ℕ → List Line → List Line
lines_numbered number [] = []
lines_numbered number (line ∷ lines) = record line { line = number } ∷ lines_numbered (number + 1) lines

-- Behind the header, `steps`, variables, blocks and statements take the next lines.
abbrev pub steps_numbered : Option Steps → Option Steps
steps_numbered None = None
steps_numbered (Some steps) = Some (record steps { line = 2 })

-- the same tree with each line at the number that it has once the tree is printed
abbrev pub numbered : Sections → Sections
numbered tree =
    let vars = 2 + length (steps_lines tree.steps) in
    let blocks = vars + length tree.vars in
    record {
      steps = steps_numbered tree.steps;
      vars = vars_numbered vars tree.vars;
      blocks = blocks_numbered blocks tree.blocks;
      statements = lines_numbered (blocks + length (flat_map block_words tree.blocks)) tree.statements;
    }
