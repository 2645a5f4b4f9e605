-- The grammar of the lines of a driver. Each production stands beside its text.
use Rattle.std.specs.Prelude.{ℕ, zero, suc, ◌==◌, ◌||◌, Bool, true, false, if◌then◌else◌, List, [], ◌∷◌, ◌++◌, codes, Option, None, Some}
use Rattle.nim_parse.specs.declared.sections.Atom.{Atom}
use Rattle.nim_parse.specs.declared.sections.Atom.TheVariants as atom_is
use Rattle.nim_parse.specs.declared.sections.Condition.{Condition}
use Rattle.nim_parse.specs.declared.sections.Condition.TheVariants.{NotZero, Holds}
use Rattle.nim_parse.specs.declared.sections.Expression.{Expression}
use Rattle.nim_parse.specs.declared.sections.Expression.TheVariants.{Alone, Two}
use Rattle.nim_parse.specs.declared.sections.Index.{Index}
use Rattle.nim_parse.specs.declared.sections.Index.TheVariants.{Part, Own, After, Before}
use Rattle.nim_parse.specs.declared.sections.Init.{Init}
use Rattle.nim_parse.specs.declared.sections.Init.TheVariants.{Fill, Iota, Load}
use Rattle.nim_parse.specs.declared.sections.Operator.{Operator}
use Rattle.nim_parse.specs.declared.sections.Operator.TheVariants.{Add, Subtract, Multiply, Divide, Remainder}
use Rattle.nim_parse.specs.declared.sections.Ref.{Ref}
use Rattle.nim_parse.specs.declared.sections.Relation.{Relation}
use Rattle.nim_parse.specs.declared.sections.Relation.TheVariants.{Less, AtMost, Equal, NotEqual, Greater, AtLeast}
use Rattle.nim_parse.specs.declared.sections.Statement.{Statement}
use Rattle.nim_parse.specs.declared.sections.Statement.TheVariants.{Do, Let, Get, Loop, While, If, Else, End, Checkpoint, Output}
use Rattle.nim_parse.specs.declared.form.Form.{Form}
use Rattle.nim_parse.specs.declared.form.Form.TheVariants as form
use Rattle.nim_parse.specs.declared.form.Head.{Head}
use Rattle.nim_parse.specs.declared.form.Head.TheVariants as head
use Rattle.nim_parse.specs.Input.{Input, Parser, ◌>>=◌, ◌>>◌, ◌<$>◌, pure, refuse, left, sees, sees_name, eat, expect, done, name, number, int}

-- ---- parts of lines

-- which of these words comes next, if one does. It is taken.
abbrev pub one_of : {A : Type 0} → List (List ℕ × A) → Parser (Option A)
one_of [] = pure None
one_of (word ∷ words) = do
  found ← eat word.0
  if found then pure (Some word.1) else one_of words

-- more items behind commas, up to the closing sign. The number bounds the turns, and each takes a token.
unfoldable pub more_from : {A : Type 0} → Parser A → ℕ → List A → Parser (List A)
more_from item zero found = refuse
more_from item (suc n) found = do
  ended ← eat (codes ")")
  if ended then pure found else (expect (codes ",") >> item >>= (λ x. more_from item n (found ++ x ∷ [])))

-- {"," item} ")", behind a first item
abbrev pub more : {A : Type 0} → Parser A → A → Parser (List A)
more item first = λ i. more_from item (left i) (first ∷ []) i

-- "(" [item {"," item}] ")"
abbrev pub listed : {A : Type 0} → Parser A → Parser (List A)
listed item = do
  expect (codes "(")
  ended ← eat (codes ")")
  if ended then pure [] else (item >>= more item)

-- "(" [name {"," name}] ")"
unfoldable pub names : Parser (List (List ℕ))
names = listed name

-- atom = int | name
unfoldable pub atom : Parser Atom
atom = λ i. if sees_name i then (atom_is.Name <$> name) i else (atom_is.Number <$> int) i

-- "(" [atom {"," atom}] ")"
unfoldable pub atoms : Parser (List Atom)
atoms = listed atom

-- the word `i` alone, or with a number that is added or taken away
unfoldable pub own_index : Parser Index
own_index = do
  after ← eat (codes "+")
  if after then After <$> number else (do before ← eat (codes "-"); if before then Before <$> number else pure Own)

-- number | "i" | "i" "+" number | "i" "-" number
unfoldable pub index : Parser Index
index = do
  own ← eat (codes "i")
  if own then own_index else Part <$> number

-- ref = name "[" index "]"
unfoldable pub reference : Parser Ref
reference = do
  variable ← name
  expect (codes "[")
  at ← index
  expect (codes "]")
  pure (record { name = variable; index = at })

-- int after "fill", "iota" or "load"
unfoldable pub init : Parser Init
init = do
  fill ← eat (codes "fill")
  if fill then Fill <$> int else
      (do iota ← eat (codes "iota"); if iota then pure Iota else (expect (codes "load") >> pure Load))

-- {ref} "->"
unfoldable pub reads_from : ℕ → List Ref → Parser (List Ref)
reads_from zero found = refuse
reads_from (suc n) found = do
  ended ← eat (codes "->")
  if ended then pure found else (reference >>= (λ x. reads_from n (found ++ x ∷ [])))

-- {ref} "->", from the first ref on
unfoldable pub reads : Parser (List Ref)
reads = λ i. reads_from (left i) [] i

-- Behind the first written ref and behind `with`, the words `with` and `each` and the end of the line end a list.
unfoldable pub ends : Input → Bool
ends i = (left i == 0) || (sees (codes "with") i || sees (codes "each") i)

-- more items, up to the end of the list. The number bounds the turns, and each takes a token.
unfoldable pub some_from : {A : Type 0} → Parser A → ℕ → List A → Parser (List A)
some_from item zero found = pure found
some_from item (suc n) found =
    λ i. if ends i then Some (found, i) else (item >>= (λ x. some_from item n (found ++ x ∷ []))) i

-- the items of a list up to its end, behind a first item
abbrev pub some_after : {A : Type 0} → Parser A → A → Parser (List A)
some_after item first = λ i. some_from item (left i) (first ∷ []) i

-- ref {ref}
unfoldable pub writes : Parser (List Ref)
writes = reference >>= some_after reference

-- atom {atom}
unfoldable pub values : Parser (List Atom)
values = λ i. if ends i then refuse i else (atom >>= some_after atom) i

-- ["with" atom {atom}]
unfoldable pub parameters : Parser (List Atom)
parameters = do
  given ← eat (codes "with")
  if given then values else pure []

-- ["each" "i"]
unfoldable pub each : Parser Bool
each = do
  given ← eat (codes "each")
  if given then expect (codes "i") >> pure true else pure false

-- the signs that may stand between the two atoms of a `let`
abbrev pub operators : List (List ℕ × Operator)
operators = (codes "+", Add) ∷ (codes "-", Subtract) ∷ (codes "*", Multiply) ∷ (codes "/", Divide)
    ∷ (codes "%", Remainder) ∷ []

-- ["+"|"-"|"*"|"/"|"%"]
unfoldable pub operator : Parser (Option Operator)
operator = one_of operators

-- a value from its left atom: that alone where no sign stands behind it, else the sign and one more atom
abbrev pub with_right : Atom → Option Operator → Parser Expression
with_right left None = pure (Alone left)
with_right left (Some sign) = Two left sign <$> atom

-- atom [("+"|"-"|"*"|"/"|"%") atom]
unfoldable pub expression : Parser Expression
expression = do
  left ← atom
  sign ← operator
  with_right left sign

-- the signs that may stand between the two atoms of a condition
abbrev pub relations : List (List ℕ × Relation)
relations = (codes "<", Less) ∷ (codes "<=", AtMost) ∷ (codes "=", Equal) ∷ (codes "!=", NotEqual)
    ∷ (codes ">", Greater) ∷ (codes ">=", AtLeast) ∷ []

-- ["<"|"<="|"="|"!="|">"|">="]
unfoldable pub relation : Parser (Option Relation)
relation = one_of relations

-- a condition from its left atom: that alone where no sign stands behind it, else the sign and one more atom
abbrev pub condition_behind : Atom → Option Relation → Parser Condition
condition_behind left None = pure (NotZero left)
condition_behind left (Some sign) = Holds left sign <$> atom

-- cond = atom [("<"|"<="|"="|"!="|">"|">=") atom]
unfoldable pub condition : Parser Condition
condition = do
  left ← atom
  sign ← relation
  condition_behind left sign

-- ---- lines before the statements, the number of the line first

-- "nimbus" "1"
unfoldable pub header : Parser Form
header = do
  expect (codes "nimbus")
  expect (codes "1")
  done
  pure form.Header

-- "steps" number
unfoldable pub steps : ℕ → Parser Form
steps line = do
  expect (codes "steps")
  most ← number
  done
  pure (form.Steps (record { line = line; most = most }))

-- "var" name "parts" number "width" number "rows" number init
unfoldable pub var : ℕ → Parser Form
var line = do
  expect (codes "var")
  called ← name
  expect (codes "parts")
  parts ← number
  expect (codes "width")
  width ← number
  expect (codes "rows")
  rows ← number
  at_first ← init
  done
  pure (form.Var (record { line = line; name = called; parts = parts; width = width; rows = rows; init = at_first }))

-- "block" name "(" [name {"," name}] ")"
unfoldable pub block : ℕ → Parser Form
block line = do
  expect (codes "block")
  called ← name
  arguments ← names
  done
  pure (form.Block (record { line = line; name = called; arguments = arguments; stages = [] }))

-- name {ref} "->" ref {ref} ["with" atom {atom}] ["each" "i"]
unfoldable pub stage : ℕ → Parser Form
stage line = do
  function ← name
  read ← reads
  written ← writes
  given ← parameters
  turns ← each
  done
  pure (form.Stage (record {
    line = line;
    function = function;
    reads = read;
    writes = written;
    parameters =
        given;
    each = turns;
  }))

-- "end", of a block
unfoldable pub block_end : Parser Form
block_end = do
  expect (codes "end")
  done
  pure form.BlockEnd

-- ---- statements

-- "do" name "(" [atom {"," atom}] ")"
unfoldable pub do_line : Parser Statement
do_line = do
  expect (codes "do")
  called ← name
  arguments ← atoms
  done
  pure (Do called arguments)

-- "let" name "=" atom [("+"|"-"|"*"|"/"|"%") atom]
unfoldable pub let_line : Parser Statement
let_line = do
  expect (codes "let")
  scalar ← name
  expect (codes "=")
  value ← expression
  done
  pure (Let scalar value)

-- "get" name "=" name "[" number "]" number number
unfoldable pub get_line : Parser Statement
get_line = do
  expect (codes "get")
  scalar ← name
  expect (codes "=")
  variable ← name
  expect (codes "[")
  part ← number
  expect (codes "]")
  row ← number
  column ← number
  done
  pure (Get scalar variable part row column)

-- "loop" atom
unfoldable pub loop_line : Parser Statement
loop_line = do
  expect (codes "loop")
  turns ← atom
  done
  pure (Loop turns)

-- "while" cond
unfoldable pub while_line : Parser Statement
while_line = do
  expect (codes "while")
  test ← condition
  done
  pure (While test)

-- "if" cond
unfoldable pub if_line : Parser Statement
if_line = do
  expect (codes "if")
  test ← condition
  done
  pure (If test)

-- a word alone: "else", "end" or "checkpoint"
unfoldable pub alone : List ℕ → Statement → Parser Statement
alone word statement = do
  expect word
  done
  pure statement

-- "output" name
unfoldable pub output_line : Parser Statement
output_line = do
  expect (codes "output")
  variable ← name
  done
  pure (Output variable)

-- ---- a line, by its first word

-- the words of the language that lines begin with
abbrev pub heads : List (List ℕ × Head)
heads =
    (codes "nimbus", head.Nimbus) ∷ (codes "steps", head.Steps) ∷ (codes "var", head.Var) ∷ (codes "block", head.Block)
    ∷ (codes "do", head.Do) ∷ (codes "let", head.Let) ∷ (codes "get", head.Get)
    ∷ (codes "loop", head.Loop) ∷ (codes "while", head.While) ∷ (codes "if", head.If)
    ∷ (codes "else", head.Else) ∷ (codes "end", head.End)
    ∷ (codes "checkpoint", head.Checkpoint) ∷ (codes "output", head.Output) ∷ []

-- which of these words a line begins with, or that it is none of them
abbrev pub head_in : List (List ℕ × Head) → Input → Head
head_in [] i = head.Other
head_in (word ∷ words) i = if sees word.0 i then word.1 else head_in words i

-- the first word
unfoldable pub head_of : Input → Head
head_of i = head_in heads i

-- the statement on a line that begins with this word; refused where no statement does
abbrev pub statement_by : Head → Parser Statement
statement_by head.Do = do_line
statement_by head.Let = let_line
statement_by head.Get = get_line
statement_by head.Loop = loop_line
statement_by head.While = while_line
statement_by head.If = if_line
statement_by head.Else = alone (codes "else") Else
statement_by head.End = alone (codes "end") End
statement_by head.Checkpoint = alone (codes "checkpoint") Checkpoint
statement_by head.Output = output_line
statement_by _ = refuse

-- a statement beside the number of its line
abbrev pub on_line : ℕ → Statement → Form
on_line line statement = form.Statement (record { line = line; statement = statement })

-- a line outside blocks
abbrev pub outside : ℕ → Head → Parser Form
outside line head.Nimbus = header
outside line head.Steps = steps line
outside line head.Var = var line
outside line head.Block = block line
outside line first = on_line line <$> statement_by first

-- `end` alone is the end of the block; with more behind it, it is a function
unfoldable pub end_or_stage : ℕ → Parser Form
end_or_stage line = λ i. if left i == 1 then block_end i else stage line i

-- a line inside a block
abbrev pub inside : ℕ → Head → Parser Form
inside line head.Steps = steps line
inside line head.Var = var line
inside line head.Block = block line
inside line head.End = end_or_stage line
inside line _ = stage line

-- a line, which is inside a block or not
unfoldable pub line_form : Bool → ℕ → Head → Parser Form
line_form in_block line first = if in_block then inside line first else outside line first
