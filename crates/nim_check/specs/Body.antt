-- The statements of a job, from the lines that they stand on. They are put together from the last line on: an `end`
-- then
-- begins a body, and the line that opened it takes the body in.
use Rattle.std.specs.Prelude.{◌≤◌, pos, length, reverse, List, [], ◌∷◌, map, Option, None, Some}
use Rattle.nim_job.specs.declared.stmt.Arith.{Arith}
use Rattle.nim_job.specs.declared.stmt.Arith.TheVariants as arith_is
use Rattle.nim_job.specs.declared.stmt.Atom.{Atom as job_atom}
use Rattle.nim_job.specs.declared.stmt.Atom.TheVariants.{Const, Scalar}
use Rattle.nim_job.specs.declared.stmt.Cmp.{Cmp}
use Rattle.nim_job.specs.declared.stmt.Cmp.TheVariants as cmp
use Rattle.nim_job.specs.declared.stmt.Cond.{Cond}
use Rattle.nim_job.specs.declared.stmt.Stmt.{Stmt}
use Rattle.nim_job.specs.declared.stmt.Stmt.TheVariants as stmt
use Rattle.nim_parse.specs.declared.sections.Atom.{Atom}
use Rattle.nim_parse.specs.declared.sections.Atom.TheVariants.{Number, Name}
use Rattle.nim_parse.specs.declared.sections.Condition.{Condition}
use Rattle.nim_parse.specs.declared.sections.Condition.TheVariants.{NotZero, Holds}
use Rattle.nim_parse.specs.declared.sections.Expression.{Expression}
use Rattle.nim_parse.specs.declared.sections.Expression.TheVariants.{Alone, Two}
use Rattle.nim_parse.specs.declared.sections.Line.{Line}
use Rattle.nim_parse.specs.declared.sections.Operator.{Operator}
use Rattle.nim_parse.specs.declared.sections.Operator.TheVariants.{Add, Subtract, Multiply, Divide, Remainder}
use Rattle.nim_parse.specs.declared.sections.Relation.{Relation}
use Rattle.nim_parse.specs.declared.sections.Relation.TheVariants.{Less, AtMost, Equal, NotEqual, Greater, AtLeast}
use Rattle.nim_parse.specs.declared.sections.Statement.{Statement}
use Rattle.nim_parse.specs.declared.sections.Statement.TheVariants.{Do, Let, Get, Loop, While, If, Else, End, Checkpoint, Output}
use Rattle.nim_check.specs.declared.body.Held.{Held}
use Rattle.nim_check.specs.declared.body.Names.{Names}
use Rattle.nim_check.specs.Names.{place_in}

-- the numbers of names fit
pub record AreFew (names : Names) : Type 0 where
  pub vars : length names.vars ≤ 32
  pub blocks : length names.blocks ≤ 32
  pub scalars : length names.scalars ≤ 64

-- a number as it stands, a scalar by its number in place of its name
abbrev pub atom_of : Names → Atom → job_atom
atom_of names (Number number) = Const number
atom_of names (Name scalar) = Scalar (place_in names.scalars scalar)

-- what is done to the two atoms of a `let`, by the sign between them
abbrev pub arith_of : Operator → Arith
arith_of Add = arith_is.Plus
arith_of Subtract = arith_is.Minus
arith_of Multiply = arith_is.Times
arith_of Divide = arith_is.Divide
arith_of Remainder = arith_is.Remainder

-- how the two atoms of a condition are compared, by the sign between them
abbrev pub cmp_of : Relation → Cmp
cmp_of Less = cmp.Less
cmp_of AtMost = cmp.AtMost
cmp_of Equal = cmp.Equal
cmp_of NotEqual = cmp.Differs
cmp_of Greater = cmp.Greater
cmp_of AtLeast = cmp.AtLeast

-- an atom alone holds where it isn't 0
abbrev pub cond_of : Names → Condition → Cond
cond_of names (NotZero atom) = record { left = atom_of names atom; cmp = cmp.Differs; right = Const (pos 0) }
cond_of names (Holds left relation right) =
    record { left = atom_of names left; cmp = cmp_of relation; right = atom_of names right }

-- the atom that the value of a `let` begins with
abbrev pub first_of : Names → Expression → job_atom
first_of names (Alone atom) = atom_of names atom
first_of names (Two left operator right) = atom_of names left

-- what is done to the first atom of a `let`, and with which other one; nothing where it is an atom alone
abbrev pub rest_of : Names → Expression → Option (Arith × job_atom)
rest_of names (Alone atom) = None
rest_of names (Two left operator right) = Some (arith_of operator, atom_of names right)

-- The statements of a body that isn't opened yet: the first ones, and for an `if` those behind its `else`.
pub record Body : Type 0 where
  pub first : List Stmt
  pub second : List Stmt

-- a body that has no statements yet
abbrev pub no_body : Body
no_body = record { first = []; second = [] }

-- a statement goes before the others of the innermost body
abbrev pub onto : Stmt → List Body → List Body
onto made [] = []
onto made (body ∷ bodies) = record body { first = made ∷ body.first } ∷ bodies

-- the innermost body goes into the statement that opens it
abbrev pub opened : (Body → Stmt) → List Body → List Body
opened opens [] = []
opened opens (body ∷ bodies) = onto (opens body) bodies

-- what is behind an `else` becomes the second part
abbrev pub parted : List Body → List Body
parted [] = []
parted (body ∷ bodies) = record { first = []; second = body.first } ∷ bodies

-- the bodies with one more line before them
abbrev pub with_line : Names → Statement → List Body → List Body
with_line names (Do block arguments) bodies =
    onto (stmt.Do (place_in names.blocks block) (map (atom_of names) arguments)) bodies
with_line names (Let name value) bodies =
    onto (stmt.Let (place_in names.scalars name) (first_of names value) (rest_of names value)) bodies
with_line names (Get name variable part row column) bodies =
    onto (stmt.Get (place_in names.scalars name) (place_in names.vars variable) part row column) bodies
with_line names (Loop turns) bodies = opened (λ body. stmt.Loop (atom_of names turns) body.first) bodies
with_line names (While condition) bodies = opened (λ body. stmt.While (cond_of names condition) body.first) bodies
with_line names (If condition) bodies = opened (λ body. stmt.If (cond_of names condition) body.first body.second) bodies
with_line names Else bodies = parted bodies
with_line names End bodies = no_body ∷ bodies
with_line names Checkpoint bodies = onto stmt.Checkpoint bodies
with_line names (Output variable) bodies = onto (stmt.Output (place_in names.vars variable)) bodies

-- the bodies that lines leave unopened, the innermost first; the last is the driver's own
abbrev pub bodies_of : Names → List Line → List Body
bodies_of names [] = no_body ∷ []
bodies_of names (line ∷ lines) = with_line names line.statement (bodies_of names lines)

-- the statements of the innermost body, none where there is no body
abbrev pub first_body : List Body → List Stmt
first_body [] = []
first_body (body ∷ bodies) = body.first

-- the statements of a job, from the lines of its driver
abbrev pub body_of : Names → List Line → List Stmt
body_of names lines = first_body (bodies_of names lines)

-- ---- the bodies as they are held: the innermost last, and of each the last statement first

-- one body as it is held, with its statements in order again
abbrev pub body_held : Held → Body
body_held held = record { first = reverse held.first.items; second = reverse held.second.items }

-- all bodies as they are held, the innermost first again
abbrev pub bodies_in : List Held → List Body
bodies_in helds = map body_held (reverse helds)
