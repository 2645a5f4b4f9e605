-- How loops, whiles and ifs nest: the list of those that are open, the innermost first.
use Rattle.std.specs.Prelude.{Bool, true, false, if◌then◌else◌, List, [], ◌∷◌, Option, None, Some}
use Rattle.nim_parse.specs.declared.nest.Open.{Open}
use Rattle.nim_parse.specs.declared.nest.Open.TheVariants as opening
use Rattle.nim_parse.specs.declared.sections.Line.{Line}
use Rattle.nim_parse.specs.declared.sections.Statement.{Statement}
use Rattle.nim_parse.specs.declared.sections.Statement.TheVariants.{Loop, While, If, Else, End}

-- whether nothing stands in a list
abbrev pub is_empty : {A : Type 0} → List A → Bool
is_empty [] = true
is_empty (x ∷ xs) = false

-- the first of a list, here the innermost, if there is one
abbrev pub head : {A : Type 0} → List A → Option A
head [] = None
head (x ∷ xs) = Some x

-- the rest behind the first of a list; nothing of an empty one
abbrev pub tail : {A : Type 0} → List A → List A
tail [] = []
tail (x ∷ xs) = xs

-- what is open after a statement: a head opens, an `else` goes on with its `if`, and an `end` closes the innermost
abbrev pub nested : Statement → List Open → List Open
nested (Loop turns) opened = opening.Turns ∷ opened
nested (While condition) opened = opening.Turns ∷ opened
nested (If condition) opened = opening.If ∷ opened
nested Else opened = opening.Else ∷ tail opened
nested End opened = tail opened
nested _ opened = opened

-- an `if` without its `else` is the innermost
abbrev pub is_if : Option Open → Bool
is_if (Some opening.If) = true
is_if _ = false

-- an `end` needs something open, and an `else` an `if` without one
abbrev pub may_stand : List Open → Statement → Bool
may_stand [] End = false
may_stand opened Else = is_if (head opened)
may_stand _ _ = true

-- what is open after some statements, if each may stand where it stands
abbrev pub open_after : List Open → List Line → Option (List Open)
open_after opened [] = Some opened
open_after opened (l ∷ ls) = if may_stand opened l.statement then open_after (nested l.statement opened) ls else None
