-- One step of the driver alone: its first item is taken, counted and done as far as it asks nothing.
use Rattle.std.specs.Prelude.{ℕ, ◌+◌, zero, suc, Bool, true, false, if◌then◌else◌, ℤ, pos, negsuc, List, [], ◌∷◌, ◌++◌, map, slice_set}
use Rattle.nim_job.specs.declared.item.Item.{Item}
use Rattle.nim_job.specs.declared.item.Item.TheVariants.{Run, Again}
use Rattle.nim_job.specs.declared.stmt.Stmt.{Stmt, out-Stmt}
use Rattle.nim_job.specs.declared.stmt.Stmt.TheOpen.{Stmt-F}
use Rattle.nim_job.specs.Driver.{Driver, atom_value, is_met, let_value}

-- how many turns a loop takes with a number
abbrev pub turns_in : ℤ → ℕ
turns_in (pos turns) = turns
turns_in (negsuc number) = 0

-- so many turns of a loop's body, and then the rest
abbrev pub again : ℕ → List Stmt → List Item → List Item
again zero body rest = rest
again (suc turns) body rest = map Run body ++ Again turns body ∷ rest

-- what a statement leaves to do before the rest: a `while` whose condition is met leaves its body and then itself
abbrev pub stmt_left : List ℤ → Stmt → Stmt-F Stmt → List Item → List Item
stmt_left scalars stmt (Stmt-F.Loop turns body) rest = again (turns_in (atom_value scalars turns)) body rest
stmt_left scalars stmt (Stmt-F.While cond body) rest =
    if is_met scalars cond then map Run body ++ Run stmt ∷ rest else rest
stmt_left scalars stmt (Stmt-F.If cond first second) rest =
    (if is_met scalars cond then map Run first else map Run second) ++ rest
stmt_left scalars stmt _ rest = rest

-- what the first of these items leaves to do
abbrev pub items_left : List ℤ → List Item → List Item
items_left scalars [] = []
items_left scalars (Run stmt ∷ rest) = stmt_left scalars stmt (out-Stmt stmt) rest
items_left scalars (Again turns body ∷ rest) = again turns body rest

-- the scalars once a `let` is done; other statements leave them
abbrev pub stmt_scalars : List ℤ → Stmt-F Stmt → List ℤ
stmt_scalars scalars (Stmt-F.Let s first rest) = slice_set scalars s (let_value scalars first rest)
stmt_scalars scalars _ = scalars

-- the scalars once the first of these items is done, as far as it asks nothing
abbrev pub items_scalars : List ℤ → List Item → List ℤ
items_scalars scalars (Run stmt ∷ rest) = stmt_scalars scalars (out-Stmt stmt)
items_scalars scalars _ = scalars

-- The first item is taken and counted. That is all that a `let`, a `loop`, a `while`, an `if` and further turns of a
-- loop do.
abbrev pub quiet_step : Driver → Driver
quiet_step driver = record driver {
  todo = items_left driver.scalars driver.todo;
  scalars = items_scalars driver.scalars driver.todo;
  count = driver.count + 1;
}

-- whether a statement asks nothing
abbrev pub is_quiet_stmt : Stmt-F Stmt → Bool
is_quiet_stmt (Stmt-F.Let s first rest) = true
is_quiet_stmt (Stmt-F.Loop turns body) = true
is_quiet_stmt (Stmt-F.While cond body) = true
is_quiet_stmt (Stmt-F.If cond first second) = true
is_quiet_stmt _ = false

-- whether there is a first item, and it asks nothing
abbrev pub is_quiet : List Item → Bool
is_quiet [] = false
is_quiet (Run stmt ∷ rest) = is_quiet_stmt (out-Stmt stmt)
is_quiet (Again turns body ∷ rest) = true
