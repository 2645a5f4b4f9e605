-- Where a driver stands in the tree of its body: a path of levels, outermost first.
use Rattle.std.specs.Prelude.{◌≡◌, ℕ, ◌+◌, ◌≤◌, zero, suc, Bool, true, false, ◌&&◌, ◌||◌, nat_le, nat_lt, max, Option, None, Some, List, [], ◌∷◌, ◌++◌, drop, length, map, slice_get}
use Rattle.std.specs.Option.{option_map_or}
use Rattle.nim_job.specs.declared.item.Item.{Item}
use Rattle.nim_job.specs.declared.item.Item.TheVariants.{Run, Again}
use Rattle.nim_job.specs.declared.level.Level.{Level}
use Rattle.nim_job.specs.declared.level.LevelKind.{LevelKind}
use Rattle.nim_job.specs.declared.level.LevelKind.TheVariants as kind
use Rattle.nim_job.specs.declared.stmt.Stmt.{Stmt, fold-Stmt, out-Stmt}
use Rattle.nim_job.specs.declared.stmt.Stmt.TheOpen.{Stmt-F}

-- the body that a level is in, the statement that holds this body, and the level
pub record Spot : Type 0 where
  pub body : List Stmt
  pub around : Option Stmt
  pub level : Level

-- before any level: nothing
abbrev pub no_spot : Spot
no_spot = record { body = []; around = None; level = record { next = 0; kind = kind.Driver; turns = 0 } }

-- the statement before the one with this number
abbrev pub stmt_before : List Stmt → ℕ → Option Stmt
stmt_before body zero = None
stmt_before body (suc next) = slice_get body next

-- the body of a kind that a statement holds; one that isn't there is empty
abbrev pub body_in : LevelKind → Stmt-F Stmt → List Stmt
body_in kind.Loop (Stmt-F.Loop turns body) = body
body_in kind.While (Stmt-F.While cond body) = body
body_in kind.First (Stmt-F.If cond first second) = first
body_in kind.Second (Stmt-F.If cond first second) = second
body_in _ _ = []

-- the body of a kind that is entered from around
abbrev pub body_entered : List Stmt → LevelKind → Option Stmt → List Stmt
body_entered whole kind.Driver around = whole
body_entered whole kind around = option_map_or (λ stmt. body_in kind (out-Stmt stmt)) around []

-- A level further in: the statement that holds its body is the one before the next of the level around it. The driver's
-- body is the whole one.
abbrev pub enter : List Stmt → Spot → Level → Spot
enter whole spot level =
    let around = stmt_before spot.body spot.level.next in
    record { body = body_entered whole level.kind around; around = around; level = level }

-- what comes when a body is done: a loop's further turns, or its `while` again
abbrev pub closing_of : LevelKind → ℕ → List Stmt → Option Stmt → List Item
closing_of kind.Loop turns body around = Again turns body ∷ []
closing_of kind.While turns body (Some stmt) = Run stmt ∷ []
closing_of _ turns body around = []

-- what is to do of a level, before the rest
abbrev pub level_todo : Spot → List Item → List Item
level_todo spot rest = map Run (drop spot.level.next spot.body)
    ++ (closing_of spot.level.kind spot.level.turns spot.body spot.around ++ rest)

-- what is to do of further levels, before what is to do of the ones around them
abbrev pub todo_from : List Stmt → Spot → List Item → List Level → List Item
todo_from whole spot rest [] = rest
todo_from whole spot rest (level ∷ levels) =
    todo_from whole (enter whole spot level) (level_todo (enter whole spot level) rest) levels

-- all that is to do of a body where its driver stands at these levels
abbrev pub todo_of : List Stmt → List Level → List Item
todo_of whole levels = todo_from whole no_spot [] levels

-- where the innermost of further levels is
abbrev pub spot_from : List Stmt → Spot → List Level → Spot
spot_from whole spot [] = spot
spot_from whole spot (level ∷ levels) = spot_from whole (enter whole spot level) levels

-- where the innermost level is
abbrev pub spot_of : List Stmt → List Level → Spot
spot_of whole levels = spot_from whole no_spot levels

-- ---- which paths are of a tree

-- whether a statement holds a body of this kind
abbrev pub holds_kind : LevelKind → Stmt-F Stmt → Bool
holds_kind kind.Loop (Stmt-F.Loop turns body) = true
holds_kind kind.While (Stmt-F.While cond body) = true
holds_kind kind.First (Stmt-F.If cond first second) = true
holds_kind kind.Second (Stmt-F.If cond first second) = true
holds_kind _ _ = false

-- whether a level fits where it is entered
abbrev pub fits_level : Spot → Bool
fits_level spot = option_map_or (λ stmt. holds_kind spot.level.kind (out-Stmt stmt)) spot.around false
    && nat_le spot.level.next (length spot.body)

-- whether further levels are of the tree
abbrev pub are_levels : List Stmt → Spot → List Level → Bool
are_levels whole spot [] = true
are_levels whole spot (level ∷ levels) =
    fits_level (enter whole spot level) && are_levels whole (enter whole spot level) levels

-- whether a level is in the driver's own body
abbrev pub is_driver : LevelKind → Bool
is_driver kind.Driver = true
is_driver _ = false

-- whether levels are a path of a tree: the first is the driver's, and each other is of a body that the statement
-- around it holds. No level is the path of a driver at its end.
abbrev pub is_path : List Stmt → List Level → Bool
is_path whole [] = true
is_path whole (level ∷ levels) =
    is_driver level.kind && nat_le level.next (length whole) && are_levels whole (enter whole no_spot level) levels

-- ---- how deep a tree nests

-- the greatest of some depths, 0 where there are none
abbrev pub greatest : List ℕ → ℕ
greatest [] = 0
greatest (depth ∷ depths) = max depth (greatest depths)

-- how many bodies lie inside each other in a statement, of its parts
abbrev pub stmt_depth : Stmt-F ℕ → ℕ
stmt_depth (Stmt-F.Loop turns body) = suc (greatest body)
stmt_depth (Stmt-F.While cond body) = suc (greatest body)
stmt_depth (Stmt-F.If cond first second) = suc (max (greatest first) (greatest second))
stmt_depth _ = 0

-- how many bodies lie inside each other in a statement, 0 where it holds none
abbrev pub depth_of : Stmt → ℕ
depth_of stmt = fold-Stmt ℕ stmt_depth stmt

-- how deep statements nest
abbrev pub depth_in : List Stmt → ℕ
depth_in body = greatest (map depth_of body)

-- ---- what a machine knows of its path

-- the path is one of the tree, and there is room for each level that the tree can want
pub record IsOpen (whole : List Stmt) (room : ℕ) (levels : List Level) : Type 0 where
  pub path : is_path whole levels ≡ true
  pub shallow : depth_in whole ≤ 16
  pub roomy : 17 ≤ room

-- the statement before the next of the innermost level
abbrev pub stmt_behind : Spot → Option Stmt
stmt_behind spot = stmt_before spot.body spot.level.next

-- the next statement of the innermost level
abbrev pub stmt_next : Spot → Option Stmt
stmt_next spot = slice_get spot.body spot.level.next

-- whether a level is in the body of a loop
abbrev pub is_loop : LevelKind → Bool
is_loop kind.Loop = true
is_loop _ = false

-- whether a level has a statement left, or is of a loop: what is to do next is this statement, or further turns
abbrev pub is_settled : Spot → Bool
is_settled spot = is_loop spot.level.kind || nat_lt spot.level.next (length spot.body)

-- the level behind its next statement
abbrev pub moved_on : Level → Level
moved_on level = record level { next = level.next + 1 }
