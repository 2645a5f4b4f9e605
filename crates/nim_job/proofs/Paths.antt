-- What is to do at a path of levels, and which paths are of a tree, one level more or less at its end.
use Rattle.std.proofs.Common.{◌≡◌, ℕ, ◌+◌, ◌<◌, ◌≤◌, zero, suc, Bool, true, false, List, [], ◌∷◌, ◌++◌, length, drop, map, refl, ap, sym, ◌∙◌, arith, Option, None, Some}
use Rattle.std.specs.Prelude.{◌&&◌, nat_le, slice_get}
use Rattle.std.specs.Option.{option_map_or}
use Rattle.std.proofs.lemmas.Bool.{and_parts, and_from, both_ways, le-leb}
use Rattle.nim_job.specs.declared.item.Item.{Item}
use Rattle.nim_job.specs.declared.item.Item.TheVariants.{Run}
use Rattle.nim_job.specs.declared.level.Level.{Level}
use Rattle.nim_job.specs.declared.level.LevelKind.{LevelKind}
use Rattle.nim_job.specs.declared.level.LevelKind.TheVariants as kind
use Rattle.nim_job.specs.declared.stmt.Stmt.{Stmt, out-Stmt}
use Rattle.nim_job.specs.Levels.{Spot, stmt_behind, are_levels, body_entered, body_in, closing_of, enter, fits_level, holds_kind, is_driver, is_path, level_todo, moved_on, no_spot, spot_from, spot_of, todo_from, todo_of}

-- ---- one level more

todo-append : (whole : List Stmt) (spot : Spot) (rest : List Item) (xs ys : List Level)
    → todo_from whole spot rest (xs ++ ys) ≡ todo_from whole (spot_from whole spot xs) (todo_from whole spot rest xs) ys
todo-append whole spot rest [] ys = refl
todo-append whole spot rest (x ∷ xs) ys = todo-append whole (enter whole spot x) (level_todo (enter whole spot x) rest) xs ys

spot-append : (whole : List Stmt) (spot : Spot) (xs ys : List Level) → spot_from whole spot (xs ++ ys) ≡ spot_from whole (spot_from whole spot xs) ys
spot-append whole spot [] ys = refl
spot-append whole spot (x ∷ xs) ys = spot-append whole (enter whole spot x) xs ys

-- where a level behind others is, and what is to do there
pub spot_last : (whole : List Stmt) (outer : List Level) (last : Level) → spot_of whole (outer ++ last ∷ []) ≡ enter whole (spot_of whole outer) last
spot_last whole outer last = spot-append whole no_spot outer (last ∷ [])

pub todo_last : (whole : List Stmt) (outer : List Level) (last : Level)
    → todo_of whole (outer ++ last ∷ []) ≡ level_todo (enter whole (spot_of whole outer) last) (todo_of whole outer)
todo_last whole outer last = todo-append whole no_spot [] outer (last ∷ [])

-- ---- paths of the tree

levels_parts : (whole : List Stmt) (spot : Spot) (xs ys : List Level) → are_levels whole spot (xs ++ ys) ≡ true
    → (are_levels whole spot xs ≡ true) × (are_levels whole (spot_from whole spot xs) ys ≡ true)
levels_parts whole spot [] ys are = (refl, are)
levels_parts whole spot (x ∷ xs) ys are =
    let parts = and_parts (fits_level (enter whole spot x)) (are_levels whole (enter whole spot x) (xs ++ ys)) are in
    let inner = levels_parts whole (enter whole spot x) xs ys parts.1 in
    (and_from (fits_level (enter whole spot x)) (are_levels whole (enter whole spot x) xs) parts.0 inner.0, inner.1)

levels_from : (whole : List Stmt) (spot : Spot) (xs ys : List Level) → are_levels whole spot xs ≡ true → are_levels whole (spot_from whole spot xs) ys ≡ true
    → are_levels whole spot (xs ++ ys) ≡ true
levels_from whole spot [] ys first second = second
levels_from whole spot (x ∷ xs) ys first second =
    let parts = and_parts (fits_level (enter whole spot x)) (are_levels whole (enter whole spot x) xs) first in
    and_from (fits_level (enter whole spot x)) (are_levels whole (enter whole spot x) (xs ++ ys)) parts.0
    (levels_from whole (enter whole spot x) xs ys parts.1 second)

-- whether a level may stand behind others
abbrev pub fits_at : List Stmt → List Level → Level → Bool
fits_at whole [] last = is_driver last.kind && nat_le last.next (length whole)
fits_at whole (first ∷ outer) last = fits_level (enter whole (spot_of whole (first ∷ outer)) last)

pub path_parts : (whole : List Stmt) (outer : List Level) (last : Level) → is_path whole (outer ++ last ∷ []) ≡ true
    → (is_path whole outer ≡ true) × (fits_at whole outer last ≡ true)
path_parts whole [] last is = (refl, (and_parts (is_driver last.kind && nat_le last.next (length whole)) true is).0)
path_parts whole (first ∷ outer) last is =
    let here = is_driver first.kind && nat_le first.next (length whole) in
    let inside = enter whole no_spot first in
    let parts = and_parts here (are_levels whole inside (outer ++ last ∷ [])) is in
    let inner = levels_parts whole inside outer (last ∷ []) parts.1 in
    (and_from here (are_levels whole inside outer) parts.0 inner.0, (and_parts (fits_level (enter whole (spot_from whole inside outer) last)) true inner.1).0)

pub path_from : (whole : List Stmt) (outer : List Level) (last : Level) → is_path whole outer ≡ true → fits_at whole outer last ≡ true
    → is_path whole (outer ++ last ∷ []) ≡ true
path_from whole [] last is fits = and_from (is_driver last.kind && nat_le last.next (length whole)) true fits refl
path_from whole (first ∷ outer) last is fits =
    let here = is_driver first.kind && nat_le first.next (length whole) in
    let inside = enter whole no_spot first in
    let parts = and_parts here (are_levels whole inside outer) is in
    and_from here (are_levels whole inside (outer ++ last ∷ [])) parts.0
    (levels_from whole inside outer (last ∷ []) parts.1 (and_from (fits_level (enter whole (spot_from whole inside outer) last)) true fits refl))

pub driver_whole : (whole : List Stmt) (k : LevelKind) (around : Option Stmt) → is_driver k ≡ true → body_entered whole k around ≡ whole
driver_whole whole kind.Driver around is = refl
driver_whole whole k around is = absurd (both_ways false refl is)

-- the same level may stand at another statement of its body
pub refit : (whole : List Stmt) (outer : List Level) (last : Level) (next turns : ℕ) → fits_at whole outer last ≡ true
    → next ≤ length (enter whole (spot_of whole outer) last).body
    → fits_at whole outer (record { next = next; kind = last.kind; turns = turns }) ≡ true
refit whole [] last next turns fits within =
    let parts = and_parts (is_driver last.kind) (nat_le last.next (length whole)) fits in
    let body = driver_whole whole last.kind None parts.0 in
    and_from (is_driver last.kind) (nat_le next (length whole)) parts.0 (le-leb next (length whole) (omega (arith, within, ap length body)))
refit whole (first ∷ outer) last next turns fits within =
    let spot = enter whole (spot_of whole (first ∷ outer)) last in
    let holds = option_map_or (λ (stmt : Stmt). holds_kind last.kind (out-Stmt stmt)) spot.around false in
    let parts = and_parts holds (nat_le last.next (length spot.body)) fits in
    and_from holds (nat_le next (length spot.body)) parts.0 (le-leb next (length spot.body) within)

-- ---- statements of a body

pub stmt_within : {X : Type 0} (xs : List X) (i : ℕ) (x : X) → slice_get xs i ≡ Some x → i < length xs
stmt_within [] i x is = absurd cc
stmt_within (y ∷ xs) zero x is = omega arith
stmt_within (y ∷ xs) (suc i) x is = let within = stmt_within xs i x is in omega (arith, within)

pub drop_get : {X : Type 0} (xs : List X) (i : ℕ) (x : X) → slice_get xs i ≡ Some x → drop i xs ≡ x ∷ drop (i + 1) xs
drop_get [] i x is = absurd cc
drop_get (y ∷ xs) zero x is = let same : y ≡ x = cc in ap (λ z. z ∷ xs) same
drop_get (y ∷ xs) (suc i) x is =
    let later : suc i + 1 ≡ suc (i + 1) = omega arith in
    drop_get xs i x is ∙ ap (λ (k : ℕ). x ∷ drop k (y ∷ xs)) (sym later)

-- what is to do of a level is its next statement, and then what is to do behind it
pub todo_next : (whole : List Stmt) (outer : List Level) (last : Level) (stmt : Stmt)
    → slice_get (enter whole (spot_of whole outer) last).body last.next ≡ Some stmt
    → todo_of whole (outer ++ last ∷ []) ≡ Run stmt ∷ todo_of whole (outer ++ moved_on last ∷ [])
todo_next whole outer last stmt is =
    let spot = enter whole (spot_of whole outer) last in
    todo_last whole outer last
    ∙ ap (λ (stmts : List Stmt). map Run stmts ++ (closing_of last.kind last.turns spot.body spot.around ++ todo_of whole outer))
    (drop_get spot.body last.next stmt is)
    ∙ ap (λ (items : List Item). Run stmt ∷ items) (sym (todo_last whole outer (moved_on last)))

-- the statement that holds a body that may be entered, and where it stands
pub holder : (k : LevelKind) (around : Option Stmt) → option_map_or (λ (stmt : Stmt). holds_kind k (out-Stmt stmt)) around false ≡ true
    → (stmt : Stmt) × (around ≡ Some stmt) × (holds_kind k (out-Stmt stmt) ≡ true)
holder k None is = absurd (both_ways false refl is)
holder k (Some stmt) is = (stmt, refl, is)

-- a body that a statement holds is entered
pub entered_holds : (whole : List Stmt) (k : LevelKind) (stmt : Stmt) → holds_kind k (out-Stmt stmt) ≡ true
    → body_entered whole k (Some stmt) ≡ body_in k (out-Stmt stmt)
entered_holds whole kind.Driver stmt holds = absurd (both_ways false refl holds)
entered_holds whole kind.Loop stmt holds = refl
entered_holds whole kind.While stmt holds = refl
entered_holds whole kind.First stmt holds = refl
entered_holds whole kind.Second stmt holds = refl

-- a level further in
abbrev pub first_level : LevelKind → ℕ → Level
first_level k turns = record { next = 0; kind = k; turns = turns }

pub enter_path : (whole : List Stmt) (levels : List Level) (stmt : Stmt) (k : LevelKind) (turns : ℕ) → is_path whole levels ≡ true
    → stmt_behind (spot_of whole levels) ≡ Some stmt
    → holds_kind k (out-Stmt stmt) ≡ true → is_path whole (levels ++ first_level k turns ∷ []) ≡ true
enter_path whole [] stmt k turns is behind holds = absurd cc
enter_path whole (first ∷ outer) stmt k turns is behind holds =
    let spot = enter whole (spot_of whole (first ∷ outer)) (first_level k turns) in
    path_from whole (first ∷ outer) (first_level k turns) is
    (and_from (option_map_or (λ (s : Stmt). holds_kind k (out-Stmt s)) spot.around false) (nat_le 0 (length spot.body))
    (ap (λ (around : Option Stmt). option_map_or (λ (s : Stmt). holds_kind k (out-Stmt s)) around false) behind ∙ holds)
    (le-leb 0 (length spot.body) (omega arith)))

pub enter_todo : (whole : List Stmt) (levels : List Level) (stmt : Stmt) (k : LevelKind) (turns : ℕ) → stmt_behind (spot_of whole levels) ≡ Some stmt
    → holds_kind k (out-Stmt stmt) ≡ true
    → todo_of whole (levels ++ first_level k turns ∷ [])
    ≡ map Run (body_in k (out-Stmt stmt)) ++ (closing_of k turns (body_in k (out-Stmt stmt)) (Some stmt) ++ todo_of whole levels)
enter_todo whole levels stmt k turns behind holds =
    todo_last whole levels (first_level k turns)
    ∙ ap (λ (around : Option Stmt). map Run (body_entered whole k around) ++ (closing_of k turns (body_entered whole k around) around ++ todo_of whole levels))
    behind
    ∙ ap (λ (body : List Stmt). map Run body ++ (closing_of k turns body (Some stmt) ++ todo_of whole levels)) (entered_holds whole k stmt holds)
