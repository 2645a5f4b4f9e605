-- What a machine does to its path, and what is to do then.
use Rattle.std.proofs.Common.{◌≡◌, ℕ, ◌+◌, ◌-◌, ◌<◌, ◌≤◌, zero, suc, Bool, true, false, List, [], ◌∷◌, ◌++◌, length, drop, map, refl, ap, sym, ◌∙◌, arith, add-one, Option, Some}
use Rattle.std.specs.Prelude.{nat_le, slice_get}
use Rattle.std.specs.Option.{option_map_or}
use Rattle.std.proofs.lemmas.Bool.{and_parts, both_ways}
use Rattle.std.proofs.Math.Seq.{drop-nil}
use Rattle.nim_job.specs.declared.item.Item.{Item}
use Rattle.nim_job.specs.declared.item.Item.TheVariants.{Run, Again}
use Rattle.nim_job.specs.declared.level.Level.{Level}
use Rattle.nim_job.specs.declared.level.LevelKind.{LevelKind}
use Rattle.nim_job.specs.declared.level.LevelKind.TheVariants as kind
use Rattle.nim_job.specs.declared.stmt.Stmt.{Stmt, out-Stmt}
use Rattle.nim_job.specs.Quiet.{again}
use Rattle.nim_job.specs.Levels.{IsOpen, Spot, is_loop, stmt_behind, stmt_next, closing_of, enter, fits_level, holds_kind, is_driver, is_path, moved_on, spot_of, stmt_before, todo_of}
use Rattle.nim_job.proofs.Paths.{enter_path, first_level, fits_at, holder, path_from, path_parts, refit, spot_last, stmt_within, todo_last, todo_next}

-- ---- what a machine does to its path

open_with : (whole : List Stmt) (room : ℕ) (old new : List Level) → IsOpen whole room old → is_path whole new ≡ true → IsOpen whole room new
open_with whole room old new is path = record { path = path; shallow = is.shallow; roomy = is.roomy }

-- a level is left
pub left_open : (whole : List Stmt) (room : ℕ) (outer : List Level) (last : Level) → IsOpen whole room (outer ++ last ∷ []) → IsOpen whole room outer
left_open whole room outer last is = open_with whole room (outer ++ last ∷ []) outer is (path_parts whole outer last is.path).0

-- a level goes behind its next statement
pub moved_open : (whole : List Stmt) (room : ℕ) (outer : List Level) (last : Level) (stmt : Stmt) → IsOpen whole room (outer ++ last ∷ [])
    → stmt_next (spot_of whole (outer ++ last ∷ [])) ≡ Some stmt
    → IsOpen whole room (outer ++ moved_on last ∷ [])
moved_open whole room outer last stmt is next =
    let parts = path_parts whole outer last is.path in
    let here = sym (ap stmt_next (spot_last whole outer last)) ∙ next in
    let within = stmt_within (enter whole (spot_of whole outer) last).body last.next stmt here in
    open_with whole room (outer ++ last ∷ []) (outer ++ moved_on last ∷ []) is
    (path_from whole outer (moved_on last) parts.0 (refit whole outer last (last.next + 1) last.turns parts.1 (omega (arith, within))))

-- and is behind this statement then
pub moved_behind : (whole : List Stmt) (outer : List Level) (last : Level) (stmt : Stmt) → stmt_next (spot_of whole (outer ++ last ∷ [])) ≡ Some stmt
    → stmt_behind (spot_of whole (outer ++ moved_on last ∷ [])) ≡ Some stmt
moved_behind whole outer last stmt next =
    let spot = enter whole (spot_of whole outer) last in
    ap stmt_behind (spot_last whole outer (moved_on last)) ∙ ap (stmt_before spot.body) (add-one last.next)
    ∙ sym (ap stmt_next (spot_last whole outer last)) ∙ next

pub todo_taken : (whole : List Stmt) (outer : List Level) (last : Level) (stmt : Stmt) → stmt_next (spot_of whole (outer ++ last ∷ [])) ≡ Some stmt
    → todo_of whole (outer ++ last ∷ []) ≡ Run stmt ∷ todo_of whole (outer ++ moved_on last ∷ [])
todo_taken whole outer last stmt next = todo_next whole outer last stmt (sym (ap stmt_next (spot_last whole outer last)) ∙ next)

-- a statement's body is entered
pub entered_open : (whole : List Stmt) (room : ℕ) (levels : List Level) (stmt : Stmt) (k : LevelKind) (turns : ℕ) → IsOpen whole room levels
    → stmt_behind (spot_of whole levels) ≡ Some stmt
    → holds_kind k (out-Stmt stmt) ≡ true → IsOpen whole room (levels ++ first_level k turns ∷ [])
entered_open whole room levels stmt k turns is behind holds =
    open_with whole room levels (levels ++ first_level k turns ∷ []) is (enter_path whole levels stmt k turns is.path behind holds)

-- ---- levels that are done

drop_done : {X : Type 0} (xs : List X) (n : ℕ) → length xs ≤ n → drop n xs ≡ []
drop_done [] n done = drop-nil n
drop_done (x ∷ xs) zero done = absurd (omega (arith, done))
drop_done (x ∷ xs) (suc n) done = drop_done xs n (omega (arith, done))

-- what is left of a level that is done
pub todo_done : (whole : List Stmt) (outer : List Level) (last : Level) → length (spot_of whole (outer ++ last ∷ [])).body ≤ last.next
    → todo_of whole (outer ++ last ∷ [])
    ≡ closing_of last.kind last.turns (spot_of whole (outer ++ last ∷ [])).body (enter whole (spot_of whole outer) last).around ++ todo_of whole outer
todo_done whole outer last done =
    let spot = enter whole (spot_of whole outer) last in
    let same = ap (λ (s : Spot). s.body) (spot_last whole outer last) in
    todo_last whole outer last
    ∙ ap (λ (stmts : List Stmt). map Run stmts ++ (closing_of last.kind last.turns spot.body spot.around ++ todo_of whole outer))
    (drop_done spot.body last.next (omega (arith, done, ap length same)))
    ∙ ap (λ (body : List Stmt). closing_of last.kind last.turns body spot.around ++ todo_of whole outer) (sym same)

loop_closing : (k : LevelKind) (turns : ℕ) (body : List Stmt) (around : Option Stmt) → is_loop k ≡ true → closing_of k turns body around ≡ Again turns body ∷ []
loop_closing kind.Loop turns body around is = refl
loop_closing k turns body around is = absurd (both_ways false refl is)

-- of a loop further turns are left
pub todo_turns : (whole : List Stmt) (outer : List Level) (last : Level) → length (spot_of whole (outer ++ last ∷ [])).body ≤ last.next
    → is_loop last.kind ≡ true
    → todo_of whole (outer ++ last ∷ []) ≡ Again last.turns (spot_of whole (outer ++ last ∷ [])).body ∷ todo_of whole outer
todo_turns whole outer last done is =
    let body = (spot_of whole (outer ++ last ∷ [])).body in
    let around = (enter whole (spot_of whole outer) last).around in
    todo_done whole outer last done ∙ ap (λ (items : List Item). items ++ todo_of whole outer) (loop_closing last.kind last.turns body around is)

again_more : (turns : ℕ) (body : List Stmt) (rest : List Item) → 0 < turns → again turns body rest ≡ map Run body ++ Again (turns - 1) body ∷ rest
again_more zero body rest some = absurd (omega (arith, some))
again_more (suc turns) body rest some = let same : turns ≡ suc turns - 1 = omega arith in ap (λ (t : ℕ). map Run body ++ Again t body ∷ rest) same

-- the next turn of a loop
abbrev pub next_turn : Level → Level
next_turn level = record { next = 0; kind = level.kind; turns = level.turns - 1 }

pub turn_open : (whole : List Stmt) (room : ℕ) (outer : List Level) (last : Level) → IsOpen whole room (outer ++ last ∷ [])
    → IsOpen whole room (outer ++ next_turn last ∷ [])
turn_open whole room outer last is =
    let parts = path_parts whole outer last is.path in
    open_with whole room (outer ++ last ∷ []) (outer ++ next_turn last ∷ []) is
    (path_from whole outer (next_turn last) parts.0 (refit whole outer last 0 (last.turns - 1) parts.1 (omega arith)))

pub turn_todo : (whole : List Stmt) (outer : List Level) (last : Level) → is_loop last.kind ≡ true → 0 < last.turns
    → todo_of whole (outer ++ next_turn last ∷ []) ≡ again last.turns (spot_of whole (outer ++ last ∷ [])).body (todo_of whole outer)
turn_todo whole outer last is some =
    let spot = enter whole (spot_of whole outer) last in
    todo_last whole outer (next_turn last)
    ∙ ap (λ (items : List Item). map Run spot.body ++ (items ++ todo_of whole outer)) (loop_closing last.kind (last.turns - 1) spot.body spot.around is)
    ∙ sym (again_more last.turns spot.body (todo_of whole outer) some)
    ∙ ap (λ (s : Spot). again last.turns s.body (todo_of whole outer)) (sym (spot_last whole outer last))

abbrev pub is_while : LevelKind → Bool
is_while kind.While = true
is_while _ = false

nothing_closing : (k : LevelKind) (turns : ℕ) (body : List Stmt) (around : Option Stmt) → is_loop k ≡ false → is_while k ≡ false
    → closing_of k turns body around ≡ []
nothing_closing kind.Driver turns body around loop while = refl
nothing_closing kind.Loop turns body around loop while = absurd cc
nothing_closing kind.While turns body around loop while = absurd cc
nothing_closing kind.First turns body around loop while = refl
nothing_closing kind.Second turns body around loop while = refl

-- of another body nothing is left, but of the body of a `while` the `while` itself
pub todo_left : (whole : List Stmt) (outer : List Level) (last : Level) → length (spot_of whole (outer ++ last ∷ [])).body ≤ last.next
    → is_loop last.kind ≡ false → is_while last.kind ≡ false
    → todo_of whole (outer ++ last ∷ []) ≡ todo_of whole outer
todo_left whole outer last done loop while =
    let body = (spot_of whole (outer ++ last ∷ [])).body in
    let around = (enter whole (spot_of whole outer) last).around in
    todo_done whole outer last done ∙ ap (λ (items : List Item). items ++ todo_of whole outer) (nothing_closing last.kind last.turns body around loop while)

while_fits : (whole : List Stmt) (levels : List Level) (last : Level) → last.kind ≡ kind.While → fits_at whole levels last ≡ true
    → fits_level (enter whole (spot_of whole levels) last) ≡ true
while_fits whole [] last is fits =
    absurd (both_ways (is_driver last.kind) (ap is_driver is) (and_parts (is_driver last.kind) (nat_le last.next (length whole)) fits).0)
while_fits whole (first ∷ outer) last is fits = fits

-- the `while` that a driver is behind in the level around its body
pub while_behind : (whole : List Stmt) (levels : List Level) (last : Level) → last.kind ≡ kind.While → is_path whole (levels ++ last ∷ []) ≡ true
    → (stmt : Stmt) × (stmt_behind (spot_of whole levels) ≡ Some stmt)
while_behind whole levels last is path =
    let spot = enter whole (spot_of whole levels) last in
    let fits = while_fits whole levels last is (path_parts whole levels last path).1 in
    let found = holder last.kind spot.around (and_parts (option_map_or (λ (s : Stmt). holds_kind last.kind (out-Stmt s)) spot.around false)
    (nat_le last.next (length spot.body)) fits).0 in
    (found.0, found.1)

pub before_parts : (body : List Stmt) (next : ℕ) (stmt : Stmt) → stmt_before body next ≡ Some stmt → (1 ≤ next) × (slice_get body (next - 1) ≡ Some stmt)
before_parts body zero stmt is = absurd cc
before_parts body (suc next) stmt is = let same : suc next - 1 ≡ next = omega arith in (omega arith, ap (slice_get body) same ∙ is)

-- the level before its last statement
abbrev pub moved_back : Level → Level
moved_back level = record { next = level.next - 1; kind = level.kind; turns = level.turns }

-- where the level around is behind a statement
abbrev Behind : List Stmt → List Level → Level → Stmt → Type 0
Behind whole outer around stmt = (1 ≤ around.next) × (slice_get (enter whole (spot_of whole outer) around).body (around.next - 1) ≡ Some stmt)

behind_in : (whole : List Stmt) (outer : List Level) (around last : Level) → last.kind ≡ kind.While → is_path whole ((outer ++ around ∷ []) ++ last ∷ []) ≡ true
    → (stmt : Stmt) × Behind whole outer around stmt × (stmt_behind (spot_of whole (outer ++ around ∷ [])) ≡ Some stmt)
behind_in whole outer around last is path =
    let found = while_behind whole (outer ++ around ∷ []) last is path in
    let spot = enter whole (spot_of whole outer) around in
    (found.0, before_parts spot.body around.next found.0 (sym (ap stmt_behind (spot_last whole outer around)) ∙ found.1), found.1)

pub back_some : (whole : List Stmt) (outer : List Level) (around last : Level) → last.kind ≡ kind.While
    → is_path whole ((outer ++ around ∷ []) ++ last ∷ []) ≡ true → 1 ≤ around.next
back_some whole outer around last is path = (behind_in whole outer around last is path).1.0

pub back_open : (whole : List Stmt) (room : ℕ) (outer : List Level) (around last : Level) → last.kind ≡ kind.While
    → IsOpen whole room ((outer ++ around ∷ []) ++ last ∷ [])
    → IsOpen whole room (outer ++ moved_back around ∷ [])
back_open whole room outer around last is open_still =
    let left = left_open whole room (outer ++ around ∷ []) last open_still in
    let parts = path_parts whole outer around left.path in
    let found = behind_in whole outer around last is open_still.path in
    let within = stmt_within (enter whole (spot_of whole outer) around).body (around.next - 1) found.0 found.1.1 in
    open_with whole room (outer ++ around ∷ []) (outer ++ moved_back around ∷ []) left
    (path_from whole outer (moved_back around) parts.0 (refit whole outer around (around.next - 1) around.turns parts.1 (omega (arith, within))))

pub back_todo : (whole : List Stmt) (outer : List Level) (around last : Level) → last.kind ≡ kind.While
    → is_path whole ((outer ++ around ∷ []) ++ last ∷ []) ≡ true
    → length (spot_of whole ((outer ++ around ∷ []) ++ last ∷ [])).body ≤ last.next
    → todo_of whole (outer ++ moved_back around ∷ []) ≡ todo_of whole ((outer ++ around ∷ []) ++ last ∷ [])
back_todo whole outer around last is path done =
    let found = behind_in whole outer around last is path in
    let stmt = found.0 in
    let body = (spot_of whole ((outer ++ around ∷ []) ++ last ∷ [])).body in
    let same : around.next - 1 + 1 ≡ around.next = omega (arith, found.1.0) in
    let level : moved_on (moved_back around) ≡ around = ap (λ (next : ℕ). record { next = next; kind = around.kind; turns = around.turns }) same in
    todo_next whole outer (moved_back around) stmt found.1.1
    ∙ ap (λ (l : Level). Run stmt ∷ todo_of whole (outer ++ l ∷ [])) level
    ∙ sym (todo_done whole (outer ++ around ∷ []) last done
    ∙ ap (λ (k : LevelKind). closing_of k last.turns body (stmt_behind (spot_of whole (outer ++ around ∷ []))) ++ todo_of whole (outer ++ around ∷ [])) is
    ∙ ap (λ (o : Option Stmt). closing_of kind.While last.turns body o ++ todo_of whole (outer ++ around ∷ [])) found.2)
