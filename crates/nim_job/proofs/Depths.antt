-- A path of a tree has at most one level more than the tree nests deep.
use Rattle.std.proofs.Common.{◌≡◌, ℕ, ◌+◌, ◌<◌, ◌≤◌, zero, suc, true, false, List, [], ◌∷◌, ◌++◌, length, ap, ◌∙◌, arith, None, Some}
use Rattle.std.specs.Prelude.{◌&&◌, nat_le, slice_get}
use Rattle.std.specs.Option.{option_map_or}
use Rattle.std.proofs.lemmas.Bool.{and_parts}
use Rattle.std.proofs.lemmas.List.{length-append}
use Rattle.nim_job.specs.declared.level.Level.{Level}
use Rattle.nim_job.specs.declared.level.LevelKind.{LevelKind}
use Rattle.nim_job.specs.declared.level.LevelKind.TheVariants as kind
use Rattle.nim_job.specs.declared.stmt.Stmt.{Stmt, fold_out-Stmt, map-Stmt, out-Stmt}
use Rattle.nim_job.specs.declared.stmt.Stmt.TheOpen.{Stmt-F}
use Rattle.nim_job.specs.Levels.{IsOpen, Spot, are_levels, body_entered, body_in, depth_in, depth_of, enter, fits_level, holds_kind, is_driver, is_path, no_spot, stmt_before, stmt_depth}
use Rattle.nim_job.proofs.Paths.{driver_whole, entered_holds, holder}

depth_at : (body : List Stmt) (i : ℕ) (stmt : Stmt) → slice_get body i ≡ Some stmt → depth_of stmt ≤ depth_in body
depth_at [] i stmt is = absurd cc
depth_at (x ∷ body) zero stmt is = let same : x ≡ stmt = cc in omega (arith, ap depth_of same)
depth_at (x ∷ body) (suc i) stmt is = let before = depth_at body i stmt is in omega (arith, before)

depth_before : (body : List Stmt) (next : ℕ) (stmt : Stmt) → stmt_before body next ≡ Some stmt → depth_of stmt ≤ depth_in body
depth_before body zero stmt is = absurd cc
depth_before body (suc next) stmt is = depth_at body next stmt is

body_depth : (k : LevelKind) (x : Stmt-F Stmt) → holds_kind k x ≡ true → depth_in (body_in k x) < stmt_depth (map-Stmt Stmt ℕ depth_of x)
body_depth kind.Loop (Stmt-F.Loop turns body) holds = omega arith
body_depth kind.While (Stmt-F.While cond body) holds = omega arith
body_depth kind.First (Stmt-F.If cond first second) holds = omega arith
body_depth kind.Second (Stmt-F.If cond first second) holds = omega arith
body_depth k x holds = absurd cc

levels_deep : (whole : List Stmt) (spot : Spot) (levels : List Level) → are_levels whole spot levels ≡ true → length levels ≤ depth_in spot.body
levels_deep whole spot [] are = omega arith
levels_deep whole spot (level ∷ levels) are =
    let inside = enter whole spot level in
    let parts = and_parts (fits_level inside) (are_levels whole inside levels) are in
    let holds =
    and_parts (option_map_or (λ (s : Stmt). holds_kind level.kind (out-Stmt s)) inside.around false) (nat_le level.next (length inside.body)) parts.0 in
    let found = holder level.kind inside.around holds.0 in
    let stmt = found.0 in
    let body : inside.body ≡ body_in level.kind (out-Stmt stmt) =
    ap (body_entered whole level.kind) found.1 ∙ entered_holds whole level.kind stmt found.2 in
    omega (
      arith,
      levels_deep whole inside levels parts.1,
      ap depth_in body,
      body_depth level.kind (out-Stmt stmt) found.2,
      fold_out-Stmt ℕ stmt_depth stmt,
      depth_before spot.body spot.level.next stmt found.1,
    )

pub path_deep : (whole : List Stmt) (levels : List Level) → is_path whole levels ≡ true → length levels ≤ 1 + depth_in whole
path_deep whole [] is = omega arith
path_deep whole (first ∷ levels) is =
    let here = and_parts (is_driver first.kind && nat_le first.next (length whole)) (are_levels whole (enter whole no_spot first) levels) is in
    let body = driver_whole whole first.kind None (and_parts (is_driver first.kind) (nat_le first.next (length whole)) here.0).0 in
    let deep = levels_deep whole (enter whole no_spot first) levels here.1 in
    omega (arith, deep, ap depth_in body)

-- there is room for the level that comes behind others
pub room_left : (whole : List Stmt) (room : ℕ) (outer : List Level) (last : Level) → IsOpen whole room (outer ++ last ∷ []) → length outer < room
room_left whole room outer last is =
    omega (arith, path_deep whole (outer ++ last ∷ []) is.path, length-append outer (last ∷ []), is.shallow, is.roomy)

-- and no path is longer
pub levels_few : (whole : List Stmt) (levels : List Level) → is_path whole levels ≡ true → depth_in whole ≤ 16 → length levels ≤ 17
levels_few whole levels is shallow = omega (arith, path_deep whole levels is)
