-- What comes first on a path, and what is known of its last level.
use Rattle.std.proofs.Common.{◌≡◌, ℕ, ◌+◌, ◌-◌, ◌<◌, ◌≤◌, zero, suc, true, false, List, [], ◌∷◌, ◌++◌, get_or, length, take, refl, ap, sym, subst, ◌∙◌, arith, inl, inr, None, Some}
use Rattle.std.specs.Prelude.{◌||◌, nat_le, nat_lt, slice_get}
use Rattle.std.proofs.lemmas.Bool.{and_from, le-leb, lt-ltb, ltb-true, or_cases, or_left, or_right}
use Rattle.std.proofs.lemmas.Bool.Decides.{leb_tells}
use Rattle.std.proofs.lemmas.List.{length-append, take_more}
use Rattle.nim_job.specs.declared.item.Item.TheVariants.{Run, Again}
use Rattle.nim_job.specs.declared.level.Level.{Level}
use Rattle.nim_job.specs.declared.level.LevelKind.{LevelKind}
use Rattle.nim_job.specs.declared.level.LevelKind.TheVariants as kind
use Rattle.nim_job.specs.declared.stmt.Stmt.{Stmt}
use Rattle.nim_job.specs.Quiet.{is_quiet}
use Rattle.nim_job.specs.Serial.{is_nil}
use Rattle.nim_job.specs.Levels.{IsOpen, Spot, is_loop, is_settled, stmt_next, enter, is_path, moved_on, no_spot, spot_from, spot_of, todo_of}
use Rattle.nim_base.proofs.Lists.{get_some}
use Rattle.nim_job.proofs.Moves.{is_while, todo_taken, todo_turns}
use Rattle.nim_job.proofs.Paths.{first_level, spot_last, stmt_within}

-- ---- what comes first

snoc_of : {X : Type 0} (xs : List X) → 0 < length xs → (front : List X) × (last : X) × (xs ≡ front ++ last ∷ [])
snoc_of [] some = absurd (omega (arith, some))
snoc_of (x ∷ []) some = ([], x, refl)
snoc_of (x ∷ y ∷ xs) some = let rest = snoc_of (y ∷ xs) (omega arith) in (x ∷ rest.0, rest.1, ap (λ zs. x ∷ zs) rest.2)

-- where a path is settled something is to do: the next statement, or further turns of a loop, which ask nothing
abbrev Front : List Stmt → List Level → Type 0
Front whole levels = (is_nil (todo_of whole levels) ≡ false) × (stmt_next (spot_of whole levels) ≡ None → is_quiet (todo_of whole levels) ≡ true)

front_stmt : (whole : List Stmt) (outer : List Level) (last : Level) (stmt : Stmt) → stmt_next (spot_of whole (outer ++ last ∷ [])) ≡ Some stmt
    → Front whole (outer ++ last ∷ [])
front_stmt whole outer last stmt is = (ap is_nil (todo_taken whole outer last stmt is), λ none. absurd (let apart = sym is ∙ none in cc))

front_turns : (whole : List Stmt) (outer : List Level) (last : Level) → length (spot_of whole (outer ++ last ∷ [])).body ≤ last.next → is_loop last.kind ≡ true
    → Front whole (outer ++ last ∷ [])
front_turns whole outer last done is = let turns = todo_turns whole outer last done is in (ap is_nil turns, λ none. ap is_quiet turns)

loop_there : (k : LevelKind) (next size : ℕ) → (is_loop k || nat_lt next size) ≡ true → size ≤ next → is_loop k ≡ true
loop_there k next size settled done =
    elim (or_cases (is_loop k) (nat_lt next size) settled) [
      | inl loop ↦ loop
      | inr more ↦ absurd (let less = ltb-true next size more in omega (arith, less, done))
    ]

front_last : (whole : List Stmt) (outer : List Level) (last : Level) → is_settled (spot_of whole (outer ++ last ∷ [])) ≡ true → Front whole (outer ++ last ∷ [])
front_last whole outer last settled =
    let spot = spot_of whole (outer ++ last ∷ []) in
    let level : spot.level ≡ last = ap (λ (s : Spot). s.level) (spot_last whole outer last) in
    let next : spot.level.next ≡ last.next = ap (λ (l : Level). l.next) level in
    elim (leb_tells (length spot.body) spot.level.next) [
      | inl done ↦
          front_turns whole outer last (let past = done.1 in omega (arith, past, next))
          (ap (λ (l : Level). is_loop l.kind) (sym level) ∙ loop_there spot.level.kind spot.level.next (length spot.body) settled done.1)
      | inr more ↦ let found = get_some spot.body spot.level.next more.1 in front_stmt whole outer last found.0 found.1
    ]

pub front : (whole : List Stmt) (levels : List Level) → 0 < length levels → is_settled (spot_of whole levels) ≡ true → Front whole levels
front whole levels some settled =
    let parts = snoc_of levels some in
    subst (Front whole) (sym parts.2) (front_last whole parts.0 parts.1 (sym (ap (λ (ls : List Level). is_settled (spot_of whole ls)) parts.2) ∙ settled))

-- the same path in the same room
pub same_open : (whole : List Stmt) (room other : ℕ) (old new : List Level) → IsOpen whole room old → other ≡ room → new ≡ old → IsOpen whole other new
same_open whole room other old new is rooms paths =
    record { path = ap (is_path whole) paths ∙ is.path; shallow = is.shallow; roomy = (let roomy = is.roomy in omega (arith, roomy, rooms)) }

-- the next statement of the innermost body is one of it
pub next_within : (whole : List Stmt) (outer : List Level) (last : Level) (stmt : Stmt) → stmt_next (spot_of whole (outer ++ last ∷ [])) ≡ Some stmt
    → last.next < length (spot_of whole (outer ++ last ∷ [])).body
next_within whole outer last stmt is =
    let spot = spot_of whole (outer ++ last ∷ []) in
    let next : spot.level.next ≡ last.next = ap (λ (s : Spot). s.level.next) (spot_last whole outer last) in
    let within = stmt_within spot.body spot.level.next stmt is in
    omega (arith, within, next)

-- where one level more leads
pub spot_more : (whole : List Stmt) (levels : List Level) (i : ℕ) (d : Level) → i < length levels
    → spot_of whole (take (i + 1) levels) ≡ enter whole (spot_of whole (take i levels)) (get_or levels i d)
spot_more whole levels i d within = ap (spot_of whole) (take_more levels i d within) ∙ spot_last whole (take i levels) (get_or levels i d)

innermost_from : (whole : List Stmt) (spot : Spot) (levels : List Level) (last : Level) → Some last ≡ slice_get levels (length levels - 1)
    → (spot_from whole spot levels).level ≡ last
innermost_from whole spot [] last is = absurd cc
innermost_from whole spot (x ∷ []) last is = let same : last ≡ x = cc in sym same
innermost_from whole spot (x ∷ y ∷ levels) last is =
    let later : length (x ∷ y ∷ levels) - 1 ≡ suc (length (y ∷ levels) - 1) = omega arith in
    innermost_from whole (enter whole spot x) (y ∷ levels) last (is ∙ ap (slice_get (x ∷ y ∷ levels)) later)

-- the last level is the innermost
pub innermost : (whole : List Stmt) (levels : List Level) (last : Level) → Some last ≡ slice_get levels (length levels - 1)
    → (spot_of whole levels).level ≡ last
innermost whole levels last is = innermost_from whole no_spot levels last is

-- whether the innermost level has more to do
pub settled_more : (whole : List Stmt) (outer : List Level) (last : Level) → last.next < length (spot_of whole (outer ++ last ∷ [])).body
    → is_settled (spot_of whole (outer ++ last ∷ [])) ≡ true
settled_more whole outer last more =
    let spot = spot_of whole (outer ++ last ∷ []) in
    let next : spot.level.next ≡ last.next = ap (λ (s : Spot). s.level.next) (spot_last whole outer last) in
    or_right (is_loop spot.level.kind) (nat_lt spot.level.next (length spot.body)) (lt-ltb spot.level.next (length spot.body) (omega (arith, more, next)))

pub settled_loop : (whole : List Stmt) (outer : List Level) (last : Level) → last.kind ≡ kind.Loop → is_settled (spot_of whole (outer ++ last ∷ [])) ≡ true
settled_loop whole outer last is =
    let spot = spot_of whole (outer ++ last ∷ []) in
    or_left (is_loop spot.level.kind) (nat_lt spot.level.next (length spot.body))
    (ap (λ (s : Spot). is_loop s.level.kind) (spot_last whole outer last) ∙ ap is_loop is)

pub not_loop : (k : LevelKind) → (k ≡ kind.Loop → ⊥) → is_loop k ≡ false
not_loop kind.Loop other = absurd (other refl)
not_loop k other = refl

pub not_while : (k : LevelKind) → (k ≡ kind.While → ⊥) → is_while k ≡ false
not_while kind.While other = absurd (other refl)
not_while k other = refl

-- the next statement by its number
pub next_at : (whole : List Stmt) (outer : List Level) (last : Level) (stmt : Stmt) → Some stmt ≡ slice_get (spot_of whole (outer ++ last ∷ [])).body last.next
    → stmt_next (spot_of whole (outer ++ last ∷ [])) ≡ Some stmt
next_at whole outer last stmt is =
    let spot = spot_of whole (outer ++ last ∷ []) in
    let next : spot.level.next ≡ last.next = ap (λ (s : Spot). s.level.next) (spot_last whole outer last) in
    ap (slice_get spot.body) next ∙ sym is

get_none : {X : Type 0} (xs : List X) (i : ℕ) → None ≡ slice_get xs i → length xs ≤ i
get_none [] i is = omega arith
get_none (x ∷ xs) zero is = absurd cc
get_none (x ∷ xs) (suc i) is = let rest = get_none xs i is in omega (arith, rest)

pub next_none : (whole : List Stmt) (outer : List Level) (last : Level) → None ≡ slice_get (spot_of whole (outer ++ last ∷ [])).body last.next
    → length (spot_of whole (outer ++ last ∷ [])).body ≤ last.next
next_none whole outer last is = get_none (spot_of whole (outer ++ last ∷ [])).body last.next is

-- a settled path whose innermost body is done is in a loop's
pub loop_left : (whole : List Stmt) (outer : List Level) (last : Level)
    → (0 < length (outer ++ last ∷ []) → is_settled (spot_of whole (outer ++ last ∷ [])) ≡ true)
    → None ≡ slice_get (spot_of whole (outer ++ last ∷ [])).body last.next → is_loop last.kind ≡ true
loop_left whole outer last settled none =
    let spot = spot_of whole (outer ++ last ∷ []) in
    let level : spot.level ≡ last = ap (λ (s : Spot). s.level) (spot_last whole outer last) in
    let done = next_none whole outer last none in
    ap (λ (l : Level). is_loop l.kind) (sym level)
    ∙ loop_there spot.level.kind spot.level.next (length spot.body) (settled (omega (arith, length-append outer (last ∷ []))))
    (omega (arith, done, ap (λ (l : Level). l.next) level))

-- what was to do before the last level of a settled path was taken away, where a statement comes next
pub taken_front : (whole : List Stmt) (old between outer : List Level) (last : Level) (stmt : Stmt) (body : List Stmt)
    → todo_of whole between ≡ todo_of whole old → between ≡ outer ++ last ∷ []
    → body ≡ (spot_of whole between).body → Some stmt ≡ slice_get body last.next → todo_of whole old ≡ Run stmt ∷ todo_of whole (outer ++ moved_on last ∷ [])
taken_front whole old between outer last stmt body todo items at is =
    sym todo ∙ ap (todo_of whole) items
    ∙ todo_taken whole outer last stmt
    (next_at whole outer last stmt (is ∙ ap (λ (stmts : List Stmt). slice_get stmts last.next)
    (at ∙ ap (λ (levels : List Level). (spot_of whole levels).body) items)))

-- and where none does
pub turns_front : (whole : List Stmt) (old between outer : List Level) (last : Level) (body : List Stmt) → todo_of whole between ≡ todo_of whole old
    → between ≡ outer ++ last ∷ []
    → body ≡ (spot_of whole between).body → (0 < length between → is_settled (spot_of whole between) ≡ true) → None ≡ slice_get body last.next
    → todo_of whole old ≡ Again last.turns (spot_of whole (outer ++ last ∷ [])).body ∷ todo_of whole outer
turns_front whole old between outer last body todo items at settled is =
    let none = is ∙ ap (λ (stmts : List Stmt). slice_get stmts last.next) (at ∙ ap (λ (levels : List Level). (spot_of whole levels).body) items) in
    let loop = loop_left whole outer last (subst (λ (levels : List Level). 0 < length levels → is_settled (spot_of whole levels) ≡ true) items settled) none in
    sym todo ∙ ap (todo_of whole) items ∙ todo_turns whole outer last (next_none whole outer last none) loop

-- a driver that stands before its body is on a path of it
pub start_path : (body : List Stmt) → is_path body (first_level kind.Driver 0 ∷ []) ≡ true
start_path body = and_from (nat_le 0 (length body)) true (le-leb 0 (length body) (omega arith)) refl
