-- What single scheduling finds for each task of a block, which commands are of a task's first phases, and what a form is
-- in its block.
use Rattle.std.proofs.Common.{◌≡◌, ℕ, ◌+◌, ◌<◌, ◌≤◌, Bool, true, false, List, [], ◌∷◌, ◌++◌, length, map, take, refl, ap, sym, subst, ◌∙◌}
use Rattle.std.proofs.Common.{arith}
use Rattle.std.specs.Prelude.{◌*◌, ◌^◌, ◌==◌, ◌||◌, if◌then◌else◌, nat_le, nat_lt, not, slice_index_or, ℤ}
use Rattle.std.specs.List.{AllByRecursion, fold, list_all}
use Rattle.std.specs.Option.{is_some}
use Rattle.std.proofs.lemmas.Bool.{eq-eqb, false_from_ne_true, le-leb, leb-true, lt-ltb, ltb-true}
use Rattle.nim_base.specs.declared.number.Object.{Object}
use Rattle.nim_base.specs.declared.number.Worker.{Worker}
use Rattle.nim_base.specs.declared.task.TaskForm.{TaskForm}
use Rattle.nim_command.specs.declared.command.Command.{Command}
use Rattle.nim_command.specs.Numbers.{counted_from}
use Rattle.nim_place.specs.declared.placement.Placement.{Placement}
use Rattle.nim_place.specs.Schedule.{is_one_of, moves, receive_of, scheduled, send_of}
use Rattle.nim_place.specs.Versions.{Versions, after_commands, holder, is_current, latest_of}
use Rattle.nim_place.proofs.Moves.{AreIndexed, moves_indexed}
use Rattle.nim_place.proofs.Places.{both_true}
use Rattle.nim_template.specs.Fits.{is_fit}
use Rattle.nim_template.specs.Tasks.{task_with}
use Rattle.nim_template.specs.Walk.{home_of, walked, walked_past, with_need}
use Rattle.nim_template.proofs.Alike.{IsAlike, IsEntry}
use Rattle.nim_template.proofs.ByRank.{RanksAscend, order_of}
use Rattle.nim_template.proofs.Chosen.{AreReady}
use Rattle.nim_template.proofs.Fits.{read_below}
use Rattle.nim_template.proofs.Instances.{form_ready, needs_alike, reads_there, task_alike, walk_grows}
use Rattle.nim_template.proofs.Sizes.{AreLike, form_like, like_needs}
use Rattle.nim_template.proofs.TasksRun.{found_holder}
use Rattle.nim_template.proofs.Walks.{IsWalked, form_walked, has_any, needs_walked}
use Rattle.nim_edit.specs.Moves.{no_task, offset_behind, read_behind, worker_at}
use Rattle.nim_base.proofs.Lists.{each_append}
use Rattle.nim_edit.proofs.Ascending.{order_bounds}
use Rattle.nim_edit.proofs.InOrder.{commands_onward, commands_under}
use Rattle.nim_edit.proofs.Listed.{Walk}
use Rattle.nim_edit.proofs.Parcels.{copies_ranked}

-- ---- what single scheduling finds for each task

-- a task's home is there, and each object that it reads somebody has
pub record MayTake (versions : Versions) (home : Worker) (reads : List Object) : Type 0 where
  pub below : home.0 < versions.workers
  pub within : (object : Object) → is_one_of reads object ≡ true → object.0 < versions.objects
  pub holders : (object : Object) → is_one_of reads object ≡ true → is_some (holder versions object) ≡ true

-- so it is for each task in turn
abbrev pub AreTaken : Placement → List Bool → ℕ → List ℤ → ℕ → Versions → List TaskForm → Type 0
AreTaken place live base args number versions [] = Unit {0}
AreTaken place live base args number versions (form ∷ forms) =
    MayTake versions (home_of place versions.objects live form) form.reads
    × AreTaken place live base args (number + 1)
    (after_commands versions (scheduled versions (task_with args form) number (counted_from base number) place live)) forms

pub tasks_taken : (place : Placement) (live : List Bool) (base : ℕ) (args : List ℤ) (entry : Versions) (number : ℕ) (walk : Walk) (versions : Versions)
    (forms : List TaskForm) → IsAlike base entry walk.offsets versions → IsWalked number walk
    → ((objects : ℕ) (f : TaskForm) → (home_of place objects live f).0 < walk.offsets.workers) → IsEntry base walk.offsets.objects entry
    → list_all (is_fit walk.offsets.objects) forms ≡ true
    → ((worker : Worker) (object : Object) → worker.0 < walk.offsets.workers → object.0 < walk.offsets.objects
    → has_any (walked place live number walk forms).needed worker object ≡ true → is_current entry object worker ≡ true)
    → number + length forms ≤ 1024 → base + 1024 < 2 ^ 64 → AreTaken place live base args number versions forms
tasks_taken place live base args entry number walk versions [] alike is homes at fit current few room = tt
tasks_taken place live base args entry number walk versions (form ∷ forms) alike is homes at fit current few room =
    let owner : Worker = home_of place walk.offsets.objects live form in
    let below : owner.0 < walk.offsets.workers = homes walk.offsets.objects form in
    let each = both_true (is_fit walk.offsets.objects form) (list_all (is_fit walk.offsets.objects) forms) fit in
    let ready : Walk = fold (with_need owner) walk form.reads in
    let next : Walk = walked_past place live number walk form in
    let like_next : AreLike walk.offsets next.offsets = form_like place live number walk next form refl in
    let like_ready : AreLike walk.offsets ready.offsets = like_needs owner form.reads walk in
    let now : IsWalked number ready = needs_walked number owner form.reads walk is below in
    let after_walk : IsWalked (number + 1) next = form_walked number place live walk form is homes (omega (arith, few)) in
    let later : (objects : ℕ) (f : TaskForm) → (home_of place objects live f).0 < next.offsets.workers =
    λ objects f. (let low = homes objects f in omega (arith, like_next.workers, low)) in
    let within : (object : Object) → is_one_of form.reads object ≡ true → object.0 < walk.offsets.objects =
    λ object one. read_below walk.offsets.objects form object each.0 one in
    let needed : (object : Object) → is_one_of form.reads object ≡ true → latest_of walk.offsets object ≡ 0 → has_any ready.needed owner object ≡ true =
    λ object one none. reads_there number owner form.reads walk is below object one (within object one) none in
    let holds : (object : Object) → is_one_of form.reads object ≡ true → latest_of walk.offsets object ≡ 0 → is_current entry object owner ≡ true =
    λ object one none.
    current owner object below (within object one)
    (walk_grows place live (number + 1) next forms after_walk later (omega (arith, few)) owner object (omega (arith, like_next.workers, below))
    (let inside = within object one in omega (arith, like_next.objects, inside)) (needed object one none)) in
    let alike_now : IsAlike base entry ready.offsets versions =
    needs_alike base number entry versions owner form.reads walk alike is below within holds in
    let at_ready : IsEntry base ready.offsets.objects entry = subst (λ (n : ℕ). IsEntry base n entry) (sym like_ready.objects) at in
    let are_ready = form_ready place live number walk form is homes each.0 in
    let home : Worker = home_of place versions.objects live form in
    let here : AreReady ready.offsets home form.reads =
    subst (λ (w : Worker). AreReady ready.offsets w form.reads) (ap (λ (n : ℕ). home_of place n live form) (sym alike_now.objects)) are_ready in (
      record {
        below = (let low = here.below in omega (arith, alike_now.workers, low));
        within = λ object one. (let low = here.within object one in omega (arith, alike_now.objects, low));
        holders = λ object one.
            found_holder base number entry ready.offsets versions home form.reads object alike_now now.kept at_ready here (omega (arith, few, room)) one;
      },
      tasks_taken place live base args entry (number + 1) next
          (after_commands versions (scheduled versions (task_with args form) number (counted_from base number) place live)) forms
          (task_alike base entry ready.offsets versions place live args number form alike_now now.kept at_ready are_ready (omega (arith, few)) room) after_walk
          later (subst (λ (k : ℕ). IsEntry base k entry) (sym like_next.objects) at)
          (subst (λ (k : ℕ). list_all (is_fit k) forms ≡ true) (sym like_next.objects) each.1)
          (λ worker object lower deep has. current worker object (omega (arith, like_next.workers, lower)) (omega (arith, like_next.objects, deep)) has)
          (omega (arith, few)) room,
    )

-- ---- the first phases of a task

abbrev pub AllUnder : ℕ → List (Worker × Command) → Type 0
AllUnder high cs = AllByRecursion (λ (c : Worker × Command). c.1.id < high) cs

abbrev pub AllOnward : ℕ → List (Worker × Command) → Type 0
AllOnward low cs = AllByRecursion (λ (c : Worker × Command). low ≤ c.1.id) cs

not_less : (n m : ℕ) → m ≤ n → nat_lt n m ≡ false
not_less n m above = false_from_ne_true (nat_lt n m) (λ is. (let less = ltb-true n m is in omega (arith, above, less)))

not_most : (n m : ℕ) → n < m → nat_le m n ≡ false
not_most n m below = false_from_ne_true (nat_le m n) (λ is. (let most = leb-true m n is in omega (arith, below, most)))

pub onward_none : (low : ℕ) (xs ys : List (Worker × Command)) → AllUnder low xs → commands_onward low (xs ++ ys) ≡ commands_onward low ys
onward_none low [] ys under = refl
onward_none low (x ∷ xs) ys under =
    ap (λ (b : Bool). if not b then x ∷ commands_onward low (xs ++ ys) else commands_onward low (xs ++ ys)) (lt-ltb x.1.id low under.0)
    ∙ onward_none low xs ys under.1

pub onward_all : (low : ℕ) (ys : List (Worker × Command)) → AllOnward low ys → commands_onward low ys ≡ ys
onward_all low [] onward = refl
onward_all low (y ∷ ys) onward =
    ap (λ (b : Bool). if not b then y ∷ commands_onward low ys else commands_onward low ys) (not_less y.1.id low onward.0)
    ∙ ap (λ (cs : List (Worker × Command)). y ∷ cs) (onward_all low ys onward.1)

pub under_front : (high : ℕ) (xs ys : List (Worker × Command)) → AllUnder high xs → AllOnward high ys → commands_under high (xs ++ ys) ≡ xs
under_front high [] [] under onward = refl
under_front high [] (y ∷ ys) under onward =
    ap (λ (b : Bool). if not b then y ∷ commands_under high ys else commands_under high ys) (le-leb high y.1.id onward.0)
    ∙ under_front high [] ys tt onward.1
under_front high (x ∷ xs) ys under onward =
    ap (λ (b : Bool). if not b then x ∷ commands_under high (xs ++ ys) else commands_under high (xs ++ ys)) (not_most x.1.id high under.0)
    ∙ ap (λ (cs : List (Worker × Command)). x ∷ cs) (under_front high xs ys under.1 onward)

pub ids_onward : (low high n : ℕ) (cs : List (Worker × Command)) → RanksAscend low high cs → 2 * n ≤ low → AllOnward n cs
ids_onward low high n [] are above = tt
ids_onward low high n (c ∷ cs) are above =
    let bounds = order_bounds c.1 in
    let first = are.1 in
    let most = bounds.1 in
    (omega (arith, first, most, above), ids_onward (order_of c.1 + 1) high n cs are.2 (omega (arith, above, first)))

sends_under : (number : ℕ) (owner : Worker) (low : ℕ) (ms : List _) → number < 1024 → AreIndexed low 8 ms
    → AllUnder (64 * number + 16) (map (send_of number owner) ms)
sends_under number owner low [] few at = tt
sends_under number owner low (m ∷ ms) few at =
    (let most = at.1 in omega (arith, few, most), sends_under number owner (m.index + 1) ms few at.2)

receives_under : (versions : Versions) (number : ℕ) (owner : Worker) (low : ℕ) (ms : List _) → number < 1024 → AreIndexed low 8 ms
    → AllUnder (64 * number + 16) (map (receive_of versions number owner) ms)
receives_under versions number owner low [] few at = tt
receives_under versions number owner low (m ∷ ms) few at =
    (let most = at.1 in omega (arith, few, most), receives_under versions number owner (m.index + 1) ms few at.2)

pub copies_under : (versions : Versions) (number : ℕ) (owner : Worker) (reads : List Object) → number < 1024 → length reads ≤ 8
    → AllUnder (64 * number + 16) (copies_ranked versions number owner reads)
copies_under versions number owner reads few short =
    let ms = moves versions owner [] reads in
    let at : AreIndexed 0 8 ms = moves_indexed versions owner [] reads 8 (omega (arith, short)) in
    each_append (λ (c : Worker × Command). c.1.id < 64 * number + 16) (map (send_of number owner) ms) (map (receive_of versions number owner) ms)
    (sends_under number owner 0 ms few at) (receives_under versions number owner 0 ms few at)

pub under_more : (low high : ℕ) (cs : List (Worker × Command)) → low ≤ high → AllUnder low cs → AllUnder high cs
under_more low high [] above under = tt
under_more low high (c ∷ cs) above under = (let least = under.0 in omega (arith, least, above), under_more low high cs above under.1)

-- ---- the forms of a block

pub taken_front : (past ys : List TaskForm) → take (length past) (past ++ ys) ≡ past
taken_front [] ys = refl
taken_front (x ∷ past) ys = ap (λ (xs : List TaskForm). x ∷ xs) (taken_front past ys)

pub got_front : (past : List TaskForm) (form : TaskForm) (ys : List TaskForm) → slice_index_or (past ++ form ∷ ys) (length past) no_task ≡ form
got_front [] form ys = refl
got_front (x ∷ past) form ys = got_front past form ys

pub home_front : (home : TaskForm → Worker) (past : List TaskForm) (form : TaskForm) (ys : List TaskForm)
    → worker_at (map home (past ++ form ∷ ys)) (length past) ≡ home form
home_front home [] form ys = refl
home_front home (x ∷ past) form ys = home_front home past form ys

pub offset_more : (before number : ℕ) (object : Object) (past : List TaskForm) (form : TaskForm)
    → offset_behind before number object (past ++ form ∷ [])
    ≡ (if is_one_of form.writes object then number + length past + 1 else offset_behind before number object past)
offset_more before number object [] form = ap (λ (n : ℕ). if is_one_of form.writes object then n + 1 else before) (omega arith)
offset_more before number object (x ∷ past) form =
    offset_more (if is_one_of x.writes object then number + 1 else before) (number + 1) object past form
    ∙ ap (λ (n : ℕ). if is_one_of form.writes object then n else offset_behind (if is_one_of x.writes object then number + 1 else before) (number + 1) object
    past)
    (omega arith)

pub reads_all : (P : Object → ℕ → Type 0) (past : List TaskForm) (objects : List Object)
    → ((object : Object) → is_one_of objects object ≡ true → P object (offset_behind 0 0 object past))
    → AllByRecursion (λ (r : Object × ℕ). P r.0 r.1) (map (read_behind past) objects)
reads_all P past [] each = tt
reads_all P past (o ∷ objects) each = (
  each o (ap (λ (b : Bool). b || is_one_of objects o) (eq-eqb o.0 o.0 refl)),
  reads_all P past objects (λ object one. each object (later object one)),
) where
  later : (object : Object) → is_one_of objects object ≡ true → is_one_of (o ∷ objects) object ≡ true
  later object one = either (o.0 == object.0) where
    either : (b : Bool) → (b || is_one_of objects object) ≡ true
    either true = refl
    either false = one
