-- The preconditions of a built template are main slots of live workers, each once.
use Rattle.std.proofs.Common.{◌≡◌, ℕ, zero, suc, ◌+◌, ◌<◌, ◌≤◌, Bool, true, false, List, [], ◌∷◌, ◌++◌, length, map, refl, ap, ap₂, sym, subst, ◌∙◌, arith}
use Rattle.std.proofs.Common.{Some}
use Rattle.std.specs.Prelude.{◌*◌, ◌==◌, ◌&&◌, if◌then◌else◌, nat_le, nat_lt}
use Rattle.std.specs.List.{AllByRecursion, filter, flat_map, fold, list_all, list_any, range_with_len}
use Rattle.std.proofs.lemmas.Bool.{eqb-true, le-leb, leb-true}
use Rattle.std.proofs.lemmas.List.Elements.{All-from_recursion}
use Rattle.std.proofs.lemmas.Option.{none-some}
use Rattle.nim_base.specs.declared.number.Object.{Object}
use Rattle.nim_base.specs.declared.number.Worker.{Worker}
use Rattle.nim_base.specs.declared.task.TaskForm.{TaskForm}
use Rattle.nim_command.specs.Numbers.{main_slot}
use Rattle.nim_command.specs.Slots.{is_among}
use Rattle.nim_place.specs.declared.placement.Placement.{Placement}
use Rattle.nim_place.specs.Extends.{is_live}
use Rattle.nim_place.specs.Versions.{Versions, held_at, is_current, is_kept, latest_of}
use Rattle.nim_place.proofs.Finds.{current_held}
use Rattle.nim_place.proofs.Places.{both_true}
use Rattle.nim_place.proofs.Puts.{IsPut, IsWhole, kept_bounds, put_all}
use Rattle.nim_template.specs.declared.template.ControllerTemplate.{ControllerTemplate}
use Rattle.nim_template.specs.declared.walk.Walk.{Walk}
use Rattle.nim_template.specs.Built.{all_slots, built, end_of, needs_of, slots_of}
use Rattle.nim_template.specs.Fits.{is_fit}
use Rattle.nim_template.specs.MainSlots.{AreMainSlots, do_slots_ascend}
use Rattle.nim_template.specs.Walk.{empty_walk, home_of, walked, walked_past, with_need, with_offset}
use Rattle.nim_template.proofs.Again.{home_within, nothing_held, start_walked}
use Rattle.nim_template.proofs.Effects.{some_kept}
use Rattle.nim_template.proofs.InTurn.{home_lives}
use Rattle.nim_template.proofs.Numbers.{filter_few, slots_long}
use Rattle.nim_template.proofs.Sizes.{AreLike, form_like, like_need, need_if}
use Rattle.nim_template.proofs.Walks.{IsWalked, IsWalkedTo, form_walked, need_walked, walk_kept}

-- ---- whose they are

-- only slots of live workers hold anything
abbrev pub OnlyLive : List Bool → Versions → Type 0
OnlyLive live versions =
    (worker : Worker) (object : Object) (version : ℕ) → held_at versions worker (main_slot object) ≡ Some version → is_live live worker ≡ true

-- still where a live worker's slot is needed
live_after : (live : List Bool) (needed : Versions) (owner : Worker) (object : Object) → IsWhole needed → owner.0 < needed.workers → is_live live owner ≡ true
    → OnlyLive live needed → OnlyLive live (with_offset owner object 0 needed)
live_after live needed owner object whole below lives only worker other version held =
    chosen (is_among (main_slot object ∷ []) (main_slot other)) (owner.0 == worker.0) refl (sym (put.held worker (main_slot other) kept) ∙ held) where
      after : Versions
      after = with_offset owner object 0 needed

      put : IsPut needed owner 0 (main_slot object ∷ []) (with_offset owner object 0 needed)
      put = put_all needed owner 0 (main_slot object ∷ []) whole below

      kept : is_kept needed worker (main_slot other) ≡ true
      kept =
          ap₂ (λ (n m : ℕ). nat_lt worker.0 n && nat_lt other.0 m) (sym put.workers) (sym put.objects)
          ∙ some_kept after worker (main_slot other) version held

      chosen : (a b : Bool) → (owner.0 == worker.0) ≡ b → (if a && b then Some 0 else held_at needed worker (main_slot other)) ≡ Some version
          → is_live live worker ≡ true
      chosen true true same is = ap (λ (n : ℕ). is_live live (record { 0 = n })) (sym (eqb-true owner.0 worker.0 same)) ∙ lives
      chosen true false same is = only worker other version is
      chosen false b same is = only worker other version is

-- behind a read
need_live : (most : ℕ) (live : List Bool) (owner : Worker) (walk : Walk) (object : Object) → IsWalked most walk → owner.0 < walk.offsets.workers
    → is_live live owner ≡ true → OnlyLive live walk.needed → OnlyLive live (with_need owner walk object).needed
need_live most live owner walk object is below lives only = either (latest_of walk.offsets object == 0) where
  either : (b : Bool)
      → OnlyLive live
      (need_if b owner walk object).needed
  either true = live_after live walk.needed owner object is.whole (omega (arith, is.workers, below)) lives only
  either false = only

-- behind all reads of a task
needs_live : (most : ℕ) (live : List Bool) (owner : Worker) (reads : List Object) (walk : Walk) → IsWalked most walk → owner.0 < walk.offsets.workers
    → is_live live owner ≡ true → OnlyLive live walk.needed → OnlyLive live (fold (with_need owner) walk reads).needed
needs_live most live owner [] walk is below lives only = only
needs_live most live owner (object ∷ reads) walk is below lives only =
    let like = like_need owner walk object in
    needs_live most live owner reads (with_need owner walk object) (need_walked most owner walk object is below) (omega (arith, like.workers, below)) lives
    (need_live most live owner walk object is below lives only)

-- behind all tasks
walk_live : (place : Placement) (live : List Bool) (number : ℕ) (walk : Walk) (forms : List TaskForm) → IsWalked number walk
    → ((objects : ℕ) (f : TaskForm) → (home_of place objects live f).0 < walk.offsets.workers) → list_any (λ (flag : Bool). flag) live ≡ true
    → list_all (is_fit walk.offsets.objects) forms ≡ true → number + length forms ≤ 1024 → OnlyLive live walk.needed
    → OnlyLive live (walked place live number walk forms).needed
walk_live place live number walk [] is homes some fit few only = only
walk_live place live number walk (form ∷ forms) is homes some fit few only =
    let each = both_true (is_fit walk.offsets.objects form) (list_all (is_fit walk.offsets.objects) forms) fit in
    let owner : Worker = home_of place walk.offsets.objects live form in
    let next : Walk = walked_past place live number walk form in
    let like : AreLike walk.offsets next.offsets = form_like place live number walk next form refl in
    walk_live place live (number + 1) next forms (form_walked number place live walk form is homes (omega (arith, few)))
    (λ objects f. (let low = homes objects f in omega (arith, like.workers, low))) some
    (subst (λ (n : ℕ). list_all (is_fit n) forms ≡ true) (sym like.objects) each.1) (omega (arith, few))
    (needs_live number live owner form.reads walk is (homes walk.offsets.objects form) (home_lives place live walk.offsets.objects form some each.0) only)

-- a main slot of a live worker, of one of so many objects
abbrev IsMainSlot : List Bool → ℕ → Worker × Object → Type 0
IsMainSlot live objects slot = (is_live live slot.0 ≡ true) × (slot.1.0 < objects)

-- what is needed is such a slot
needs_there : (live : List Bool) (objects : ℕ) (needed : Versions) (slots : List (Worker × Object)) → OnlyLive live needed → needed.objects ≡ objects
    → AllByRecursion (IsMainSlot live objects) (needs_of needed slots)
needs_there live objects needed [] only columns = tt
needs_there live objects needed (slot ∷ slots) only columns =
    either (is_current needed slot.1 slot.0) refl (needs_there live objects needed slots only columns) where
      either : (b : Bool) → is_current needed slot.1 slot.0 ≡ b → AllByRecursion (IsMainSlot live objects) (needs_of needed slots)
          → AllByRecursion (IsMainSlot live objects) (if b then slot ∷ needs_of needed slots else needs_of needed slots)
      either false current rest = rest
      either true current rest =
          let holds : held_at needed slot.0 (main_slot slot.1) ≡ Some (latest_of needed slot.1) =
          current_held (latest_of needed slot.1) (held_at needed slot.0 (main_slot slot.1)) current in
          let bounds = kept_bounds needed slot.0 (main_slot slot.1) (some_kept needed slot.0 (main_slot slot.1) (latest_of needed slot.1) holds) in
          let inside = bounds.1 in
          ((only slot.0 slot.1 (latest_of needed slot.1) holds, omega (arith, columns, inside)), rest)

-- ---- their order

-- slots that ascend from a place on ascend from a lower one
ascend_lower : (objects lower low : ℕ) (slots : List (Worker × Object)) → lower ≤ low → do_slots_ascend objects low slots ≡ true
    → do_slots_ascend objects lower slots ≡ true
ascend_lower objects lower low [] under is = refl
ascend_lower objects lower low (slot ∷ slots) under is =
    let place : ℕ = slot.0.0 * objects + slot.1.0 in
    let each = both_true (nat_le low place) (do_slots_ascend objects (place + 1) slots) is in
    let over = leb-true low place each.0 in
    ap₂ (λ (a b : Bool). a && b) (le-leb lower place (omega (arith, under, over))) each.1

-- some of them ascend too
ascend_filter : (objects low : ℕ) (p : Worker × Object → Bool) (slots : List (Worker × Object)) → do_slots_ascend objects low slots ≡ true
    → do_slots_ascend objects low (filter p slots) ≡ true
ascend_filter objects low p [] is = refl
ascend_filter objects low p (slot ∷ slots) is =
    let place : ℕ = slot.0.0 * objects + slot.1.0 in
    let each = both_true (nat_le low place) (do_slots_ascend objects (place + 1) slots) is in
    either (p slot) each.0 (ascend_filter objects (place + 1) p slots each.1) where
      either : (b : Bool) → nat_le low (slot.0.0 * objects + slot.1.0) ≡ true
          → do_slots_ascend objects (slot.0.0 * objects + slot.1.0 + 1) (filter p slots) ≡ true
          → do_slots_ascend objects low (if b then slot ∷ filter p slots else filter p slots) ≡ true
      either true first rest = ap₂ (λ (a b : Bool). a && b) first rest
      either false first rest =
          let over = leb-true low (slot.0.0 * objects + slot.1.0) first in
          ascend_lower objects low (slot.0.0 * objects + slot.1.0 + 1) (filter p slots) (omega (arith, over)) rest

-- those of one worker, before others
row_ascends : (objects number from n : ℕ) (rest : List (Worker × Object)) → do_slots_ascend objects (number * objects + from + n) rest ≡ true
    → do_slots_ascend objects (number * objects + from)
    (map (λ (k : ℕ). (let worker : Worker = record { 0 = number } in let object : Object = record { 0 = k } in (worker, object)))
    (range_with_len from n) ++ rest) ≡ true
row_ascends objects number from zero rest is = ascend_lower objects (number * objects + from) (number * objects + from + 0) rest (omega arith) is
row_ascends objects number from (suc n) rest is =
    let row : ℕ = number * objects in
    let more : row + from + suc n ≡ row + (from + 1) + n = omega arith in
    let next : row + (from + 1) ≡ row + from + 1 = omega arith in
    let slots : List (Worker × Object) =
    map (λ (k : ℕ). (let worker : Worker = record { 0 = number } in let object : Object = record { 0 = k } in (worker, object)))
    (range_with_len (from + 1) n) ++ rest in
    ap₂ (λ (a b : Bool). a && b) (le-leb (row + from) (row + from) (omega arith))
    (subst (λ (k : ℕ). do_slots_ascend objects k slots ≡ true) next
    (row_ascends objects number (from + 1) n rest (subst (λ (k : ℕ). do_slots_ascend objects k rest ≡ true) more is)))

-- those of all workers
rows_ascend : (objects from n : ℕ)
    → do_slots_ascend objects (from * objects) (flat_map (λ (number : ℕ). slots_of (record { 0 = number }) objects) (range_with_len from n)) ≡ true
rows_ascend objects from zero = refl
rows_ascend objects from (suc n) =
    let others : List (Worker × Object) = flat_map (λ (number : ℕ). slots_of (record { 0 = number }) objects) (range_with_len (from + 1) n) in
    let start : from * objects + 0 ≡ from * objects = omega arith in
    let behind : (from + 1) * objects ≡ from * objects + 0 + objects = omega arith in
    subst (λ (k : ℕ). do_slots_ascend objects k (slots_of (record { 0 = from }) objects ++ others) ≡ true) start
    (row_ascends objects from 0 objects others (subst (λ (k : ℕ). do_slots_ascend objects k others ≡ true) behind (rows_ascend objects (from + 1) n)))

-- ---- the template

-- the preconditions of a built template
pub built_needs : (place : Placement) (objects : ℕ) (live : List Bool) (template : ControllerTemplate) → list_any (λ (flag : Bool). flag) live ≡ true
    → objects ≤ 512 → length template.forms ≤ 1024 → list_all (is_fit objects) template.forms ≡ true
    → AreMainSlots live objects (built place objects live template).preconditions
built_needs place objects live template some objects_few few fit =
    record {
      few = objects_few;
      there = All-from_recursion (IsMainSlot live objects) (needs_of walk.needed slots) (needs_there live objects walk.needed slots only columns);
      ascend = ascend_filter objects 0 (λ (slot : Worker × Object). is_current walk.needed slot.1 slot.0) slots
          (subst (λ (k : ℕ). do_slots_ascend objects k slots ≡ true) none_before (rows_ascend objects 0 workers));
      within =
          let long : length slots ≡ workers * objects = slots_long objects 0 workers in
          let filtered : length (needs_of walk.needed slots) ≤ length slots =
          filter_few (λ (slot : Worker × Object). is_current walk.needed slot.1 slot.0) slots in
          omega (arith, long, filtered);
    } where
      workers : ℕ
      workers = length live

      walk : Walk
      walk = end_of place objects live template.forms

      slots : List (Worker × Object)
      slots = all_slots workers objects

      none_before : 0 * objects ≡ 0
      none_before = omega arith

      begins : IsWalked 0 (empty_walk workers objects)
      begins = start_walked workers objects

      to : IsWalkedTo (0 + length template.forms) (empty_walk workers objects) walk
      to = walk_kept place live 0 (empty_walk workers objects) template.forms begins (home_within place live some) (omega (arith, few))

      columns : walk.needed.objects ≡ objects
      columns = to.walked.objects ∙ to.like.objects

      first : OnlyLive live (empty_walk workers objects).needed
      first worker object version held = absurd (none-some version (sym (nothing_held workers objects worker object) ∙ held))

      only : OnlyLive live walk.needed
      only = walk_live place live 0 (empty_walk workers objects) template.forms begins (home_within place live some) some fit (omega (arith, few)) first
