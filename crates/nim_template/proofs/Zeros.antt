-- Offset 0 stands in a main slot only where this was needed at entry.
use Rattle.std.proofs.Common.{◌≡◌, ℕ, ◌<◌, Bool, true, false, List, [], ◌∷◌, map, ap, sym, subst, ◌∙◌, arith, refl, Option, Some}
use Rattle.std.specs.Prelude.{◌==◌, ◌&&◌, if◌then◌else◌, max}
use Rattle.std.specs.List.{fold}
use Rattle.std.specs.Option.{option_map_or}
use Rattle.std.proofs.lemmas.Bool.{eq-eqb, eqb-false, eqb-true, ne_eqb, or_left, or_right}
use Rattle.std.proofs.lemmas.List.Sums.{fold-append}
use Rattle.nim_base.specs.declared.number.Object.{Object}
use Rattle.nim_base.specs.declared.number.Slot.{Slot}
use Rattle.nim_base.specs.declared.number.Worker.{Worker}
use Rattle.nim_base.specs.declared.task.TaskForm.{TaskForm}
use Rattle.nim_command.specs.declared.command.Command.{Command}
use Rattle.nim_command.specs.Holds.{version_after}
use Rattle.nim_command.specs.Numbers.{main_slot}
use Rattle.nim_command.specs.Slots.{is_among}
use Rattle.nim_place.specs.declared.placement.Placement.{Placement}
use Rattle.nim_place.specs.Schedule.{copies_of, is_one_of, moves, run_of, scheduled}
use Rattle.nim_place.specs.Versions.{Versions, after_commands, after_kind, held_at, is_current, latest_of, with_version}
use Rattle.nim_place.proofs.Moves.{AreLacking, AreMoves, moves_facts, moves_lacking}
use Rattle.nim_place.proofs.Puts.{IsPut, IsWhole, kept_for, put_all, whole_after}
use Rattle.nim_template.specs.declared.walk.Walk.{Walk}
use Rattle.nim_template.specs.Walk.{home_of, task_for, with_need, with_offset}
use Rattle.nim_template.proofs.Chosen.{AreReady, moved_more}
use Rattle.nim_template.proofs.Offsets.{IsKept}
use Rattle.nim_template.proofs.Sizes.{like_need, need_if}
use Rattle.nim_template.proofs.Walks.{AreCopies, IsWalked, copies_kept, latest_within, need_walked, only_object}

-- what has offset 0 was current at entry
pub record IsZero (entry offsets : Versions) : Type 0 where
  pub current : (worker : Worker) (object : Object) → worker.0 < offsets.workers → object.0 < offsets.objects
      → held_at offsets worker (main_slot object) ≡ Some 0 → is_current entry object worker ≡ true

-- ---- a put of another offset

still_zero : (b : Bool) (offset : ℕ) (old new : Option ℕ) → new ≡ (if b then Some offset else old) → (offset == 0) ≡ false → new ≡ Some 0 → old ≡ Some 0
still_zero true offset old new put more is =
    absurd (eqb-false offset 0 more (ap (λ (o : Option ℕ). option_map_or (λ (n : ℕ). n) o 1) (sym put ∙ is)))
still_zero false offset old new put more is = sym put ∙ is

pub zero_put : (entry offsets : Versions) (worker : Worker) (offset : ℕ) (slots : List Slot) → IsZero entry offsets → IsWhole offsets
    → worker.0 < offsets.workers → (offset == 0) ≡ false → IsZero entry (fold (with_version worker offset) offsets slots)
zero_put entry offsets worker offset slots zero whole below more =
    let after : Versions = fold (with_version worker offset) offsets slots in
    let put : IsPut offsets worker offset slots after = put_all offsets worker offset slots whole below in
    record {
      current = λ other object other_below there is.
          let lower : other.0 < offsets.workers = omega (arith, put.workers, other_below) in
          let inside : object.0 < offsets.objects = omega (arith, put.objects, there) in
          zero.current other object lower inside
          (still_zero (is_among slots (main_slot object) && (worker.0 == other.0)) offset (held_at offsets other (main_slot object))
          (held_at after other (main_slot object)) (put.held other (main_slot object) (kept_for offsets other (main_slot object) lower inside)) more is);
    }

zero_copies : (entry base now : Versions) (reads : List Object) (task : ℕ) (owner : Worker) (ms : List _) → IsZero entry now → IsWhole now
    → owner.0 < now.workers → AreReady base owner reads → AreMoves base owner reads ms → AreLacking base owner ms
    → IsZero entry (after_commands now (copies_of base task owner ms))
zero_copies entry base now reads task owner [] zero whole below ready are lacking = zero
zero_copies entry base now reads task owner (m ∷ ms) zero whole below ready are lacking =
    let offset : ℕ = latest_of base m.object in
    let slots : List Slot = main_slot m.object ∷ [] in
    let next : Versions = with_version owner offset now (main_slot m.object) in
    let put : IsPut now owner offset slots next = put_all now owner offset slots whole below in
    zero_copies entry base next reads task owner ms
    (zero_put entry now owner offset slots zero whole below (moved_more base owner reads m.object ready are.2 lacking.0))
    (whole_after now owner offset slots next put whole) (omega (arith, put.workers, below)) ready are.4 lacking.1

-- what a task leaves
pub zero_task : (entry : Versions) (place : Placement) (live : List Bool) (task : ℕ) (offsets : Versions) (form : TaskForm) → IsZero entry offsets
    → IsKept task offsets → AreReady offsets (home_of place offsets.objects live form) form.reads → task < 1024
    → IsZero entry (after_commands offsets (scheduled offsets (task_for form) task task place live))
zero_task entry place live task offsets form zero kept ready few =
    let owner : Worker = home_of place offsets.objects live form in
    let ms = moves offsets owner [] form.reads in
    let copies : List (Worker × Command) = copies_of offsets task owner ms in
    let run : Worker × Command = (owner, run_of (task_for form) task task ms) in
    let mid : Versions = after_commands offsets copies in
    let slots : List Slot = map main_slot form.writes in
    let facts : AreCopies task offsets offsets mid = copies_kept task offsets offsets task owner ms kept ready.below
    (λ object. latest_within task offsets object kept) (λ object there. refl) in
    let first : IsZero entry mid =
    zero_copies entry offsets offsets form.reads task owner ms zero kept.whole ready.below ready (moves_facts offsets owner form.reads)
    (moves_lacking offsets owner [] form.reads) in
    subst (IsZero entry) (sym (fold-append (λ (before : Versions) (c : Worker × Command). after_kind c.0 before c.1.kind) offsets copies (run ∷ [])))
    (zero_put entry mid owner (version_after task) slots first facts.is_after.kept.whole (omega (arith, facts.is_after.workers, ready.below))
    (ne_eqb (version_after task) 0 (λ none. omega (arith, none, few))))

-- ---- a need

zero_or : (b c : Bool) (old new : Option ℕ) → new ≡ (if b && c then Some 0 else old) → (P : Type 0) → (b ≡ true → c ≡ true → P) → (old ≡ Some 0 → P)
    → new ≡ Some 0 → P
zero_or true true old new put P own rest is = own refl refl
zero_or true false old new put P own rest is = rest (sym put ∙ is)
zero_or false c old new put P own rest is = rest (sym put ∙ is)

zero_need : (most : ℕ) (entry : Versions) (owner : Worker) (walk : Walk) (object : Object) → IsZero entry walk.offsets → IsWalked most walk
    → owner.0 < walk.offsets.workers → (latest_of walk.offsets object ≡ 0 → is_current entry object owner ≡ true)
    → IsZero entry (with_need owner walk object).offsets
zero_need most entry owner walk object zero is below needed = either (latest_of walk.offsets object == 0) refl where
  after : Versions
  after = with_offset owner object 0 walk.offsets

  put : IsPut walk.offsets owner 0 (main_slot object ∷ []) (with_offset owner object 0 walk.offsets)
  put = put_all walk.offsets owner 0 (main_slot object ∷ []) is.kept.whole below

  either : (b : Bool) → (latest_of walk.offsets object == 0) ≡ b
      → IsZero entry
      (need_if b owner walk object).offsets
  either true none = record {
    current = λ other at other_below there found.
        let lower : other.0 < walk.offsets.workers = omega (arith, put.workers, other_below) in
        let inside : at.0 < walk.offsets.objects = omega (arith, put.objects, there) in
        zero_or (is_among (main_slot object ∷ []) (main_slot at)) (owner.0 == other.0) (held_at walk.offsets other (main_slot at))
        (held_at after other (main_slot at)) (put.held other (main_slot at) (kept_for walk.offsets other (main_slot at) lower inside))
        (is_current entry at other ≡ true)
        (λ among same.
        subst (λ (w : ℕ). is_current entry at (record { 0 = w }) ≡ true) (eqb-true owner.0 other.0 same)
        (subst (λ (o : ℕ). is_current entry (record { 0 = o }) owner ≡ true) (only_object object at among)
        (needed (eqb-true (latest_of walk.offsets object) 0 none))))
        (zero.current other at lower inside) found;
  }
  either false more = zero

max_zero : (b : Bool) (was now : ℕ) → now ≡ (if b then max was 0 else was) → now ≡ was
max_zero true was now is = omega (arith, is)
max_zero false was now is = is

-- a need leaves the latest offsets
pub need_latest : (most : ℕ) (owner : Worker) (walk : Walk) (object : Object) → IsWalked most walk → owner.0 < walk.offsets.workers
    → (other : Object) → other.0 < walk.offsets.objects → latest_of (with_need owner walk object).offsets other ≡ latest_of walk.offsets other
need_latest most owner walk object is below other inside = either (latest_of walk.offsets object == 0) where
  put : IsPut walk.offsets owner 0 (main_slot object ∷ []) (with_offset owner object 0 walk.offsets)
  put = put_all walk.offsets owner 0 (main_slot object ∷ []) is.kept.whole below

  either : (b : Bool)
      → latest_of
      (need_if b owner walk object).offsets other ≡ latest_of walk.offsets other
  either true =
      max_zero (is_among (main_slot object ∷ []) (main_slot other)) (latest_of walk.offsets other) (latest_of (with_offset owner object 0 walk.offsets) other)
      (put.latest other inside)
  either false = refl

-- needs of a task
pub zero_needs : (most : ℕ) (entry : Versions) (owner : Worker) (reads : List Object) (walk : Walk) → IsZero entry walk.offsets → IsWalked most walk
    → owner.0 < walk.offsets.workers → ((object : Object) → is_one_of reads object ≡ true → object.0 < walk.offsets.objects)
    → ((object : Object) → is_one_of reads object ≡ true → latest_of walk.offsets object ≡ 0 → is_current entry object owner ≡ true)
    → IsZero entry (fold (with_need owner) walk reads).offsets
zero_needs most entry owner [] walk zero is below within current = zero
zero_needs most entry owner (object ∷ reads) walk zero is below within current =
    let like = like_need owner walk object in
    let mine : is_one_of (object ∷ reads) object ≡ true = or_left (object.0 == object.0) (is_one_of reads object) (eq-eqb object.0 object.0 refl) in
    zero_needs most entry owner reads (with_need owner walk object)
    (zero_need most entry owner walk object zero is below (current object mine))
    (need_walked most owner walk object is below) (omega (arith, like.workers, below))
    (λ other one. (let inside = within other (or_right (object.0 == other.0) (is_one_of reads other) one) in omega (arith, like.objects, inside)))
    (λ other one none.
    let also : is_one_of (object ∷ reads) other ≡ true = or_right (object.0 == other.0) (is_one_of reads other) one in
    current other also (sym (need_latest most owner walk object is below other (within other also)) ∙ none))
