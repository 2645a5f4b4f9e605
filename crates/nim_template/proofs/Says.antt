-- What an effect says of main slots is what they hold in the end, and all others hold what they held.
use Rattle.std.proofs.Common.{◌≡◌, ℕ, ◌<◌, ◌≤◌, Bool, true, false, List, [], ◌∷◌, refl, ap, ap₂, sym, ◌∙◌, arith}
use Rattle.std.proofs.Common.{Option, None, Some}
use Rattle.std.specs.Prelude.{◌==◌, ◌&&◌, ◌||◌, if◌then◌else◌}
use Rattle.std.specs.List.{AllByRecursion, flat_map, list_any}
use Rattle.std.proofs.lemmas.Bool.{eq-eqb, eqb-true, false≢true, or_left, or_right}
use Rattle.std.proofs.lemmas.List.Folds.{list_any-append}
use Rattle.nim_base.specs.declared.number.Object.{Object}
use Rattle.nim_base.specs.declared.number.Slot.{Slot}
use Rattle.nim_base.specs.declared.number.Worker.{Worker}
use Rattle.nim_command.specs.Expansion.{version_at}
use Rattle.nim_command.specs.Holds.{Content, content_at}
use Rattle.nim_command.specs.Numbers.{main_slot}
use Rattle.nim_command.specs.Slots.{object_of}
use Rattle.nim_place.specs.Sound.{Plane, is_affected}
use Rattle.nim_place.specs.Versions.{Versions, held_at, is_kept, latest_of}
use Rattle.nim_place.proofs.Finds.{current_held}
use Rattle.nim_place.proofs.Legal.{main_of}
use Rattle.nim_place.proofs.Places.{both_true}
use Rattle.nim_place.proofs.Puts.{kept_bounds}
use Rattle.nim_template.specs.Built.{all_slots, effect_at, effect_here, effect_of}
use Rattle.nim_template.specs.Walk.{offset_for}
use Rattle.nim_base.proofs.Lists.{each_append}
use Rattle.nim_template.proofs.AtEntry.{IsAtEntry}
use Rattle.nim_template.proofs.EffectLeft.{counted_is}
use Rattle.nim_template.proofs.Effects.{counted, is_slot, slot_there, some_kept, still_more}
use Rattle.nim_template.proofs.Ends.{AreEnds}
use Rattle.nim_template.proofs.Offsets.{IsKept}
use Rattle.nim_template.proofs.Planes.{IsLike}

-- what an effect says of a slot that it names
abbrev pub SaysOf : (Worker → Slot → Content) → (Object → ℕ) → ℕ → Worker × Slot × ℕ → Type 0
SaysOf slots version base item = slots item.0 item.1 ≡ content_at item.1 (version_at base (version (object_of item.1)) item.2)

-- a map that is like offsets, and slots that are like it
pub record IsEnd (most base : ℕ) (start : Worker → Slot → Content) (entry offsets versions : Versions) (plane : Plane) : Type 0 where
  pub kept : IsKept most offsets
  pub few : most ≤ 1024
  pub small : offsets.objects ≤ 512
  pub ends : AreEnds base entry offsets versions
  pub like : IsLike start versions plane

pub item_says : (most base : ℕ) (start : Worker → Slot → Content) (entry offsets versions : Versions) (plane : Plane) (version : Object → ℕ)
    (slot : Worker × Object) → IsEnd most base start entry offsets versions plane → (o : Option ℕ) → held_at offsets slot.0 (main_slot slot.1) ≡ o
    → AllByRecursion (SaysOf plane.slots version base) (effect_at slot o)
item_says most base start entry offsets versions plane version slot is None held = tt
item_says most base start entry offsets versions plane version slot is (Some offset) held = either (offset == 0) refl where
  either : (b : Bool) → (offset == 0) ≡ b
      → AllByRecursion (SaysOf plane.slots version base) (if b then [] else (slot.0, main_slot slot.1, offset_for offset) ∷ [])
  either true none = tt
  either false more =
      let bounds = kept_bounds offsets slot.0 (main_slot slot.1) (some_kept offsets slot.0 (main_slot slot.1) offset held) in
      let row = bounds.0 in
      let column = bounds.1 in
      let small = is.small in
      let few = is.few in
      let low = is.kept.held slot.0 slot.1 offset row column held in
      let high = is.kept.latest slot.1 column in
      let found : ℕ = version_at base (latest_of entry slot.1) offset in
      let there : held_at versions slot.0 (main_slot slot.1) ≡ Some found = is.ends.alike.held slot.0 slot.1 offset row column held in
      let said : counted base offset ≡ version_at base (version (object_of (main_slot slot.1))) (offset_for offset) =
      sym (ap (λ (b : Bool). if b then version (object_of (main_slot slot.1)) else counted base offset) (still_more offset more)) in (
        is.like.held slot.0 slot.1 found (omega (arith, is.ends.alike.workers, row)) (omega (arith, is.ends.alike.objects, column)) there
            ∙ ap₂ (λ (object : Object) (v : ℕ). Some (object, v)) (sym (main_of slot.1 (omega (arith, column, small))))
            (sym (counted_is base (latest_of entry slot.1) offset more (omega (arith, low, high, few))) ∙ said),
        tt,
      )

pub each_flat_all : {X Y : Type 0} (P : X → Type 0) (f : Y → List X) (ys : List Y) → ((y : Y) → AllByRecursion P (f y)) → AllByRecursion P (flat_map f ys)
each_flat_all P f [] each = tt
each_flat_all P f (y ∷ ys) each = each_append P (f y) (flat_map f ys) (each y) (each_flat_all P f ys each)

-- a slot that a task of the block wrote is named
named_here : (offsets : Versions) (slot : Worker × Object) (offset : ℕ) → held_at offsets slot.0 (main_slot slot.1) ≡ Some offset → (offset == 0) ≡ false
    → is_affected (effect_here offsets slot) slot.0 (main_slot slot.1) ≡ true
named_here offsets slot offset held more =
    ap (λ (o : Option ℕ). is_affected (effect_at slot o) slot.0 (main_slot slot.1)) held
    ∙ ap (λ (b : Bool). is_affected (if b then [] else (slot.0, main_slot slot.1, offset_for offset) ∷ []) slot.0 (main_slot slot.1)) more
    ∙ ap₂ (λ (a b : Bool). (a && b) || false) (eq-eqb slot.0.0 slot.0.0 refl) (eq-eqb slot.1.0 slot.1.0 refl)

named_all : (offsets : Versions) (need : Worker × Object) (offset : ℕ) → held_at offsets need.0 (main_slot need.1) ≡ Some offset → (offset == 0) ≡ false
    → (slots : List (Worker × Object)) → list_any (is_slot need) slots ≡ true → is_affected (effect_of offsets slots) need.0 (main_slot need.1) ≡ true
named_all offsets need offset held more [] some = absurd (false≢true some)
named_all offsets need offset held more (slot ∷ slots) some =
    list_any-append test (effect_here offsets slot) (effect_of offsets slots)
    ∙ either (is_slot need slot) refl some (named_all offsets need offset held more slots) where
      test : Worker × Slot × ℕ → Bool
      test item = (item.0.0 == need.0.0) && (item.1.0 == need.1.0)

      either : (b : Bool) → is_slot need slot ≡ b → (b || list_any (is_slot need) slots) ≡ true
          → (list_any (is_slot need) slots ≡ true → is_affected (effect_of offsets slots) need.0 (main_slot need.1) ≡ true)
          → (is_affected (effect_here offsets slot) need.0 (main_slot need.1) || is_affected (effect_of offsets slots) need.0 (main_slot need.1)) ≡ true
      either true same one rest =
          let each = both_true (slot.0.0 == need.0.0) (slot.1.0 == need.1.0) same in
          let pair : ℕ → ℕ → Worker × Object = λ w o. (record { 0 = w }, record { 0 = o }) in
          let equal : slot ≡ need = ap₂ pair (eqb-true slot.0.0 need.0.0 each.0) (eqb-true slot.1.0 need.1.0 each.1) in
          or_left (is_affected (effect_here offsets slot) need.0 (main_slot need.1)) (is_affected (effect_of offsets slots) need.0 (main_slot need.1))
          (ap (λ (s : Worker × Object). is_affected (effect_here offsets s) need.0 (main_slot need.1)) equal
          ∙ named_here offsets need offset held more)
      either false apart one rest =
          or_right (is_affected (effect_here offsets slot) need.0 (main_slot need.1)) (is_affected (effect_of offsets slots) need.0
          (main_slot need.1)) (rest one)

-- a slot that isn't named holds what it held
pub unnamed : (most base workers objects : ℕ) (start : Worker → Slot → Content) (entry offsets versions : Versions) (plane : Plane) (version : Object → ℕ)
    (needs : List (Worker × Object)) → IsEnd most base start entry offsets versions plane → IsAtEntry version start workers objects base needs entry
    → offsets.workers ≡ workers → offsets.objects ≡ objects → (worker : Worker) (slot : Slot)
    → is_affected (effect_of offsets (all_slots workers objects)) worker slot ≡ false → (o : Option ℕ) → held_at versions worker slot ≡ o
    → plane.slots worker slot ≡ start worker slot
unnamed most base workers objects start entry offsets versions plane version needs is at rows columns worker slot unaffected None none =
    is.like.rest worker slot none
unnamed most base workers objects start entry offsets versions plane version needs is at rows columns worker slot unaffected (Some found) held =
    is.like.held worker object found (kept_bounds versions worker slot kept).0 (kept_bounds versions worker slot kept).1 held
    ∙ ap (λ (v : ℕ). Some (object, v)) (at.pre.held worker object found before).0 ∙ sym (at.pre.held worker object found before).1 where
      object : Object
      object = record { 0 = slot.0 }

      kept : is_kept versions worker slot ≡ true
      kept = some_kept versions worker slot found held

      below : worker.0 < offsets.workers
      below = (let row = (kept_bounds versions worker slot kept).0 in omega (arith, is.ends.alike.workers, row))

      there : slot.0 < offsets.objects
      there = (let column = (kept_bounds versions worker slot kept).1 in omega (arith, is.ends.alike.objects, column))

      by : (o : Option ℕ) → held_at offsets worker slot ≡ o → held_at entry worker slot ≡ Some found
      by None none = sym (is.ends.alike.old worker object below there none) ∙ held
      by (Some offset) some = chosen (offset == 0) refl where
        chosen : (b : Bool) → (offset == 0) ≡ b → held_at entry worker slot ≡ Some found
        chosen true zero_is =
            let none : offset ≡ 0 = eqb-true offset 0 zero_is in
            current_held (latest_of entry object) (held_at entry worker slot)
            (is.ends.zero.current worker object below there (some ∙ ap Some none))
            ∙ sym (ap (λ (n : ℕ). Some (version_at base (latest_of entry object) n)) none)
            ∙ sym (is.ends.alike.held worker object offset below there some) ∙ held
        chosen false more =
            absurd (false≢true (sym unaffected ∙ named_all offsets (worker, object) offset some more (all_slots workers objects)
            (slot_there workers objects (worker, object) (omega (arith, rows, below)) (omega (arith, columns, there)))))

      before : held_at entry worker slot ≡ Some found
      before = by (held_at offsets worker slot) refl
