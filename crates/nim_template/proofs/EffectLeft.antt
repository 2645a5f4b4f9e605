-- An effect leaves the very map that is like the offsets in the end.
use Rattle.std.proofs.Common.{◌≡◌, ℕ, ◌+◌, ◌<◌, ◌≤◌, Bool, true, false, List, [], ◌∷◌, refl, ap, ap₂, sym, subst, ◌∙◌, arith, Option, None}
use Rattle.std.proofs.Common.{Some, inl, inr}
use Rattle.std.specs.Prelude.{◌^◌, ◌==◌, ◌&&◌, ◌||◌, ◌⊎◌, if◌then◌else◌, max}
use Rattle.std.specs.List.{fold, list_any}
use Rattle.std.specs.Option.{is_some}
use Rattle.std.proofs.lemmas.Bool.{eqb-false, eqb-true, false≢true}
use Rattle.std.proofs.lemmas.List.Sums.{fold-append}
use Rattle.nim_base.specs.declared.number.Object.{Object}
use Rattle.nim_base.specs.declared.number.Worker.{Worker}
use Rattle.nim_command.specs.Expansion.{version_at}
use Rattle.nim_command.specs.Numbers.{counted_from, main_slot}
use Rattle.nim_command.specs.Slots.{is_among}
use Rattle.nim_place.specs.Versions.{Versions, after_effect, held_at, latest_of, with_version, with_written}
use Rattle.nim_place.proofs.Finds.{current_held}
use Rattle.nim_place.proofs.Places.{both_true}
use Rattle.nim_place.proofs.Puts.{kept_bounds, kept_for}
use Rattle.nim_template.specs.Again.{IsBefore}
use Rattle.nim_template.specs.Built.{all_slots, effect_here, effect_of}
use Rattle.nim_template.specs.Walk.{offset_for}
use Rattle.nim_template.proofs.Again.{counted_more, some_same}
use Rattle.nim_template.proofs.Effects.{IsOf, IsWritten, counted, done_comes, is_slot, kept_none, object_slot, put_at, same_slot, slot_there}
use Rattle.nim_template.proofs.Effects.{some_kept, written, written_at}
use Rattle.nim_template.proofs.Ends.{AreEnds}
use Rattle.nim_template.proofs.Offsets.{IsKept, IsThere}
use Rattle.nim_template.proofs.Sames.{maps_equal}
use Rattle.nim_template.proofs.Walks.{only_object}

-- ---- the effect, slot by slot

-- what a slot gets once it has been put stays
held_stays : (offsets : Versions) (base : ℕ) (need : Worker × Object) (offset : ℕ) → need.0.0 < offsets.workers → need.1.0 < offsets.objects
    → held_at offsets need.0 (main_slot need.1) ≡ Some offset → (slots : List (Worker × Object)) (versions : Versions) → IsOf offsets versions
    → held_at versions need.0 (main_slot need.1) ≡ Some (counted base offset)
    → held_at (fold (with_written base) versions (effect_of offsets slots)) need.0 (main_slot need.1) ≡ Some (counted base offset)
held_stays offsets base need offset below there is [] versions are held = held
held_stays offsets base need offset below there is (slot ∷ slots) versions are held =
    ap (λ (v : Versions). held_at v need.0 (main_slot need.1)) (fold-append (with_written base) versions (effect_here offsets slot) (effect_of offsets slots))
    ∙ written_at (λ (v : Versions). held_at (fold (with_written base) v (effect_of offsets slots)) need.0 (main_slot need.1) ≡ Some (counted base offset)) base
    versions slot (held_at offsets slot.0 (main_slot slot.1))
    (held_stays offsets base need offset below there is slots versions are held)
    (λ other found more.
    let after : Versions = with_version slot.0 (counted base other) versions (main_slot slot.1) in
    let wrote : IsWritten offsets base slot other versions after = written offsets base slot other versions are found in
    held_stays offsets base need offset below there is slots after wrote.of
    (wrote.put.held need.0 (main_slot need.1)
    (kept_for versions need.0 (main_slot need.1) (omega (arith, are.workers, below)) (omega (arith, are.objects, there)))
    ∙ chosen (is_among (main_slot slot.1 ∷ []) (main_slot need.1)) (slot.0.0 == need.0.0) other (held_at versions need.0 (main_slot need.1))
    (λ among same.
    ap (counted base) (some_same other offset (sym (same_slot offsets slot need other (eqb-true slot.0.0 need.0.0 same)
    (only_object slot.1 need.1 among) found) ∙ is))) held)) where
      chosen : (b c : Bool) (other : ℕ) (old : Option ℕ) → (b ≡ true → c ≡ true → counted base other ≡ counted base offset)
          → old ≡ Some (counted base offset) → (if b && c then Some (counted base other) else old) ≡ Some (counted base offset)
      chosen true true other old own before = ap Some (own refl refl)
      chosen true false other old own before = before
      chosen false c other old own before = before

-- it is put where the slot is there
held_comes : (offsets : Versions) (base : ℕ) (need : Worker × Object) (offset : ℕ) → need.0.0 < offsets.workers → need.1.0 < offsets.objects
    → held_at offsets need.0 (main_slot need.1) ≡ Some offset → (offset == 0) ≡ false → (slots : List (Worker × Object)) (versions : Versions)
    → IsOf offsets versions → list_any (is_slot need) slots ≡ true
    → held_at (fold (with_written base) versions (effect_of offsets slots)) need.0 (main_slot need.1) ≡ Some (counted base offset)
held_comes offsets base need offset below there is more [] versions are some = absurd (false≢true some)
held_comes offsets base need offset below there is more (slot ∷ slots) versions are some =
    ap (λ (v : Versions). held_at v need.0 (main_slot need.1)) (fold-append (with_written base) versions (effect_here offsets slot) (effect_of offsets slots))
    ∙ either (is_slot need slot) refl some (λ v of later. held_comes offsets base need offset below there is more slots v of later) where
      P : Versions → Type 0
      P v = held_at (fold (with_written base) v (effect_of offsets slots)) need.0 (main_slot need.1) ≡ Some (counted base offset)

      either : (b : Bool) → is_slot need slot ≡ b → (b || list_any (is_slot need) slots) ≡ true
          → ((v : Versions) → IsOf offsets v → list_any (is_slot need) slots ≡ true
          → held_at (fold (with_written base) v (effect_of offsets slots)) need.0 (main_slot need.1) ≡ Some (counted base offset))
          → held_at (fold (with_written base) (fold (with_written base) versions (effect_here offsets slot)) (effect_of offsets slots)) need.0
          (main_slot need.1) ≡ Some (counted base offset)
      either true same one rest =
          let each = both_true (slot.0.0 == need.0.0) (slot.1.0 == need.1.0) same in
          let found : held_at offsets slot.0 (main_slot slot.1) ≡ Some offset =
          same_slot offsets need slot offset (sym (eqb-true slot.0.0 need.0.0 each.0)) (sym (eqb-true slot.1.0 need.1.0 each.1)) is in
          let after : Versions = with_version slot.0 (counted base offset) versions (main_slot slot.1) in
          let wrote : IsWritten offsets base slot offset versions after = written offsets base slot offset versions are found in
          put_at P base versions slot (held_at offsets slot.0 (main_slot slot.1)) offset found more
          (held_stays offsets base need offset below there is slots after wrote.of
          (wrote.put.held need.0 (main_slot need.1)
          (kept_for versions need.0 (main_slot need.1) (omega (arith, are.workers, below)) (omega (arith, are.objects, there)))
          ∙ ap₂ (λ (b c : Bool). if (b || false) && c then Some (counted base offset) else held_at versions need.0 (main_slot need.1)) each.1 each.0))
      either false same later rest =
          written_at P base versions slot (held_at offsets slot.0 (main_slot slot.1)) (rest versions are later)
          (λ other found not_zero. rest (with_version slot.0 (counted base other) versions (main_slot slot.1))
          (written offsets base slot other versions are found).of later)

-- a slot that no task wrote stays
held_kept : (offsets : Versions) (base : ℕ) (need : Worker × Object) → need.0.0 < offsets.workers → need.1.0 < offsets.objects
    → ((offset : ℕ) → held_at offsets need.0 (main_slot need.1) ≡ Some offset → (offset == 0) ≡ false → ⊥) → (slots : List (Worker × Object))
    (versions : Versions) → IsOf offsets versions
    → held_at (fold (with_written base) versions (effect_of offsets slots)) need.0 (main_slot need.1) ≡ held_at versions need.0 (main_slot need.1)
held_kept offsets base need below there none [] versions are = refl
held_kept offsets base need below there none (slot ∷ slots) versions are =
    ap (λ (v : Versions). held_at v need.0 (main_slot need.1)) (fold-append (with_written base) versions (effect_here offsets slot) (effect_of offsets slots))
    ∙ written_at (λ (v : Versions). held_at (fold (with_written base) v (effect_of offsets slots)) need.0 (main_slot need.1)
    ≡ held_at versions need.0 (main_slot need.1)) base
    versions slot (held_at offsets slot.0 (main_slot slot.1))
    (held_kept offsets base need below there none slots versions are)
    (λ other found more.
    let after : Versions = with_version slot.0 (counted base other) versions (main_slot slot.1) in
    let wrote : IsWritten offsets base slot other versions after = written offsets base slot other versions are found in
    held_kept offsets base need below there none slots after wrote.of
    ∙ wrote.put.held need.0 (main_slot need.1)
    (kept_for versions need.0 (main_slot need.1) (omega (arith, are.workers, below)) (omega (arith, are.objects, there)))
    ∙ unchosen (is_among (main_slot slot.1 ∷ []) (main_slot need.1)) (slot.0.0 == need.0.0) (Some (counted base other))
    (held_at versions need.0 (main_slot need.1))
    (λ among same. none other (same_slot offsets slot need other (eqb-true slot.0.0 need.0.0 same) (only_object slot.1 need.1 among) found) more)) where
      unchosen : (b c : Bool) (x y : Option ℕ) → (b ≡ true → c ≡ true → ⊥) → (if b && c then x else y) ≡ y
      unchosen true true x y apart = absurd (apart refl refl)
      unchosen true false x y apart = refl
      unchosen false c x y apart = refl

-- the latest version of an object that no task wrote stays
latest_kept : (offsets : Versions) (base : ℕ) (object : Object) → object.0 < offsets.objects
    → ((worker : Worker) (offset : ℕ) → held_at offsets worker (main_slot object) ≡ Some offset → (offset == 0) ≡ false → ⊥)
    → (slots : List (Worker × Object)) (versions : Versions) → IsOf offsets versions
    → latest_of (fold (with_written base) versions (effect_of offsets slots)) object ≡ latest_of versions object
latest_kept offsets base object there none [] versions are = refl
latest_kept offsets base object there none (slot ∷ slots) versions are =
    ap (λ (v : Versions). latest_of v object) (fold-append (with_written base) versions (effect_here offsets slot) (effect_of offsets slots))
    ∙ written_at (λ (v : Versions). latest_of (fold (with_written base) v (effect_of offsets slots)) object ≡ latest_of versions object) base versions slot
    (held_at offsets slot.0 (main_slot slot.1))
    (latest_kept offsets base object there none slots versions are)
    (λ other found more.
    let after : Versions = with_version slot.0 (counted base other) versions (main_slot slot.1) in
    let wrote : IsWritten offsets base slot other versions after = written offsets base slot other versions are found in
    latest_kept offsets base object there none slots after wrote.of
    ∙ wrote.put.latest object (omega (arith, are.objects, there))
    ∙ unchosen (is_among (main_slot slot.1 ∷ []) (main_slot object)) (max (latest_of versions object) (counted base other)) (latest_of versions object)
    (λ among. none slot.0 other (object_slot offsets slot.0 slot.1 object other (only_object slot.1 object among) found) more)) where
      unchosen : (b : Bool) (x y : ℕ) → (b ≡ true → ⊥) → (if b then x else y) ≡ y
      unchosen true x y apart = absurd (apart refl)
      unchosen false x y apart = refl

effect_is_of : (offsets : Versions) (base : ℕ) (slots : List (Worker × Object)) (versions : Versions) → IsOf offsets versions
    → IsOf offsets (fold (with_written base) versions (effect_of offsets slots))
effect_is_of offsets base [] versions are = are
effect_is_of offsets base (slot ∷ slots) versions are =
    subst (IsOf offsets) (sym (fold-append (with_written base) versions (effect_here offsets slot) (effect_of offsets slots)))
    (written_at (λ (v : Versions). IsOf offsets (fold (with_written base) v (effect_of offsets slots))) base versions slot
    (held_at offsets slot.0 (main_slot slot.1)) (effect_is_of offsets base slots versions are)
    (λ other found more. effect_is_of offsets base slots (with_version slot.0 (counted base other) versions (main_slot slot.1))
    (written offsets base slot other versions are found).of))

-- ---- the effect and the commands

pub counted_is : (base old offset : ℕ) → (offset == 0) ≡ false → offset ≤ 1024 → counted base offset ≡ version_at base old offset
counted_is base old offset more few =
    let small : offset_for offset ≡ offset = omega (arith, few) in
    ap (counted_from base) small ∙ sym (ap (λ (b : Bool). if b then old else counted_from base offset) more)

-- what a map is that an effect leaves, and what commands leave
pub record IsEffect (most workers objects base : ℕ) (entry offsets : Versions) : Type 0 where
  pub kept : IsKept most offsets
  pub few : most ≤ 1024
  pub rows : offsets.workers ≡ workers
  pub columns : offsets.objects ≡ objects
  pub before : IsBefore workers objects base entry
  pub room : base + 1024 < 2 ^ 64

effect_held : (most workers objects base : ℕ) (entry offsets after : Versions) → IsEffect most workers objects base entry offsets
    → AreEnds base entry offsets after → IsOf offsets entry → (worker : Worker) (object : Object) → worker.0 < offsets.workers
    → object.0 < offsets.objects → (o : Option ℕ) → held_at offsets worker (main_slot object) ≡ o
    → held_at (fold (with_written base) entry (effect_of offsets (all_slots workers objects))) worker (main_slot object)
    ≡ held_at after worker (main_slot object)
effect_held most workers objects base entry offsets after is ends are worker object below there None held =
    held_kept offsets base (worker, object) below there
    (λ offset found more. false≢true (ap (λ (o : Option ℕ). is_some o) (sym held ∙ found))) (all_slots workers objects) entry are
    ∙ sym (ends.alike.old worker object below there held)
effect_held most workers objects base entry offsets after is ends are worker object below there (Some offset) held = either (offset == 0) refl where
  slots : List (Worker × Object)
  slots = all_slots workers objects

  either : (b : Bool) → (offset == 0) ≡ b
      → held_at (fold (with_written base) entry (effect_of offsets (all_slots workers objects))) worker (main_slot object)
      ≡ held_at after worker (main_slot object)
  either true none =
      let zero_is : offset ≡ 0 = eqb-true offset 0 none in
      held_kept offsets base (worker, object) below there
      (λ other found more. eqb-false other 0 more (some_same other offset (sym found ∙ held) ∙ zero_is)) slots entry are
      ∙ current_held (latest_of entry object) (held_at entry worker (main_slot object))
      (ends.zero.current worker object below there (held ∙ ap Some zero_is))
      ∙ sym (ends.alike.held worker object offset below there held ∙ ap (λ (n : ℕ). Some (version_at base (latest_of entry object) n)) zero_is)
  either false more =
      let low = is.kept.held worker object offset below there held in
      let high = is.kept.latest object there in
      let most_few = is.few in
      held_comes offsets base (worker, object) offset below there held more slots entry are
      (slot_there workers objects (worker, object) (omega (arith, is.rows, below)) (omega (arith, is.columns, there)))
      ∙ ap Some (counted_is base (latest_of entry object) offset more (omega (arith, low, high, most_few)))
      ∙ sym (ends.alike.held worker object offset below there held)

effect_latest : (most workers objects base : ℕ) (entry offsets after : Versions) → IsEffect most workers objects base entry offsets
    → AreEnds base entry offsets after → IsOf offsets entry → (object : Object) → object.0 < offsets.objects
    → latest_of (fold (with_written base) entry (effect_of offsets (all_slots workers objects))) object ≡ latest_of after object
effect_latest most workers objects base entry offsets after is ends are object there = either (latest_of offsets object == 0) refl where
  slots : List (Worker × Object)
  slots = all_slots workers objects

  latest : ℕ
  latest = latest_of offsets object

  under : (worker : Worker) (offset : ℕ) → held_at offsets worker (main_slot object) ≡ Some offset → offset ≤ latest_of offsets object
  under worker offset found =
      let bounds = kept_bounds offsets worker (main_slot object) (some_kept offsets worker (main_slot object) offset found) in
      is.kept.held worker object offset bounds.0 bounds.1 found

  comes : (latest_of offsets object == 0) ≡ false → IsThere offsets object
      → latest_of (fold (with_written base) entry (effect_of offsets (all_slots workers objects))) object ≡ counted base (latest_of offsets object)
  comes more holder =
      let low = is.before.latest object (omega (arith, is.columns, there)) in
      let room = is.room in
      let high = is.kept.latest object there in
      let few = is.few in
      (done_comes offsets base (holder.worker, object) (counted base latest) latest
      (record {
        below = holder.below;
        there = there;
        most = λ worker offset found other. counted_more base offset latest (under worker offset found);
        own = λ offset found other. ap (counted base) (some_same offset latest (sym found ∙ holder.holds));
      })
      holder.holds more slots entry are (omega (arith, low, room, high, few))
      (slot_there workers objects (holder.worker, object) (let row = holder.below in omega (arith, is.rows, row)) (omega
      (arith, is.columns, there)))).latest

  found : (latest_of offsets object == 0) ≡ false → (latest_of offsets object ≡ 0) ⊎ IsThere offsets object
      → latest_of (fold (with_written base) entry (effect_of offsets (all_slots workers objects))) object ≡ counted base (latest_of offsets object)
  found more (inl none) = absurd (eqb-false latest 0 more none)
  found more (inr holder) = comes more holder

  either : (b : Bool) → (latest_of offsets object == 0) ≡ b
      → latest_of (fold (with_written base) entry (effect_of offsets (all_slots workers objects))) object ≡ latest_of after object
  either true none =
      let zero_is : latest ≡ 0 = eqb-true latest 0 none in
      latest_kept offsets base object there
      (λ worker offset found more. (let low = under worker offset found in eqb-false offset 0 more (omega (arith, low, zero_is)))) slots entry are
      ∙ sym (ends.alike.latest object there ∙ ap (version_at base (latest_of entry object)) zero_is)
  either false more =
      let high = is.kept.latest object there in
      let few = is.few in
      found more (is.kept.there object there)
      ∙ counted_is base (latest_of entry object) latest more (omega (arith, high, few)) ∙ sym (ends.alike.latest object there)

pub effect_same : (most workers objects base : ℕ) (entry offsets after : Versions) → IsEffect most workers objects base entry offsets
    → AreEnds base entry offsets after → after_effect base entry (effect_of offsets (all_slots workers objects)) ≡ after
effect_same most workers objects base entry offsets after is ends =
    let slots : List (Worker × Object) = all_slots workers objects in
    let are : IsOf offsets entry = record {
      whole = record { slots = is.before.slots; all = is.before.all };
      workers = is.before.rows ∙ sym is.rows;
      objects = is.before.columns ∙ sym is.columns;
    } in
    let of : IsOf offsets (fold (with_written base) entry (effect_of offsets slots)) = effect_is_of offsets base slots entry are in
    ap (λ (v : Versions). fold (with_written base) v (effect_of offsets slots)) (kept_none offsets entry slots)
    ∙ maps_equal (fold (with_written base) entry (effect_of offsets slots)) after (record {
      whole = of.whole;
      also = ends.alike.whole;
      workers = of.workers ∙ sym ends.alike.workers;
      objects = of.objects ∙ sym ends.alike.objects;
      held = λ worker object below there.
          effect_held most workers objects base entry offsets after is ends are worker object (omega (arith, ends.alike.workers, below))
          (omega (arith, ends.alike.objects, there)) (held_at offsets worker (main_slot object)) refl;
      latest = λ object there.
          effect_latest most workers objects base entry offsets after is ends are object (omega (arith, ends.alike.objects, there));
    })
