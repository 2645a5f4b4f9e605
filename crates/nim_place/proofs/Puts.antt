-- What a map holds after a version was put into slots of a worker.
use Rattle.std.proofs.Common.{◌≡◌, ℕ, ◌+◌, ◌*◌, ◌<◌, Bool, true, false, List, [], ◌∷◌}
use Rattle.std.proofs.Common.{length, get_or, set, length-set, get_or-set_same, get_or-set_other, refl, ap, ap₂, sym, ◌∙◌, arith}
use Rattle.std.specs.Prelude.{◌==◌, ◌&&◌, ◌||◌, nat_lt, max, if◌then◌else◌, Option, None, Some}
use Rattle.std.specs.List.{fold}
use Rattle.std.proofs.lemmas.Bool.{eq-eqb, eqb-false, eqb-true, false≢true, lt-ltb, ltb-true}
use Rattle.std.proofs.lemmas.Nat.{mul-add-lt, same_from_place}
use Rattle.nim_base.specs.declared.number.Object.{Object}
use Rattle.nim_base.specs.declared.number.Slot.{Slot}
use Rattle.nim_base.specs.declared.number.Worker.{Worker}
use Rattle.nim_command.specs.Numbers.{main_slot}
use Rattle.nim_command.specs.Slots.{is_among}
use Rattle.nim_place.specs.Versions.{Versions, held_at, is_kept, latest_of, place_of, with_version}
use Rattle.nim_place.proofs.Places.{both_true}

-- a map after a version was put into slots of a worker, and the map before
pub record IsPut (before : Versions) (worker : Worker) (version : ℕ) (slots : List Slot) (after : Versions) : Type 0 where
  pub workers : after.workers ≡ before.workers
  pub objects : after.objects ≡ before.objects
  pub places : length after.held ≡ length before.held
  pub count : length after.latest ≡ length before.latest
  pub held : (other : Worker) (slot : Slot) → is_kept before other slot ≡ true
      → held_at after other slot ≡ (if is_among slots slot && (worker.0 == other.0) then Some version else held_at before other slot)
  pub latest : (object : Object) → object.0 < before.objects
      → latest_of after object ≡ (if is_among slots (main_slot object) then max (latest_of before object) version else latest_of before object)

-- the sizes of a map are those of its numbers of workers and objects
pub record IsWhole (versions : Versions) : Type 0 where
  pub slots : length versions.held ≡ versions.objects * versions.workers
  pub all : length versions.latest ≡ versions.objects

-- a slot that the map has, for a worker and an object that it has
pub kept_for : (versions : Versions) (worker : Worker) (slot : Slot) → worker.0 < versions.workers → slot.0 < versions.objects
    → is_kept versions worker slot ≡ true
kept_for versions worker slot first second =
    ap₂ (λ (a b : Bool). a && b) (lt-ltb worker.0 versions.workers first) (lt-ltb slot.0 versions.objects second)

-- the worker and the object of a slot that the map has
pub kept_bounds : (versions : Versions) (worker : Worker) (slot : Slot) → is_kept versions worker slot ≡ true
    → (worker.0 < versions.workers) × (slot.0 < versions.objects)
kept_bounds versions worker slot kept =
    let each = both_true (nat_lt worker.0 versions.workers) (nat_lt slot.0 versions.objects) kept in
    (ltb-true worker.0 versions.workers each.0, ltb-true slot.0 versions.objects each.1)

-- a read of a list that was written at one place
read_set : {X : Type 0} (xs : List X) (at other : ℕ) (x d : X) (same : Bool) → at < length xs → (same ≡ true → at ≡ other) → (same ≡ false → at ≡ other → ⊥)
    → get_or (set xs at x) other d ≡ (if same then x else get_or xs other d)
read_set xs at other x d true within equal apart = ap (λ (n : ℕ). get_or (set xs at x) n d) (sym (equal refl)) ∙ get_or-set_same xs at x d within
read_set xs at other x d false within equal apart = get_or-set_other xs at other x d (λ is. apart refl (sym is))

-- what is chosen where two places are one
pick_same : (same : Bool) (x y z : ℕ) → (same ≡ true → x ≡ y) → (if same then x else z) ≡ (if same || false then y else z)
pick_same true x y z equal = equal refl
pick_same false x y z equal = refl

-- what is not among one slot is as it was
untouched : {X : Type 0} (b c : Bool) (x y : X) → (b ≡ true → ⊥) → y ≡ (if (b || false) && c then x else y)
untouched true c x y not = absurd (not refl)
untouched false c x y not = refl

untouched_too : {X : Type 0} (b : Bool) (x y : X) → (b ≡ true → ⊥) → y ≡ (if b || false then x else y)
untouched_too true x y not = absurd (not refl)
untouched_too false x y not = refl

-- two puts, one after the other
merged : {X : Type 0} (b c d : Bool) (x y : X) → (if c && d then x else (if (b || false) && d then x else y)) ≡ (if (b || c) && d then x else y)
merged true true true x y = refl
merged true true false x y = refl
merged true false true x y = refl
merged true false false x y = refl
merged false true true x y = refl
merged false true false x y = refl
merged false false d x y = refl

greater_twice : (b c : Bool) (n m : ℕ)
    → (if c then max (if b || false then max n m else n) m else (if b || false then max n m else n)) ≡ (if b || c then max n m else n)
greater_twice true true n m = omega arith
greater_twice true false n m = refl
greater_twice false true n m = refl
greater_twice false false n m = refl

or_false : (b : Bool) → (b || false) ≡ b
or_false true = refl
or_false false = refl

and_false : (b c : Bool) → (b && c) ≡ false → b ≡ true → c ≡ false
and_false true c is one = is
and_false false c is one = absurd (false≢true one)

-- one slot of a worker that the map has
put_kept : (versions : Versions) (worker : Worker) (version : ℕ) (slot : Slot) → IsWhole versions → is_kept versions worker slot ≡ true
    → IsPut versions worker version (slot ∷ []) (record versions {
      held = set versions.held (place_of versions worker slot) (Some version);
      latest = set versions.latest slot.0 (max (get_or versions.latest slot.0 0) version);
    })
put_kept versions worker version slot whole kept = record {
  workers = refl;
  objects = refl;
  places = length-set versions.held (place_of versions worker slot) (Some version);
  count = length-set versions.latest slot.0 (max (get_or versions.latest slot.0 0) version);
  held = λ other at there. held_after other at there;
  latest = λ object there. latest_after object there;
} where
  bounds : (worker.0 < versions.workers) × (slot.0 < versions.objects)
  bounds = kept_bounds versions worker slot kept

  within : place_of versions worker slot < length versions.held
  within = let below = mul-add-lt worker.0 versions.objects slot.0 versions.workers bounds.0 bounds.1 in omega (arith, below, whole.slots)

  equal : (other : Worker) (at : Slot) → ((slot.0 == at.0) && (worker.0 == other.0)) ≡ true → place_of versions worker slot ≡ place_of versions other at
  equal other at is =
      let each = both_true (slot.0 == at.0) (worker.0 == other.0) is in
      ap₂ (λ (w s : ℕ). w * versions.objects + s) (eqb-true worker.0 other.0 each.1) (eqb-true slot.0 at.0 each.0)

  apart : (other : Worker) (at : Slot) → at.0 < versions.objects → ((slot.0 == at.0) && (worker.0 == other.0)) ≡ false
      → place_of versions worker slot ≡ place_of versions other at → ⊥
  apart other at below is same =
      let each = same_from_place worker.0 slot.0 other.0 at.0 versions.objects bounds.1 below same in
      eqb-false worker.0 other.0 (and_false (slot.0 == at.0) (worker.0 == other.0) is (eq-eqb slot.0 at.0 each.1)) each.0

  held_after : (other : Worker) (at : Slot) → is_kept versions other at ≡ true
      → (if is_kept versions other at then get_or (set versions.held (place_of versions worker slot) (Some version)) (place_of versions other at) None
      else None)
      ≡ (if ((slot.0 == at.0) || false) && (worker.0 == other.0) then Some version else held_at versions other at)
  held_after other at there =
      let chosen : Bool → Option ℕ → Option ℕ = λ b o. if b then o else None in
      let other_bounds = kept_bounds versions other at there in
      let seen : get_or versions.held (place_of versions other at) None
      ≡ held_at versions other at = sym (ap (λ (b : Bool). chosen b (get_or versions.held (place_of versions other at) None)) there) in
      ap (λ (b : Bool). chosen b (get_or (set versions.held (place_of versions worker slot) (Some version)) (place_of versions other at) None)) there
      ∙ read_set versions.held (place_of versions worker slot) (place_of versions other at) (Some version) None
      ((slot.0 == at.0) && (worker.0 == other.0)) within (equal other at) (apart other at other_bounds.1)
      ∙ ap₂ (λ (b : Bool) (o : Option ℕ). if b && (worker.0 == other.0) then Some version else o) (sym (or_false (slot.0 == at.0))) seen

  latest_after : (object : Object) → object.0 < versions.objects
      → get_or (set versions.latest slot.0 (max (get_or versions.latest slot.0 0) version)) object.0 0
      ≡ (if (slot.0 == object.0) || false then max (get_or versions.latest object.0 0) version else get_or versions.latest object.0 0)
  latest_after object there =
      let same : Bool = slot.0 == object.0 in
      read_set versions.latest slot.0 object.0 (max (get_or versions.latest slot.0 0) version) 0 same (omega (arith, bounds.1, whole.all))
      (eqb-true slot.0 object.0) (eqb-false slot.0 object.0)
      ∙ pick_same same (max (get_or versions.latest slot.0 0) version) (max (get_or versions.latest object.0 0) version) (get_or versions.latest object.0 0)
      (λ is. ap (λ (n : ℕ). max (get_or versions.latest n 0) version) (eqb-true slot.0 object.0 is))

-- one slot, whether the map has it or not
pub put_one : (versions : Versions) (worker : Worker) (version : ℕ) (slot : Slot) → IsWhole versions → worker.0 < versions.workers
    → IsPut versions worker version (slot ∷ []) (with_version worker version versions slot)
put_one versions worker version slot whole below = either (is_kept versions worker slot) refl where
  outside : (at : ℕ) → at < versions.objects → is_kept versions worker slot ≡ false → (slot.0 == at) ≡ true → ⊥
  outside at there kept same =
      let is = eqb-true slot.0 at same in
      false≢true (sym kept ∙ kept_for versions worker slot below (omega arith))

  either : (b : Bool) → is_kept versions worker slot ≡ b → IsPut versions worker version (slot ∷ []) (if b then record versions {
    held = set versions.held (place_of versions worker slot) (Some version);
    latest = set versions.latest slot.0 (max (get_or versions.latest slot.0 0) version);
  } else versions)
  either true kept = put_kept versions worker version slot whole kept
  either false kept = record {
    workers = refl;
    objects = refl;
    places = refl;
    count = refl;
    held = λ other at there.
        untouched (slot.0 == at.0) (worker.0 == other.0) (Some version) (held_at versions other at) (outside at.0 (kept_bounds versions other at there).1 kept);
    latest = λ object there.
        untouched_too (slot.0 == object.0) (max (latest_of versions object) version) (latest_of versions object) (outside object.0 there kept);
  }

-- one slot, and then others
put_then : (before : Versions) (worker : Worker) (version : ℕ) (slot : Slot) (slots : List Slot) (between after : Versions)
    → IsPut before worker version (slot ∷ []) between → IsPut between worker version slots after → IsPut before worker version (slot ∷ slots) after
put_then before worker version slot slots between after one rest = record {
  workers = rest.workers ∙ one.workers;
  objects = rest.objects ∙ one.objects;
  places = rest.places ∙ one.places;
  count = rest.count ∙ one.count;
  held = λ other at there.
      rest.held other at (ap₂ (λ (n m : ℕ). nat_lt other.0 n && nat_lt at.0 m) one.workers one.objects ∙ there)
      ∙ ap (λ (o : Option ℕ). if is_among slots at && (worker.0 == other.0) then Some version else o) (one.held other at there)
      ∙ merged (slot.0 == at.0) (is_among slots at) (worker.0 == other.0) (Some version) (held_at before other at);
  latest = λ object there.
      rest.latest object (omega (arith, one.objects, there))
      ∙ ap (λ (n : ℕ). if is_among slots (main_slot object) then max n version else n) (one.latest object there)
      ∙ greater_twice (slot.0 == object.0) (is_among slots (main_slot object)) (latest_of before object) version;
}

-- a map stays whole
pub whole_after : (before : Versions) (worker : Worker) (version : ℕ) (slots : List Slot) (after : Versions) → IsPut before worker version slots after
    → IsWhole before → IsWhole after
whole_after before worker version slots after put whole = record {
  slots = put.places ∙ whole.slots ∙ ap₂ (λ (n m : ℕ). n * m) (sym put.objects) (sym put.workers);
  all = put.count ∙ whole.all ∙ sym put.objects;
}

-- all slots
pub put_all : (versions : Versions) (worker : Worker) (version : ℕ) (slots : List Slot) → IsWhole versions → worker.0 < versions.workers
    → IsPut versions worker version slots (fold (with_version worker version) versions slots)
put_all versions worker version [] whole below =
    record { workers = refl; objects = refl; places = refl; count = refl; held = λ other at there. refl; latest = λ object there. refl }
put_all versions worker version (slot ∷ slots) whole below =
    let one = put_one versions worker version slot whole below in
    let between : Versions = with_version worker version versions slot in
    put_then versions worker version slot slots between (fold (with_version worker version) between slots) one
    (put_all between worker version slots (whole_after versions worker version (slot ∷ []) between one whole) (omega (arith, one.workers, below)))
