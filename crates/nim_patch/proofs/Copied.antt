-- What a map holds behind copies of latest versions.
use Rattle.std.proofs.Common.{◌≡◌, ℕ, Bool, true, false, List, [], ◌∷◌, get_or, set, refl, ap, ap₂, sym, subst, ◌∙◌, arith}
use Rattle.std.specs.Prelude.{◌==◌, ◌&&◌, ◌||◌, nat_lt, max, if◌then◌else◌, Option, Some}
use Rattle.std.proofs.lemmas.Bool.{and_parts, eqb-true, false≢true}
use Rattle.std.proofs.lemmas.List.{set-get_or}
use Rattle.nim_base.specs.declared.number.Slot.{Slot}
use Rattle.nim_base.specs.declared.number.Worker.{Worker}
use Rattle.nim_command.specs.Numbers.{main_slot}
use Rattle.nim_patch.specs.declared.patch.PatchCopy.{PatchCopy}
use Rattle.nim_patch.specs.Mends.{is_target}
use Rattle.nim_patch.specs.Patches.{after_copies, after_copy}
use Rattle.nim_place.specs.Versions.{Versions, held_at, is_kept, latest_of, place_of}
use Rattle.nim_place.proofs.Puts.{IsPut, IsWhole, kept_bounds, put_one, whole_after}

-- a map behind copies, and the map before
pub record IsCopied (before : Versions) (copies : List PatchCopy) (after : Versions) : Type 0 where
  pub workers : after.workers ≡ before.workers
  pub objects : after.objects ≡ before.objects
  pub whole : IsWhole after
  pub latest : after.latest ≡ before.latest
  pub held : (worker : Worker) (slot : Slot) → is_kept before worker slot ≡ true
      → held_at after worker slot ≡ (if is_target copies worker slot then Some (get_or before.latest slot.0 0) else held_at before worker slot)

-- the map has the same slots then
pub same_slots : (before after : Versions) (worker : Worker) (slot : Slot) → after.workers ≡ before.workers → after.objects ≡ before.objects
    → is_kept after worker slot ≡ is_kept before worker slot
same_slots before after worker slot workers objects = ap₂ (λ (n m : ℕ). nat_lt worker.0 n && nat_lt slot.0 m) workers objects

-- the greater of a number and itself
max_same : (n : ℕ) → max n n ≡ n
max_same n = omega arith

-- what one copy leaves in a slot, where it goes there or not
copy_held : (b c : Bool) (latest copied : ℕ) (rest : Option ℕ) → (b ≡ true → copied ≡ latest)
    → (if (b || false) && c then Some copied else rest) ≡ (if (b && c) || false then Some latest else rest)
copy_held true true latest copied rest same = ap (λ (n : ℕ). Some n) (same refl)
copy_held true false latest copied rest same = refl
copy_held false c latest copied rest same = refl

-- a slot to which it doesn't go
not_held : (b c : Bool) (latest : ℕ) (rest : Option ℕ) → ((b && c) ≡ true → ⊥) → rest ≡ (if (b && c) || false then Some latest else rest)
not_held true true latest rest not = absurd (not refl)
not_held true false latest rest not = refl
not_held false c latest rest not = refl

-- two times
both_held : (b c : Bool) (latest : ℕ) (rest : Option ℕ) → (if c then Some latest else (if b || false then Some latest else rest))
    ≡ (if b || c then Some latest else rest)
both_held true true latest rest = refl
both_held true false latest rest = refl
both_held false true latest rest = refl
both_held false false latest rest = refl

-- one copy
pub copied_one : (versions : Versions) (copy : PatchCopy) → IsWhole versions → IsCopied versions (copy ∷ []) (after_copy versions copy)
copied_one versions copy whole = either (is_kept versions copy.to (main_slot copy.object)) refl where
  goes : (worker : Worker) (slot : Slot) → ((copy.object.0 == slot.0) && (copy.to.0 == worker.0)) ≡ true → is_kept versions worker slot ≡ true
      → is_kept versions copy.to (main_slot copy.object) ≡ true
  goes worker slot is kept =
      let each = and_parts (copy.object.0 == slot.0) (copy.to.0 == worker.0) is in
      let object = eqb-true copy.object.0 slot.0 each.0 in
      let at = eqb-true copy.to.0 worker.0 each.1 in
      ap₂ (λ (n m : ℕ). nat_lt n versions.workers && nat_lt m versions.objects) at object ∙ kept

  either : (b : Bool) → is_kept versions copy.to (main_slot copy.object) ≡ b → IsCopied versions (copy ∷ []) (if b then record versions {
    held = set versions.held (place_of versions copy.to (main_slot copy.object)) (Some (latest_of versions copy.object));
    latest = set versions.latest copy.object.0 (max (get_or versions.latest copy.object.0 0) (latest_of versions copy.object));
  } else versions)
  either true kept =
      let bounds = kept_bounds versions copy.to (main_slot copy.object) kept in
      let choose : Bool → Versions = λ b. if b then record versions {
        held = set versions.held (place_of versions copy.to (main_slot copy.object)) (Some (latest_of versions copy.object));
        latest = set versions.latest copy.object.0 (max (get_or versions.latest copy.object.0 0) (latest_of versions copy.object));
      } else versions in
      let put : IsPut versions copy.to (latest_of versions copy.object) (main_slot copy.object ∷ []) (choose true)
      = subst (λ (b : Bool). IsPut versions copy.to (latest_of versions copy.object) (main_slot copy.object ∷ []) (choose b)) kept
      (put_one versions copy.to (latest_of versions copy.object) (main_slot copy.object) whole bounds.0) in
      record {
        workers = refl;
        objects = refl;
        whole = whole_after versions copy.to (latest_of versions copy.object) (main_slot copy.object ∷ []) (choose true) put whole;
        latest = ap (λ (n : ℕ). set versions.latest copy.object.0 n) (max_same (latest_of versions copy.object)) ∙ set-get_or versions.latest copy.object.0 0;
        held = λ worker slot there. put.held worker slot there
            ∙ copy_held (copy.object.0 == slot.0) (copy.to.0 == worker.0) (get_or versions.latest slot.0 0) (latest_of versions copy.object)
            (held_at versions worker slot)
            (λ is. ap (λ (n : ℕ). get_or versions.latest n 0) (eqb-true copy.object.0 slot.0 is));
      }
  either false kept = record {
    workers = refl;
    objects = refl;
    whole = whole;
    latest = refl;
    held = λ worker slot there. not_held (copy.object.0 == slot.0) (copy.to.0 == worker.0) (get_or versions.latest slot.0 0) (held_at versions worker slot)
        (λ is. false≢true (sym kept ∙ goes worker slot is there));
  }

-- one copy, and then others
copied_then : (before between after : Versions) (copy : PatchCopy) (copies : List PatchCopy) → IsCopied before (copy ∷ []) between
    → IsCopied between copies after
    → IsCopied before (copy ∷ copies) after
copied_then before between after copy copies one rest = record {
  workers = rest.workers ∙ one.workers;
  objects = rest.objects ∙ one.objects;
  whole = rest.whole;
  latest = rest.latest ∙ one.latest;
  held = λ worker slot there.
      let choose : List ℕ → Option ℕ → Option ℕ = λ l o. if is_target copies worker slot then Some (get_or l slot.0 0) else o in
      rest.held worker slot (same_slots before between worker slot one.workers one.objects ∙ there)
      ∙ ap₂ choose one.latest (one.held worker slot there)
      ∙ both_held ((copy.object.0 == slot.0) && (copy.to.0 == worker.0)) (is_target copies worker slot) (get_or before.latest slot.0 0)
      (held_at before worker slot);
}

-- all of them
pub copied_all : (versions : Versions) (copies : List PatchCopy) → IsWhole versions → IsCopied versions copies (after_copies versions copies)
copied_all versions [] whole = record { workers = refl; objects = refl; whole = whole; latest = refl; held = λ worker slot there. refl }
copied_all versions (copy ∷ copies) whole =
    let one = copied_one versions copy whole in
    copied_then versions (after_copy versions copy) (after_copies (after_copy versions copy) copies) copy copies one
    (copied_all (after_copy versions copy) copies one.whole)
