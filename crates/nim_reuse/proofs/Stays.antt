-- Which workers and objects a map of versions has stays, whatever an instance leaves in it.
use Rattle.std.proofs.Common.{◌≡◌, ℕ, Bool, true, false, List, [], ◌∷◌, refl, ap, ◌∙◌}
use Rattle.std.specs.Prelude.{◌==◌, if◌then◌else◌, max, slice_index_or, slice_set, Some}
use Rattle.std.specs.List.{fold}
use Rattle.nim_base.specs.declared.number.Slot.{Slot}
use Rattle.nim_base.specs.declared.number.Worker.{Worker}
use Rattle.nim_command.specs.Numbers.{counted_from, main_slot}
use Rattle.nim_patch.specs.declared.patch.PatchCopy.{PatchCopy}
use Rattle.nim_patch.specs.Patches.{after_copies, after_copy}
use Rattle.nim_place.specs.Versions.{Versions, after_effect, is_kept, latest_of, place_of, with_kept, with_version, with_written}
use Rattle.nim_reuse.specs.Reuse.{MapStays}

pub same_stays : (old new : Versions) → new ≡ old → MapStays old new
same_stays old new same = record { workers = ap (λ (v : Versions). v.workers) same; objects = ap (λ (v : Versions). v.objects) same }

pub then_stays : (a b c : Versions) → MapStays a b → MapStays b c → MapStays a c
then_stays a b c one two = record { workers = two.workers ∙ one.workers; objects = two.objects ∙ one.objects }

pub put_stays : (worker : Worker) (version : ℕ) (versions : Versions) (slot : Slot) → MapStays versions (with_version worker version versions slot)
put_stays worker version versions slot = either (is_kept versions worker slot) where
  either : (b : Bool)
      → MapStays versions (if b then record versions {
        held = slice_set versions.held (place_of versions worker slot) (Some version);
        latest = slice_set versions.latest slot.0 (max (slice_index_or versions.latest slot.0 0) version);
      } else versions)
  either true = record { workers = refl; objects = refl }
  either false = record { workers = refl; objects = refl }

-- steps of which each keeps them
all_stay : {X : Type 0} (step : Versions → X → Versions) → ((v : Versions) (x : X) → MapStays v (step v x)) → (xs : List X) (versions : Versions)
    → MapStays versions (fold step versions xs)
all_stay step each [] versions = record { workers = refl; objects = refl }
all_stay step each (x ∷ xs) versions =
    then_stays versions (step versions x) (fold step (step versions x) xs) (each versions x) (all_stay step each xs (step versions x))

kept_stays : (versions : Versions) (item : Worker × Slot × ℕ) → MapStays versions (with_kept versions item)
kept_stays versions item = either (item.2 == 0) where
  either : (b : Bool) → MapStays versions (if b then with_version item.0 (slice_index_or versions.latest item.1.0 0) versions item.1 else versions)
  either true = put_stays item.0 (slice_index_or versions.latest item.1.0 0) versions item.1
  either false = record { workers = refl; objects = refl }

written_stays : (base : ℕ) (versions : Versions) (item : Worker × Slot × ℕ) → MapStays versions (with_written base versions item)
written_stays base versions item = either (item.2 == 0) where
  either : (b : Bool) → MapStays versions (if b then versions else with_version item.0 (counted_from base item.2) versions item.1)
  either true = record { workers = refl; objects = refl }
  either false = put_stays item.0 (counted_from base item.2) versions item.1

pub effect_stays : (base : ℕ) (versions : Versions) (effect : List (Worker × Slot × ℕ)) → MapStays versions (after_effect base versions effect)
effect_stays base versions effect =
    then_stays versions (fold with_kept versions effect) (after_effect base versions effect) (all_stay with_kept kept_stays effect versions)
    (all_stay (with_written base) (written_stays base) effect (fold with_kept versions effect))

pub copies_stay : (versions : Versions) (copies : List PatchCopy) → MapStays versions (after_copies versions copies)
copies_stay versions copies =
    all_stay after_copy (λ (v : Versions) (copy : PatchCopy). put_stays copy.to (latest_of v copy.object) v (main_slot copy.object)) copies versions

-- copies were taken
pub copied_stays : (old new : Versions) (copies : List PatchCopy) → new ≡ after_copies old copies → MapStays old new
copied_stays old new copies is = then_stays old (after_copies old copies) new (copies_stay old copies) (same_stays (after_copies old copies) new is)

-- and then an effect was
pub affected_stays : (old mid new : Versions) (base : ℕ) (effect : List (Worker × Slot × ℕ)) → MapStays old mid → new ≡ after_effect base mid effect
    → MapStays old new
affected_stays old mid new base effect first is =
    then_stays old mid new first
    (then_stays mid (after_effect base mid effect) new (effect_stays base mid effect) (same_stays (after_effect base mid effect) new is))
