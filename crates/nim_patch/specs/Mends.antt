-- What a patch is for: behind its copies no precondition fails, and nothing else has changed.
use Rattle.std.specs.Prelude.{◌≡◌, ◌<◌, ◌==◌, Bool, ◌&&◌, true, false, List}
use Rattle.std.specs.List.{AllByRecursion, Contains, list_any}
use Rattle.std.specs.Option.{is_some}
use Rattle.nim_base.specs.declared.number.Object.{Object}
use Rattle.nim_base.specs.declared.number.Slot.{Slot}
use Rattle.nim_base.specs.declared.number.Worker.{Worker}
use Rattle.nim_patch.specs.declared.patch.PatchCopy.{PatchCopy}
use Rattle.nim_patch.specs.Patches.{after_copies, fails}
use Rattle.nim_place.specs.Versions.{Versions, held_at, holder, is_current, latest_of}

-- the source of a copy holds the latest version of its object, and no lower worker does
pub record IsSourced (versions : Versions) (copy : PatchCopy) : Type 0 where
  pub holds : is_current versions copy.object copy.from ≡ true
  pub lowest : (worker : Worker) → worker.0 < copy.from.0 → is_current versions copy.object worker ≡ false

-- each copy has such a source
abbrev pub AreSourced : Versions → List PatchCopy → Type 0
AreSourced versions copies = AllByRecursion (IsSourced versions) copies

-- whether one of the copies goes to a worker's slot
abbrev pub is_target : List PatchCopy → Worker → Slot → Bool
is_target copies worker slot = list_any (λ (c : PatchCopy). (c.object.0 == slot.0) && (c.to.0 == worker.0)) copies

-- Behind the copies each precondition holds, of the map's workers and of an object that some worker held; all other
-- slots hold what they held, and each latest version is what it was.
pub record Mends (versions : Versions) (preconditions : List (Worker × Object)) (copies : List PatchCopy) : Type 0 where
  pub holds : (precondition : Worker × Object) → Contains preconditions precondition
      → precondition.0.0 < versions.workers
      → is_some (holder versions precondition.1) ≡ true → fails (after_copies versions copies) precondition ≡ false
  pub others : (worker : Worker) (slot : Slot) → is_target copies worker slot ≡ false
      → held_at (after_copies versions copies) worker slot ≡ held_at versions worker slot
  pub latest : (object : Object) → latest_of (after_copies versions copies) object ≡ latest_of versions object
