-- Behind the copies of a patch no precondition fails.
use Rattle.std.proofs.Common.{◌≡◌, ℕ, ◌<◌, Bool, true, false, not, List, [], ◌∷◌, get_or, Contains, refl, ap, ap₂, sym, subst, ◌∙◌, eq-eqb, inl, inr}
use Rattle.std.specs.Prelude.{◌==◌, ◌&&◌, if◌then◌else◌, Option, None, Some, option_map, is_some}
use Rattle.std.specs.Option.{option_map_or}
use Rattle.std.proofs.lemmas.Bool.{and_from, false≢true, or_left, or_right}
use Rattle.lru.proofs.Splits.{Contains-cons, Contains-nil}
use Rattle.nim_base.specs.declared.number.Object.{Object}
use Rattle.nim_base.specs.declared.number.Slot.{Slot}
use Rattle.nim_base.specs.declared.number.Worker.{Worker}
use Rattle.nim_command.specs.Numbers.{main_slot}
use Rattle.nim_command.specs.declared.command.Command.{Command}
use Rattle.nim_patch.specs.declared.patch.PatchCopy.{PatchCopy}
use Rattle.nim_patch.specs.Mends.{Mends, is_target}
use Rattle.nim_patch.specs.Patches.{after_copies, patch_copies, copy_first, copy_to_precondition, copy_of, fails}
use Rattle.nim_patch.proofs.Copied.{IsCopied, copied_all, same_slots}
use Rattle.nim_patch.proofs.Sources.{found_from}
use Rattle.nim_place.specs.Stands.{MapStands}
use Rattle.nim_place.specs.Versions.{Versions, held_at, holder, is_kept, latest_of, place_of}
use Rattle.nim_place.proofs.Held.{current_kept}
use Rattle.nim_place.proofs.Puts.{IsWhole, kept_bounds, kept_for}

-- an object that some worker holds is one of the map's
held_object : (versions : Versions) (object : Object) → is_some (holder versions object) ≡ true → object.0 < versions.objects
held_object versions object some = by (holder versions object) refl some where
  by : (o : Option Worker) → holder versions object ≡ o → is_some o ≡ true → object.0 < versions.objects
  by None is some = absurd (false≢true some)
  by (Some from) is some =
      let holds = (found_from versions object 0 versions.workers from is).0 in
      (kept_bounds versions from (main_slot object) (current_kept versions object from holds)).1

-- a copy that goes to a slot, behind one that may be before it
still_target : (o : Option PatchCopy) (copies : List PatchCopy) (worker : Worker) (slot : Slot) → is_target copies worker slot ≡ true
    → is_target (copy_first o copies) worker slot ≡ true
still_target None copies worker slot is = is
still_target (Some copy) copies worker slot is = or_right ((copy.object.0 == slot.0) && (copy.to.0 == worker.0)) (is_target copies worker slot) is

-- the copy of a precondition that fails
first_target : (versions : Versions) (precondition : Worker × Object) (copies : List PatchCopy) → fails versions precondition ≡ true
    → is_some (holder versions precondition.1) ≡ true
    → is_target (copy_first (copy_of versions precondition) copies) precondition.0 (main_slot precondition.1) ≡ true
first_target versions precondition copies wanted some = by (fails versions precondition) (holder versions precondition.1) wanted some where
  by : (b : Bool) (o : Option Worker) → b ≡ true → is_some o ≡ true
      → is_target (copy_first (if b then option_map (copy_to_precondition precondition) o else None) copies) precondition.0 (main_slot precondition.1) ≡ true
  by true (Some from) is some =
      or_left ((precondition.1.0 == precondition.1.0) && (precondition.0.0 == precondition.0.0)) (is_target copies precondition.0 (main_slot precondition.1))
      (and_from (precondition.1.0 == precondition.1.0) (precondition.0.0 == precondition.0.0) (eq-eqb precondition.1.0 precondition.1.0 refl)
      (eq-eqb precondition.0.0 precondition.0.0 refl))
  by true None is some = absurd (false≢true some)
  by false o is some = absurd (false≢true is)

-- a precondition that fails has a copy
targeted : (versions : Versions) (preconditions : List (Worker × Object)) (precondition : Worker × Object) → Contains preconditions precondition
    → fails versions precondition ≡ true → is_some (holder versions precondition.1) ≡ true
    → is_target (patch_copies versions preconditions) precondition.0 (main_slot precondition.1) ≡ true
targeted versions [] precondition among wanted some = absurd (Contains-nil precondition among)
targeted versions (first ∷ rest) precondition among wanted some = elim (Contains-cons first rest precondition among) [
  | inl same ↦ subst (λ (p : Worker × Object). is_target (patch_copies versions (p ∷ rest)) precondition.0 (main_slot precondition.1) ≡ true) (sym same)
      (first_target versions precondition (patch_copies versions rest) wanted some)
  | inr later ↦ still_target (copy_of versions first) (patch_copies versions rest) precondition.0 (main_slot precondition.1)
      (targeted versions rest precondition later wanted some)
]

-- a slot that a copy goes to, or that held the latest version, holds it
pub holds_then : (t : Bool) (o : Option ℕ) (latest : ℕ) → (option_map_or (λ (n : ℕ). n == latest) o false ≡ false → t ≡ true)
    → option_map_or (λ (n : ℕ). n == latest) (if t then Some latest else o) false ≡ true
holds_then true o latest copied = eq-eqb latest latest refl
holds_then false o latest copied = by (option_map_or (λ (n : ℕ). n == latest) o false) copied where
  by : (b : Bool) → (b ≡ false → false ≡ true) → b ≡ true
  by true copied = refl
  by false copied = copied refl

-- what a patch is for
pub patch_mends : (versions : Versions) (preconditions : List (Worker × Object)) → IsWhole versions
    → Mends versions preconditions (patch_copies versions preconditions)
patch_mends versions preconditions whole = record { holds = holds; others = others; latest = λ object. latest object } where
  done : IsCopied versions (patch_copies versions preconditions) (after_copies versions (patch_copies versions preconditions))
  done = copied_all versions (patch_copies versions preconditions) whole

  latest : (object : Object) → latest_of (after_copies versions (patch_copies versions preconditions)) object ≡ latest_of versions object
  latest object = ap (λ (l : List ℕ). get_or l object.0 0) done.latest

  holds : (precondition : Worker × Object) → Contains preconditions precondition → precondition.0.0 < versions.workers
      → is_some (holder versions precondition.1) ≡ true → fails (after_copies versions (patch_copies versions preconditions)) precondition ≡ false
  holds precondition among within some =
      let slot : Slot = main_slot precondition.1 in
      let kept = kept_for versions precondition.0 slot within (held_object versions precondition.1 some) in
      let current : ℕ → Option ℕ → Bool = λ l o. option_map_or (λ (n : ℕ). n == l) o false in
      ap not (ap₂ current (latest precondition.1) (done.held precondition.0 slot kept)
      ∙ holds_then (is_target (patch_copies versions preconditions) precondition.0 slot) (held_at versions precondition.0 slot)
      (latest_of versions precondition.1)
      (λ apart. targeted versions preconditions precondition among (ap not apart) some))

  others : (worker : Worker) (slot : Slot) → is_target (patch_copies versions preconditions) worker slot ≡ false
      → held_at (after_copies versions (patch_copies versions preconditions)) worker slot ≡ held_at versions worker slot
  others worker slot apart = either (is_kept versions worker slot) refl where
    either : (b : Bool) → is_kept versions worker slot ≡ b
        → held_at (after_copies versions (patch_copies versions preconditions)) worker slot ≡ held_at versions worker slot
    either true kept = done.held worker slot kept
        ∙ ap (λ (b : Bool). if b then Some (get_or versions.latest slot.0 0) else held_at versions worker slot) apart
    either false kept =
        let there = same_slots versions (after_copies versions (patch_copies versions preconditions)) worker slot done.workers done.objects ∙ kept in
        ap (λ (b : Bool). if b then get_or (after_copies versions (patch_copies versions preconditions)).held
        (place_of (after_copies versions (patch_copies versions preconditions)) worker slot) None else None) there
        ∙ sym (ap (λ (b : Bool). if b then get_or versions.held (place_of versions worker slot) None else None) kept)

-- for a map that stands for any commands
pub mends_given : (given : List (Worker × Command)) (versions : Versions) (preconditions : List (Worker × Object)) → MapStands given versions
    → Mends versions preconditions (patch_copies versions preconditions)
mends_given given versions preconditions stands = patch_mends versions preconditions (record { slots = stands.slots; all = stands.all })
