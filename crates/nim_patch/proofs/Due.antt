-- The copies of a patch are of latest versions, from live workers that hold them to live ones that don't.
use Rattle.std.proofs.Common.{◌≡◌, ℕ, ◌<◌, Bool, true, false, not, List, [], ◌∷◌, length, get_or, refl, ap, ap₂, sym, ◌∙◌, arith}
use Rattle.std.specs.Prelude.{◌==◌, if◌then◌else◌, Option, None, Some, option_map}
use Rattle.std.specs.List.{AllByRecursion}
use Rattle.std.specs.Option.{option_map_or}
use Rattle.std.proofs.lemmas.Bool.{false≢true}
use Rattle.std.proofs.lemmas.List.Elements.{recursion_from_All}
use Rattle.nim_base.specs.declared.number.Object.{Object}
use Rattle.nim_base.specs.declared.number.Worker.{Worker}
use Rattle.nim_command.specs.Numbers.{main_slot}
use Rattle.nim_patch.specs.declared.patch.PatchCopy.{PatchCopy}
use Rattle.nim_patch.specs.Mends.{is_target}
use Rattle.nim_patch.specs.Patches.{after_copy, patch_copies, copy_first, copy_to_precondition}
use Rattle.nim_patch.proofs.Copied.{IsCopied, copied_one}
use Rattle.nim_patch.proofs.Mended.{holds_then}
use Rattle.nim_patch.proofs.Runs.{AreWithinWorkers}
use Rattle.nim_place.specs.Extends.{is_live}
use Rattle.nim_place.specs.Versions.{Versions, held_at, holder, is_current, latest_of}
use Rattle.nim_place.proofs.LiveOnce.{live_within}
use Rattle.nim_place.proofs.Moves.{holder_facts}
use Rattle.nim_place.proofs.Puts.{IsWhole}
use Rattle.nim_template.specs.MainSlots.{AreMainSlots}
use Rattle.nim_place.proofs.Held.{current_kept}
use Rattle.nim_template.proofs.Copies.{IsCopy}

-- a copy of an object of the map, from a worker that holds its latest version to a live one that doesn't
pub record IsDue (live : List Bool) (versions : Versions) (copy : PatchCopy) : Type 0 where
  pub from_below : copy.from.0 < versions.workers
  pub to_below : copy.to.0 < versions.workers
  pub there : copy.object.0 < versions.objects
  pub current : is_current versions copy.object copy.from ≡ true
  pub lacks : is_current versions copy.object copy.to ≡ false
  pub lives : is_live live copy.to ≡ true

-- each of them is
abbrev pub AreDue : List Bool → Versions → List PatchCopy → Type 0
AreDue live versions copies = AllByRecursion (IsDue live versions) copies

-- each precondition's main slot is a live worker's, and of one of so many objects
abbrev AreThere : List Bool → ℕ → List (Worker × Object) → Type 0
AreThere live objects slots = AllByRecursion (λ (slot : Worker × Object). (is_live live slot.0 ≡ true) × (slot.1.0 < objects)) slots

-- the copies for such slots are due
slots_due : (live : List Bool) (objects : ℕ) (versions : Versions) (slots : List (Worker × Object)) → versions.workers ≡ length live
    → versions.objects ≡ objects → AreThere live objects slots → AreDue live versions (patch_copies versions slots)
slots_due live objects versions [] rows columns are = tt
slots_due live objects versions (slot ∷ slots) rows columns are =
    either (is_current versions slot.1 slot.0) (holder versions slot.1) refl refl (slots_due live objects versions slots rows columns are.1) where
      either : (b : Bool) (o : Option Worker) → is_current versions slot.1 slot.0 ≡ b → holder versions slot.1 ≡ o
          → AreDue live versions (patch_copies versions slots)
          → AreDue live versions (copy_first (if not b then option_map (copy_to_precondition slot) o else None) (patch_copies versions slots))
      either true o current held rest = rest
      either false None current held rest = rest
      either false (Some from) current held rest =
          let facts = holder_facts versions slot.1 0 versions.workers from held in
          let low = facts.0 in
          let within = live_within live slot.0 are.0.0 in
          let inside = are.0.1 in (
            record {
              from_below = omega (arith, low);
              to_below = omega (arith, rows, within);
              there = omega (arith, columns, inside);
              current = facts.1;
              lacks = current;
              lives = are.0.0;
            },
            rest,
          )

-- so those of a patch are
pub copies_due : (live : List Bool) (objects : ℕ) (versions : Versions) (preconditions : List (Worker × Object)) → versions.workers ≡ length live
    → versions.objects ≡ objects → AreMainSlots live objects preconditions → AreDue live versions (patch_copies versions preconditions)
copies_due live objects versions preconditions rows columns are =
    slots_due live objects versions preconditions rows columns
    (recursion_from_All (λ (slot : Worker × Object). (is_live live slot.0 ≡ true) × (slot.1.0 < objects)) preconditions are.there)

-- and each is between workers of the map
pub due_within : (live : List Bool) (versions : Versions) (copies : List PatchCopy) → AreDue live versions copies → AreWithinWorkers versions.workers copies
due_within live versions [] due = tt
due_within live versions (copy ∷ copies) due = ((due.0.from_below, due.0.to_below), due_within live versions copies due.1)

-- ---- behind other copies

-- a map behind copies has the latest versions that the map before had, where it had them
pub record IsBehind (versions now : Versions) : Type 0 where
  pub workers : now.workers ≡ versions.workers
  pub objects : now.objects ≡ versions.objects
  pub whole : IsWhole now
  pub latest : (object : Object) → latest_of now object ≡ latest_of versions object
  pub current : (object : Object) (worker : Worker) → is_current versions object worker ≡ true → is_current now object worker ≡ true

-- no copy is before it
pub behind_none : (versions : Versions) → IsWhole versions → IsBehind versions versions
behind_none versions whole =
    record { workers = refl; objects = refl; whole = whole; latest = λ object. refl; current = λ object worker is. is }

-- the map behind one more copy
pub behind_more : (versions now : Versions) (copy : PatchCopy) → IsBehind versions now → IsBehind versions (after_copy now copy)
behind_more versions now copy behind = record {
  workers = one.workers ∙ behind.workers;
  objects = one.objects ∙ behind.objects;
  whole = one.whole;
  latest = λ object. same object ∙ behind.latest object;
  current = λ object worker is. still object worker (behind.current object worker is);
} where
  one : IsCopied now (copy ∷ []) (after_copy now copy)
  one = copied_one now copy behind.whole

  same : (object : Object) → latest_of (after_copy now copy) object ≡ latest_of now object
  same object = ap (λ (l : List ℕ). get_or l object.0 0) one.latest

  still : (object : Object) (worker : Worker) → is_current now object worker ≡ true → is_current (after_copy now copy) object worker ≡ true
  still object worker is =
      let test : ℕ → Option ℕ → Bool = λ l o. option_map_or (λ (n : ℕ). n == l) o false in
      ap₂ test (same object) (one.held worker (main_slot object) (current_kept now object worker is))
      ∙ holds_then (is_target (copy ∷ []) worker (main_slot object)) (held_at now worker (main_slot object)) (latest_of now object)
      (λ fails. absurd (false≢true (sym fails ∙ is)))

-- a copy that is due is one of the map behind others
pub due_copy : (live : List Bool) (versions now : Versions) (copy : PatchCopy) → IsBehind versions now → IsDue live versions copy
    → IsCopy now copy.from copy.to copy.object (latest_of versions copy.object)
due_copy live versions now copy behind due =
    let from_below = due.from_below in
    let to_below = due.to_below in
    let there = due.there in
    record {
      from_below = omega (arith, behind.workers, from_below);
      to_below = omega (arith, behind.workers, to_below);
      there = omega (arith, behind.objects, there);
      apart = λ same.
          false≢true (sym due.lacks ∙ ap (λ (n : ℕ). is_current versions copy.object (record { 0 = n })) (sym same) ∙ due.current);
      current = behind.current copy.object copy.from due.current;
      latest = sym (behind.latest copy.object);
    }
