-- The main slots that a template needs at entry: those of live workers, each once.
use Rattle.std.specs.Prelude.{◌≡◌, ℕ, ◌+◌, ◌*◌, ◌<◌, ◌≤◌, nat_le, Bool, true, ◌&&◌, List, [], ◌∷◌, length, All}
use Rattle.nim_base.specs.declared.number.Object.{Object}
use Rattle.nim_base.specs.declared.number.Worker.{Worker}
use Rattle.nim_place.specs.Extends.{is_live}

-- whether main slots ascend by worker and by object, of so many objects, from the slot at a place on
abbrev pub do_slots_ascend : ℕ → ℕ → List (Worker × Object) → Bool
do_slots_ascend objects low [] = true
do_slots_ascend objects low (slot ∷ slots) =
    nat_le low (slot.0.0 * objects + slot.1.0) && do_slots_ascend objects (slot.0.0 * objects + slot.1.0 + 1) slots

-- Main slots of live workers and of so many objects, at most 512, in ascending worker and object: so there are no more
-- than all workers have.
pub record AreMainSlots (live : List Bool) (objects : ℕ) (slots : List (Worker × Object)) : Type 0 where
  pub few : objects ≤ 512
  pub there : All (λ (slot : Worker × Object). (is_live live slot.0 ≡ true) × (slot.1.0 < objects)) slots
  pub ascend : do_slots_ascend objects 0 slots ≡ true
  pub within : length slots ≤ length live * objects
