use Rattle.std.proofs.Common.{◌≡◌, ◌<◌, ◌≤◌, ℕ, [], length, map, take, All}
use Rattle.std.specs.Vec.{vec_capacity}
use Rattle.nim_base.specs.declared.number.Slot.{Slot}
use Rattle.nim_base.specs.Functions.{read_values}
use Rattle.nim_store.specs.Stored.{slot_at}
use Rattle.nim_history.specs.Kept.{content_seen, held_or_empty}
use Rattle.nim_worker.specs.Inputs.{AreAmong, AreSeen, given_back}
use Rattle.nim_worker.proofs.inputs.Inputs.take.Given as goal

-- what is taken is what the slots had, and the first reads have their places in it
abbrev pub invariant-loop-slot : goal.invariant-loop-slot
invariant-loop-slot l = record {
  back : given_back l.self.taken.items l.self.values.items (slot_at l.store) ≡ slot_at l.fn.store;
  among : AreAmong l.reads l.self.taken.items;
  stays : l.store.shapes ≡ l.fn.store.shapes;
  params : l.self.params.items ≡ l.params;
  values : read_values l.self.values.items l.self.places.items
      ≡ map (λ (slot : Slot). (held_or_empty (slot_at l.fn.store) slot).value) (take l.slot-index l.reads);
  contents : l.self.contents.items ≡ map (content_seen (slot_at l.fn.store)) (take l.slot-index l.reads);
  paired : length l.self.taken.items ≡ length l.self.values.items;
  shapes : l.self.shapes.items ≡ [];
  few : length l.self.taken.items ≤ l.slot-index;
  right : AreSeen l.self.taken.items l.self.values.items;
  fit : All (λ (place : ℕ). place < length l.self.values.items) l.self.places.items;
  room : (8 ≤ vec_capacity l.self.taken) × (8 ≤ vec_capacity l.self.values) × (8 ≤ vec_capacity l.self.places) × (8 ≤ vec_capacity l.self.contents);
}
