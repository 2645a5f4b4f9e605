use Rattle.std.proofs.Common.{◌≡◌, ◌≤◌, [], length}
use Rattle.std.specs.Vec.{vec_capacity}
use Rattle.nim_worker.specs.Inputs.{given_back}
use Rattle.nim_store.specs.Stored.{slot_at}
use Rattle.nim_worker.proofs.inputs.Inputs.give_back.Given as goal

-- what is still to be given back leads to the same end
abbrev pub invariant-loop-value : goal.invariant-loop-value
invariant-loop-value l = record {
  back : given_back l.self.taken.items l.self.values.items (slot_at l.store) ≡ given_back l.fn.self.taken.items l.fn.self.values.items (slot_at l.fn.store);
  stays : l.store.shapes ≡ l.fn.store.shapes;
  params : l.self.params.items ≡ [];
  paired : length l.self.taken.items ≡ length l.self.values.items;
  places : l.self.places.items ≡ [];
  contents : l.self.contents.items ≡ [];
  shapes : l.self.shapes.items ≡ [];
  room : (8 ≤ vec_capacity l.self.taken) × (8 ≤ vec_capacity l.self.values);
}

abbrev pub decreases-loop-value : goal.decreases-loop-value
decreases-loop-value l = length l.self.values.items
