use Rattle.std.proofs.Common.{◌≡◌, ◌≤◌, map, take, All}
use Rattle.std.specs.Vec.{vec_capacity}
use Rattle.nim_base.specs.declared.number.Shape.{Shape}
use Rattle.nim_history.specs.Kept.{fitting_shape}
use Rattle.nim_worker.proofs.taking.push_shapes.Given as goal

-- the shapes of the first slots
abbrev pub invariant-loop-slot : goal.invariant-loop-slot
invariant-loop-slot l = record {
  shapes : l.fitting.items ≡ map (fitting_shape l.store.shapes) (take l.slot-index l.writes);
  wide : All (λ (shape : Shape). 1 ≤ shape.width) l.fitting.items;
  room : 2 ≤ vec_capacity l.fitting;
}
