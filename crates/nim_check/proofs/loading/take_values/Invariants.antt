-- the values so far, and those that are left
use Rattle.std.proofs.Common.{◌≡◌, drop, take}
use Rattle.std.specs.Vec.Iter.{into_iter_items}
use Rattle.nim_check.proofs.loading.take_values.Given as goal

abbrev pub invariant-loop-turn : goal.invariant-loop-turn
invariant-loop-turn l = record {
  taken : l.taken ≡ take l._turn (into_iter_items l.fn.values);
  rest : into_iter_items l.values ≡ drop l._turn (into_iter_items l.fn.values);
}
