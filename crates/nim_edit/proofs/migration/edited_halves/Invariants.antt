-- the halves that the edits so far touch
use Rattle.std.proofs.Common.{◌≡◌, map, take}
use Rattle.nim_edit.specs.Moves.{half_touched}
use Rattle.nim_edit.proofs.migration.edited_halves.Given as goal

abbrev pub invariant-loop-worker : goal.invariant-loop-worker
invariant-loop-worker l = record {
  touched : l.touched.items ≡ map (half_touched l.halves) (take l.worker-index l.edits);
}
