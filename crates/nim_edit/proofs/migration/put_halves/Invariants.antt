-- the halves that were put so far
use Rattle.std.proofs.Common.{◌≡◌, length, true}
use Rattle.std.specs.List.{fold, list_all}
use Rattle.nim_edit.specs.Form.{is_half_below}
use Rattle.nim_edit.specs.Moves.{with_half}
use Rattle.nim_edit.proofs.migration.put_halves.Given as goal

abbrev pub invariant-loop-worker : goal.invariant-loop-worker
invariant-loop-worker l = record {
  long : length l.all.items ≡ length l.initial.all.items;
  below : list_all (is_half_below (length l.initial.all.items)) l.worker-iterator.rest.items ≡ true;
  put : l.all.items ≡ fold with_half l.initial.all.items l.yielded;
}
