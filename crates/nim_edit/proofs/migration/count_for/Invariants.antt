-- how many of the edits so far are the worker's
use Rattle.std.proofs.Common.{◌≡◌, ◌≤◌, take}
use Rattle.nim_edit.specs.Refusals.{count_for}
use Rattle.nim_edit.proofs.migration.count_for.Given as goal

abbrev pub invariant-loop-edit : goal.invariant-loop-edit
invariant-loop-edit l = record {
  within : l.count ≤ l.edit-index;
  count : l.count ≡ count_for (take l.edit-index l.edits) l.worker;
}
