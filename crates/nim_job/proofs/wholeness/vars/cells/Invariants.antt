use Rattle.std.proofs.Common.{◌≡◌, ◌*◌, ◌≤◌, take}
use Rattle.std.specs.List.{sum_by}
use Rattle.nim_job.specs.Whole.{cells_in}
use Rattle.nim_job.proofs.wholeness.vars.cells.Given as goal

abbrev pub invariant-loop-var : goal.invariant-loop-var
invariant-loop-var l = record {
  sum : l.cells ≡ sum_by cells_in (take l.var-index l.vars);
  below : l.cells ≤ 4194304 * l.var-index;
}
