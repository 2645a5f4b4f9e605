use Rattle.std.proofs.Common.{◌≡◌, ◌*◌, ◌≤◌, take}
use Rattle.std.specs.List.{sum_by}
use Rattle.nim_job.proofs.wholeness.vars.objects.Given as goal

abbrev pub invariant-loop-var : goal.invariant-loop-var
invariant-loop-var l = record {
  sum : l.objects ≡ sum_by (λ v. v.parts) (take l.var-index l.vars);
  below : l.objects ≤ 4294967296 * l.var-index;
}
