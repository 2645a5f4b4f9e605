-- the first objects so far, and the next one
use Rattle.std.proofs.Common.{◌≡◌, ◌<◌, ℕ, length, take, get_or}
use Rattle.nim_job.specs.Objects.{first_object, objects_of}
use Rattle.nim_job.proofs.layout.Layout.new.Given as goal

abbrev pub invariant-loop-var : goal.invariant-loop-var
invariant-loop-var l = record {
  next : l.next ≡ objects_of (take l.var-index l.vars);
  length : length l.firsts.items ≡ l.var-index;
  each : (k : ℕ) → k < l.var-index → get_or l.firsts.items k 0 ≡ first_object l.vars k;
}
