-- where the objects of the variables so far are, and the first object of the next one
use Rattle.std.proofs.Common.{◌≡◌, map, take}
use Rattle.std.specs.List.{range_with_len}
use Rattle.nim_job.specs.Machine.{span_of}
use Rattle.nim_job.specs.Objects.{objects_of}
use Rattle.nim_job.proofs.span.spans.Given as goal

abbrev pub invariant-loop-var : goal.invariant-loop-var
invariant-loop-var l = record {
  spans : l.spans.items ≡ map (span_of l.vars) (range_with_len 0 l.var-index);
  first : l.first ≡ objects_of (take l.var-index l.vars);
}
