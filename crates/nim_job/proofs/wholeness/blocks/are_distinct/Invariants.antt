-- what is left to look at
use Rattle.std.proofs.Common.{◌≡◌, true, length, map}
use Rattle.std.specs.List.{list_all}
use Rattle.nim_job.specs.Tasks.{object_meant}
use Rattle.nim_job.specs.Whole.{are_distinct, is_ref}
use Rattle.nim_job.proofs.wholeness.blocks.are_distinct.Given as goal

abbrev pub invariant-loop-first : goal.invariant-loop-first
invariant-loop-first l = record {
  refs : list_all (is_ref l.vars true) l.rest ≡ true;
  same : are_distinct (map (object_meant l.vars l.index) l.rest) ≡ are_distinct (map (object_meant l.vars l.index) l.refs);
}

abbrev pub decreases-loop-first : goal.decreases-loop-first
decreases-loop-first l = length l.rest
