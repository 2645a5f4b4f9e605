use Rattle.std.proofs.Common.{◌≡◌, true, map}
use Rattle.std.specs.List.{list_all, range_with_len}
use Rattle.nim_job.specs.Tasks.{object_meant}
use Rattle.nim_job.specs.Whole.{are_distinct}
use Rattle.nim_job.proofs.wholeness.blocks.has_distinct.Given as goal

abbrev pub invariant-loop-index : goal.invariant-loop-index
invariant-loop-index l = list_all (λ i. are_distinct (map (object_meant l.vars i) l.stage.writes)) (range_with_len 0 l.index) ≡ true
