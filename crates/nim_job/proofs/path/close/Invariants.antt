-- what is to do stays
use Rattle.std.proofs.Common.{◌≡◌, length}
use Rattle.std.specs.Vec.{vec_capacity}
use Rattle.nim_job.specs.Levels.{IsOpen, todo_of}
use Rattle.nim_job.proofs.path.close.Given as goal

abbrev pub invariant-loop-body : goal.invariant-loop-body
invariant-loop-body l = IsOpen l.whole (vec_capacity l.levels) l.levels.items × (todo_of l.whole l.levels.items ≡ todo_of l.whole l.initial.levels.items)

abbrev pub decreases-loop-body : goal.decreases-loop-body
decreases-loop-body l = length l.levels.items
