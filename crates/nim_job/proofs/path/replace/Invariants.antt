-- the others so far
use Rattle.std.proofs.Common.{◌≡◌, take}
use Rattle.std.specs.Vec.{vec_capacity}
use Rattle.nim_job.proofs.path.replace.Given as goal

abbrev pub invariant-loop-level : goal.invariant-loop-level
invariant-loop-level l = (l.levels.items ≡ take l.level-index l.others) × (vec_capacity l.levels ≡ vec_capacity l.initial.levels)
