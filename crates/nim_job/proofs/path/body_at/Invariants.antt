-- where the levels so far lead
use Rattle.std.proofs.Common.{◌≡◌, take}
use Rattle.nim_job.specs.Levels.{spot_of}
use Rattle.nim_job.proofs.path.body_at.Given as goal

abbrev pub invariant-loop-level : goal.invariant-loop-level
invariant-loop-level l = (l.body ≡ (spot_of l.whole (take l.level-index l.levels)).body) × (l.next ≡ (spot_of l.whole (take l.level-index l.levels)).level.next)
