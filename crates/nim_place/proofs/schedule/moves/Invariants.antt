-- what has to move for the reads so far, and for those that are to come
use Rattle.std.proofs.Common.{◌≡◌, [], ◌++◌, take, drop}
use Rattle.nim_place.specs.Schedule.{moves}
use Rattle.nim_place.proofs.schedule.moves.Given as goal

abbrev pub invariant-loop-index : goal.invariant-loop-index
invariant-loop-index l = l.moved.items ++ moves l.map l.owner (take l.index l.reads) (drop l.index l.reads) ≡ moves l.map l.owner [] l.reads
