-- what is left in the end is the same
use Rattle.std.proofs.Common.{◌≡◌, length, nat_eq}
use Rattle.std.specs.HashMap.{get}
use Rattle.nim_queue.specs.Joined.{without_front}
use Rattle.nim_queue.proofs.room.drop_front.Given as goal

abbrev pub invariant-loop-readers : goal.invariant-loop-readers
invariant-loop-readers l = without_front (get nat_eq l.waiting) l.readers ≡ without_front (get nat_eq l.waiting) l.fn.readers

abbrev pub decreases-loop-readers : goal.decreases-loop-readers
decreases-loop-readers l = length l.readers
