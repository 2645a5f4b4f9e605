-- the readings of the slots so far
use Rattle.std.proofs.Common.{◌≡◌, take, map}
use Rattle.nim_queue.specs.Arrived.{reading_of}
use Rattle.nim_queue.proofs.arrivals.readings.Given as goal

abbrev pub invariant-loop-slot : goal.invariant-loop-slot
invariant-loop-slot l = l.reads.items ≡ map (reading_of l.reader) (take l.slot-index l.slots)
