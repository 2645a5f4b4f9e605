-- the ones so far are added
use Rattle.std.proofs.Common.{◌≡◌, ◌++◌, ℕ, ◌+◌, ◌<◌, ◌^◌, List, length, map}
use Rattle.std.specs.Option.{option_map}
use Rattle.nim_base.specs.declared.number.Slot.{Slot}
use Rattle.nim_queue.specs.Used.{used_in}
use Rattle.nim_queue.specs.Arrived.{reading_of}
use Rattle.nim_queue.specs.Joined.{AreBrief, more_read, gathered_reads}
use Rattle.nim_queue.proofs.join.read.Given as goal

abbrev pub invariant-loop-reading : goal.invariant-loop-reading
invariant-loop-reading l = record {
  added : (k n : ℕ) (d : List Slot) → AreBrief (used_in l.fn.slots.items) k → l.fn.reads.items ≡ map (reading_of n) d → k + length d < 2 ^ 63
      → ((t : ℕ) → used_in l.slots.items t ≡ option_map (more_read (gathered_reads t l.yielded)) (used_in l.fn.slots.items t))
      × AreBrief (used_in l.slots.items) (k + length l.yielded);
  whole : l.yielded ++ l.reading-iterator ≡ l.fn.reads.items;
}
