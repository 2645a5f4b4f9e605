-- those so far have joined
use Rattle.std.proofs.Common.{◌≡◌, ◌+◌, ◌++◌, ℕ, Bool, List, length}
use Rattle.nim_command.specs.Waits.{Group}
use Rattle.nim_queue.specs.Midway.{HasRoomForArrived, IsMidway}
use Rattle.nim_queue.specs.Stands.{KeepsGroups}
use Rattle.nim_queue.proofs.queue.BeforeQueue.join_all.Given as goal

abbrev pub invariant-loop-arrival : goal.invariant-loop-arrival
invariant-loop-arrival l = record {
  midway : (groups : List Group) (done : ℕ → Bool) → Group → HasRoomForArrived l.fn.self l.fn.arrived.items → KeepsGroups l.fn.self groups done
      → IsMidway l.fn.self l.self l.yielded groups done;
  given : l.self.given ≡ l.fn.self.given + length l.yielded;
  groups : l.self.groups ≡ l.fn.self.groups;
  whole : l.yielded ++ l.arrival-iterator.rest.items ≡ l.fn.arrived.items;
}
