-- the waits and readings of the commands so far are counted
use Rattle.std.proofs.Common.{◌≡◌, ◌+◌, ◌<◌, ◌^◌, take}
use Rattle.nim_queue.specs.Joined.{link_count}
use Rattle.nim_queue.proofs.room.count_all.Given as goal

abbrev pub invariant-loop-arrival : goal.invariant-loop-arrival
invariant-loop-arrival l = record {
  count : l.count ≡ l.links + link_count (take l.arrival-index l.arrived);
  few : l.count < 2 ^ 62;
}
