-- the ones so far are added
use Rattle.std.proofs.Common.{◌≡◌, ◌++◌, ℕ, ◌+◌, ◌<◌, ◌^◌, List, length, map, nat_eq}
use Rattle.std.specs.HashMap.{get, spare}
use Rattle.std.specs.Option.{option_map}
use Rattle.nim_queue.specs.Arrived.{link_to}
use Rattle.nim_queue.specs.Joined.{AreShort, followed, gathered}
use Rattle.nim_queue.proofs.join.follow.Given as goal

abbrev pub invariant-loop-link : goal.invariant-loop-link
invariant-loop-link l = record {
  added : (k n : ℕ) (d : List ℕ) → AreShort (get nat_eq l.fn.waiting) k → l.fn.waits.items ≡ map (link_to n) d → k + length d < 2 ^ 63
      → ((t : ℕ) → get nat_eq l.waiting t ≡ option_map (followed (gathered t l.yielded)) (get nat_eq l.fn.waiting t))
      × AreShort (get nat_eq l.waiting) (k + length l.yielded);
  whole : l.yielded ++ l.link-iterator ≡ l.fn.waits.items;
  spare : spare l.waiting ≡ spare l.fn.waiting;
}
