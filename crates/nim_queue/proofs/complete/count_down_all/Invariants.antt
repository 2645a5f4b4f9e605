-- the waits of those so far are counted down
use Rattle.std.proofs.Common.{◌≡◌, ℕ, nat_eq}
use Rattle.std.specs.HashMap.{get}
use Rattle.std.specs.Option.{option_map}
use Rattle.nim_queue.specs.Counts.{AreReleased, fewer, times}
use Rattle.nim_queue.proofs.complete.count_down_all.Given as goal

abbrev pub invariant-loop-follower : goal.invariant-loop-follower
invariant-loop-follower l = record {
  waiting : (t : ℕ) → get nat_eq l.waiting t ≡ option_map (fewer (times t l.yielded)) (get nat_eq l.fn.waiting t);
  released : (n : ℕ) → AreReleased (get nat_eq l.fn.waiting) l.fn.released n → AreReleased (get nat_eq l.waiting) l.released n;
}
