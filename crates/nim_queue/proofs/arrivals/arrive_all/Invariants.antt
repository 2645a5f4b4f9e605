-- the commands so far have arrived
use Rattle.std.proofs.Common.{◌≡◌, ◌+◌, ℕ, [], length, nat_eq}
use Rattle.std.specs.Prelude.{unwrap_or}
use Rattle.std.specs.HashMap.{get}
use Rattle.std.specs.HashSet as bag
use Rattle.nim_queue.specs.Used.{used_in}
use Rattle.nim_queue.specs.Arrived.{HaveArrived, commands_of, is_written_in, named_in}
use Rattle.nim_queue.proofs.arrivals.arrive_all.Given as goal

abbrev pub invariant-loop-command : goal.invariant-loop-command
invariant-loop-command l = record {
  ticket : l.ticket ≡ l.first + length l.yielded;
  numbers : (n : ℕ) → unwrap_or (get nat_eq l.arrivals.numbers n) [] ≡ named_in l.first l.yielded n;
  written : (s : ℕ) → bag.contains nat_eq l.arrivals.written s ≡ is_written_in l.yielded s;
  commands : commands_of l.arrived.items ≡ l.yielded;
  arrived : HaveArrived (get nat_eq l.waiting) (used_in l.slots.items) l.first [] l.arrived.items;
}
