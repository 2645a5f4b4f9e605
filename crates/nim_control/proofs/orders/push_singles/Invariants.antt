-- the orders so far, and the commands that are left
use Rattle.std.proofs.Common.{◌≡◌, ◌≤◌, ◌++◌}
use Rattle.nim_base.specs.declared.number.Worker.{Worker}
use Rattle.nim_place.specs.Extends.{singles_of}
use Rattle.nim_place.specs.Stands.{commands_for}
use Rattle.nim_place.specs.Directed.{directed}
use Rattle.nim_control.proofs.orders.push_singles.Given as goal

abbrev pub invariant-loop-number : goal.invariant-loop-number
invariant-loop-number l = record {
  orders : l.orders.items ≡ l.initial.orders.items ++ directed l.number (singles_of l.epoch l.instance l.initial.left.items);
  left : (worker : Worker) → l.number ≤ worker.0 → commands_for worker l.left.items ≡ commands_for worker l.initial.left.items;
}
