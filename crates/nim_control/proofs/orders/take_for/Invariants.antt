-- what was taken so far and what is still to be taken, and what is left
use Rattle.std.proofs.Common.{◌≡◌, ◌≤◌, ◌-◌, ◌++◌, drop, length, take}
use Rattle.std.specs.List.{filter}
use Rattle.nim_place.specs.Stands.{commands_for}
use Rattle.nim_control.proofs.Taken.{is_other}
use Rattle.nim_control.proofs.orders.take_for.Given as goal

abbrev pub invariant-loop-at : goal.invariant-loop-at
invariant-loop-at l = record {
  taken : l.taken.items ++ commands_for l.worker (drop l.at l.commands.items) ≡ commands_for l.worker l.initial.commands.items;
  left : take l.at l.commands.items ++ filter (is_other l.worker.0) (drop l.at l.commands.items)
      ≡ filter (is_other l.worker.0) l.initial.commands.items;
  within : l.at ≤ length l.commands.items;
}

abbrev pub decreases-loop-at : goal.decreases-loop-at
decreases-loop-at l = length l.commands.items - l.at
