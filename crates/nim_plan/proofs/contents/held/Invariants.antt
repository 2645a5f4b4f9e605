-- what the current slot holds at the place is what was asked for
use Rattle.std.proofs.Common.{◌≡◌, ◌≤◌}
use Rattle.nim_command.specs.Holds as spec
use Rattle.nim_plan.proofs.contents.held.Given as goal

abbrev pub invariant-loop-at : goal.invariant-loop-at
invariant-loop-at l = record {
  within : l.at ≤ l.before;
  same : spec.holds l.commands l.at l.current ≡ spec.holds l.commands l.before l.fn.slot;
}

abbrev pub decreases-loop-at : goal.decreases-loop-at
decreases-loop-at l = l.at
