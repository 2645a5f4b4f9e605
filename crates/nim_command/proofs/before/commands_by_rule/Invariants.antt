-- the commands so far have the before sets of the rule, and their last uses are kept
use Rattle.std.proofs.Common.{◌≡◌, [], map}
use Rattle.nim_command.specs.Before.{footprint_of}
use Rattle.nim_command.specs.LastUses.{IsPastOf}
use Rattle.nim_command.specs.Ruled.{commands_by_rule}
use Rattle.nim_command.proofs.before.commands_by_rule.Given as goal

abbrev pub invariant-loop-command : goal.invariant-loop-command
invariant-loop-command l = record {
  ruled : l.done.items ≡ commands_by_rule [] l.yielded;
  uses : IsPastOf l.uses (map footprint_of l.done.items);
}
