-- the entries so far have the before sets of the rule, and their last uses are kept
use Rattle.std.proofs.Common.{◌≡◌, ◌++◌, [], drop, map, take}
use Rattle.nim_command.specs.LastUses.{IsPastOf}
use Rattle.nim_command.specs.Ruled.{entries_by_rule, entry_footprint}
use Rattle.nim_command.proofs.before.entries_by_rule.Given as goal

abbrev pub invariant-loop-index : goal.invariant-loop-index
invariant-loop-index l = record {
  ruled : l.entries.items ≡ entries_by_rule [] (take l.index l.fn.entries.items) ++ drop l.index l.fn.entries.items;
  uses : IsPastOf l.uses (map entry_footprint (take l.index l.entries.items));
}
