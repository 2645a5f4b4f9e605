-- the entries so far, and those that are to come
use Rattle.std.proofs.Common.{◌≡◌, ◌++◌, drop}
use Rattle.nim_template.specs.Closing.{closing_entries}
use Rattle.nim_template.proofs.closing.push_closings.Given as goal

abbrev pub invariant-loop-index : goal.invariant-loop-index
invariant-loop-index l = l.entries ++ closing_entries l.index (drop l.index l.copies) ≡ l.initial.entries ++ closing_entries 0 l.copies
