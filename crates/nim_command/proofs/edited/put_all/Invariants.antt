-- the entries so far are put in
use Rattle.std.proofs.Common.{◌≡◌}
use Rattle.std.specs.List.{fold}
use Rattle.nim_command.specs.Edits.{with_entry}
use Rattle.nim_command.proofs.edited.put_all.Given as goal

abbrev pub invariant-loop-entry : goal.invariant-loop-entry
invariant-loop-entry l = l.entries.items ≡ fold with_entry l.initial.entries.items l.yielded
