-- those so far that aren't taken away
use Rattle.std.proofs.Common.{◌≡◌, take}
use Rattle.nim_command.specs.Edits.{entries_kept}
use Rattle.nim_command.proofs.edited.kept.Given as goal

abbrev pub invariant-loop-entry : goal.invariant-loop-entry
invariant-loop-entry l = l.rest.items ≡ entries_kept l.edit (take l.entry-index l.entries)
