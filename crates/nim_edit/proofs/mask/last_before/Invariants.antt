-- what the entries so far leave
use Rattle.std.proofs.Common.{◌≡◌, take}
use Rattle.nim_template.specs.Written.{last_written}
use Rattle.nim_edit.specs.Masks.{entries_before}
use Rattle.nim_edit.proofs.mask.last_before.Given as goal

abbrev pub invariant-loop-entry : goal.invariant-loop-entry
invariant-loop-entry l = l.last ≡ last_written (entries_before l.number (take l.entry-index l.entries)) l.slot
