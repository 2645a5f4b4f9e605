-- the lines written so far, and those that are left, are all lines
use Rattle.std.proofs.Common.{◌≡◌, ◌++◌, drop}
use Rattle.std.specs.List.{flat_map}
use Rattle.nim_course.specs.SummaryText.{edit_line}
use Rattle.nim_course.proofs.summary_text.push_edits.Given as goal

abbrev pub invariant-loop-edit : goal.invariant-loop-edit
invariant-loop-edit l = l.text.items ++ flat_map edit_line (drop l.edit-index l.edits) ≡ l.initial.text.items ++ flat_map edit_line l.edits
