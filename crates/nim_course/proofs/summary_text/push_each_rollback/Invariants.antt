-- the lines written so far, and those that are left, are all lines
use Rattle.std.proofs.Common.{◌≡◌, ◌++◌, drop}
use Rattle.nim_course.specs.SummaryText.{rollback_lines}
use Rattle.nim_course.proofs.summary_text.push_each_rollback.Given as goal

abbrev pub invariant-loop-number : goal.invariant-loop-number
invariant-loop-number l = l.text.items ++ rollback_lines l.number (drop l.number l.rollbacks) ≡ l.initial.text.items ++ rollback_lines 0 l.rollbacks
