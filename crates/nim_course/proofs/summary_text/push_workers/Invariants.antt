-- the lines written so far, and those that are left, are all lines
use Rattle.std.proofs.Common.{◌≡◌, ◌++◌, drop}
use Rattle.nim_course.specs.SummaryText.{worker_lines}
use Rattle.nim_course.proofs.summary_text.push_workers.Given as goal

abbrev pub invariant-loop-number : goal.invariant-loop-number
invariant-loop-number l = l.text.items ++ worker_lines l.number (drop l.number l.workers) ≡ l.initial.text.items ++ worker_lines 0 l.workers
