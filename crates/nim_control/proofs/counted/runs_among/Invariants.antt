-- the runs of the commands so far, which are no more than these
use Rattle.std.proofs.Common.{◌≡◌, ◌≤◌, take}
use Rattle.nim_course.specs.Summaries.{runs_among}
use Rattle.nim_control.proofs.counted.runs_among.Given as goal

abbrev pub invariant-loop-command : goal.invariant-loop-command
invariant-loop-command l = (l.runs ≡ runs_among (take l.command-index l.commands)) × (l.runs ≤ l.command-index)
