-- the entries so far, and those that are to come
use Rattle.std.proofs.Common.{◌≡◌, ◌++◌, drop}
use Rattle.nim_command.specs.Edits.{return_receives}
use Rattle.nim_command.proofs.moved.return_receives.Given as goal

abbrev pub invariant-loop-index : goal.invariant-loop-index
invariant-loop-index l = l.entries.items ++ return_receives l.task l.index (drop l.index l.objects) ≡ return_receives l.task 0 l.objects
