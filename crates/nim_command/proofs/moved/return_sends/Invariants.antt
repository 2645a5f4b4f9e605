-- the entries so far, and those that are to come
use Rattle.std.proofs.Common.{◌≡◌, ◌++◌, drop}
use Rattle.nim_command.specs.Edits.{return_sends}
use Rattle.nim_command.proofs.moved.return_sends.Given as goal

abbrev pub invariant-loop-index : goal.invariant-loop-index
invariant-loop-index l = l.entries.items ++ return_sends l.task l.home l.index (drop l.index l.objects) ≡ return_sends l.task l.home 0 l.objects
