-- the lists so far
use Rattle.std.proofs.Common.{◌≡◌, []}
use Rattle.nim_template.specs.Built.{entries_by_worker}
use Rattle.nim_template.proofs.build.no_entries.Given as goal

abbrev pub invariant-loop-number : goal.invariant-loop-number
invariant-loop-number l = l.lists.items ≡ entries_by_worker l._number []
