-- the commands so far, and those that are to come
use Rattle.std.proofs.Common.{◌≡◌, ◌≤◌, ◌++◌, drop}
use Rattle.nim_command.specs.Expansion.{expanded}
use Rattle.nim_command.proofs.expansion.expanded.Given as goal

abbrev pub invariant-loop-entry : goal.invariant-loop-entry
invariant-loop-entry l = record {
  taken : l.taken ≤ l.entry-index;
  commands : l.commands.items ++ expanded l.base l.args l.versions l.taken (drop l.entry-index l.entries) ≡ expanded l.base l.args l.versions 0 l.entries;
}
