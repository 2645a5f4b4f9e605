-- the commands so far, and those that are to come
use Rattle.std.proofs.Common.{◌≡◌, ◌≤◌, ◌++◌, drop}
use Rattle.nim_command.specs.Expansion.{copied}
use Rattle.nim_command.proofs.expansion.copied.Given as goal

abbrev pub invariant-loop-part : goal.invariant-loop-part
invariant-loop-part l = record {
  taken : l.taken ≤ l.part-index;
  commands : l.commands.items ++ copied l.versions l.taken (drop l.part-index l.parts) ≡ copied l.versions 0 l.parts;
}
