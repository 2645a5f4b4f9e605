-- the entries of the commands so far
use Rattle.std.proofs.Common.{◌≡◌, ◌++◌, take}
use Rattle.std.specs.List.{flat_map}
use Rattle.nim_template.specs.Walk.{entry_for}
use Rattle.nim_template.proofs.entry.push_all.Given as goal

abbrev pub invariant-loop-command : goal.invariant-loop-command
invariant-loop-command l = l.entries ≡ l.initial.entries ++ flat_map (entry_for l.form) (take l.command-index l.commands)
