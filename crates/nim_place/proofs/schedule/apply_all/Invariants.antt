-- the commands so far are taken in
use Rattle.std.proofs.Common.{◌≡◌, take}
use Rattle.nim_place.specs.Versions.{after_commands}
use Rattle.nim_place.proofs.schedule.apply_all.Given as goal

abbrev pub invariant-loop-command : goal.invariant-loop-command
invariant-loop-command l = l.map ≡ after_commands l.initial.map (take l.command-index l.commands)
