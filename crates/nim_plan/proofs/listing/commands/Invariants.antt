-- the commands of the places so far
use Rattle.std.proofs.Common.{◌≡◌, take}
use Rattle.std.specs.List.{range_with_len}
use Rattle.nim_command.specs.Waits.{placed}
use Rattle.nim_plan.proofs.listing.commands.Given as goal

abbrev pub invariant-loop-place : goal.invariant-loop-place
invariant-loop-place l = l.commands.items ≡ placed l.members.items (range_with_len 0 l.place) (take l.place l.members.items)
