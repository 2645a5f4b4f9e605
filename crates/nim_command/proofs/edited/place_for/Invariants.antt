-- no entry before the place has a greater number
use Rattle.std.proofs.Common.{◌≡◌, ◌≤◌, ◌+◌, ◌-◌, length, drop}
use Rattle.nim_command.specs.Edits.{place_for}
use Rattle.nim_command.proofs.edited.place_for.Given as goal

abbrev pub invariant-loop-place : goal.invariant-loop-place
invariant-loop-place l = record {
  within : l.place ≤ length l.entries;
  before : l.place + place_for (drop l.place l.entries) l.number ≡ place_for l.entries l.number;
}

abbrev pub decreases-loop-place : goal.decreases-loop-place
decreases-loop-place l = length l.entries - l.place
