-- the slots that are free behind the place, and the places from it on that are waited for
use Rattle.std.proofs.Common.{◌≡◌, ◌≤◌, ◌-◌, reverse}
use Rattle.std.specs.Prelude.{slice_range}
use Rattle.std.specs.List.{filter, range_with_len}
use Rattle.nim_command.specs.Waits.{waits_for}
use Rattle.nim_plan.specs.Free.{free_slots}
use Rattle.nim_plan.proofs.waits.waits.Given as goal

abbrev pub invariant-loop-at : goal.invariant-loop-at
invariant-loop-at l = record {
  within : l.at ≤ l.place;
  free : l.free.items ≡ free_slots (slice_range l.members l.at l.place) l.later.command.kind;
  waits : reverse l.waits.items ≡ filter (waits_for l.members l.place) (range_with_len l.at (l.place - l.at));
}

abbrev pub decreases-loop-at : goal.decreases-loop-at
decreases-loop-at l = l.at
