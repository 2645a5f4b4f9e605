-- what is left of the flights behind a place, once all are told, is what the whole list is then
use Rattle.std.proofs.Common.{◌≡◌, ◌≤◌, ◌-◌, ◌++◌, drop, length, take}
use Rattle.nim_course.specs.Reports.{flight_through}
use Rattle.nim_control.proofs.told.tell_through.Given as goal

abbrev pub invariant-loop-at : goal.invariant-loop-at
invariant-loop-at l = record {
  told : take l.at l.flights.items ++ flight_through l.from l.instance (drop l.at l.flights.items)
      ≡ flight_through l.from l.instance l.initial.flights.items;
  within : l.at ≤ length l.flights.items;
}

abbrev pub decreases-loop-at : goal.decreases-loop-at
decreases-loop-at l = length l.flights.items - l.at
