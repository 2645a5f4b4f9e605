-- none so far is open
use Rattle.std.proofs.Common.{◌≡◌, ◌+◌, drop}
use Rattle.std.specs.List.{position_or_len}
use Rattle.nim_course.specs.Moves.{is_open}
use Rattle.nim_control.proofs.told.first_open.Given as goal

abbrev pub invariant-loop-one : goal.invariant-loop-one
invariant-loop-one l = record {
  place : l.place ≡ l.one-index;
  first : l.place + position_or_len is_open (drop l.one-index l.fetched) ≡ position_or_len is_open l.fetched;
}
