-- the offset so far, and what the tasks that are to come make of it
use Rattle.std.proofs.Common.{◌≡◌, drop}
use Rattle.nim_edit.specs.Moves.{offset_behind}
use Rattle.nim_edit.proofs.edits.offset_behind.Given as goal

abbrev pub invariant-loop-number : goal.invariant-loop-number
invariant-loop-number l = offset_behind l.offset l.number l.object (drop l.number l.past) ≡ offset_behind 0 0 l.object l.past
