-- the texts of the parts so far, and of those from one on
use Rattle.std.proofs.Common.{◌≡◌, ◌++◌, drop, map}
use Rattle.nim_job.specs.Step.{part_texts}
use Rattle.nim_course.specs.Moves.{value_in}
use Rattle.nim_control.proofs.told.texts.Given as goal

abbrev pub invariant-loop-one : goal.invariant-loop-one
invariant-loop-one l = record {
  part : l.part ≡ l.one-index;
  texts : l.text.items ++ part_texts l.name l.one-index (map value_in (drop l.one-index l.fetched)) ≡ part_texts l.name 0 (map value_in l.fetched);
}
