-- the bits of the reads from the place on
use Rattle.std.proofs.Common.{◌≡◌, ◌≤◌, length, map, drop}
use Rattle.nim_edit.specs.Masks.{is_left, mask_of}
use Rattle.nim_edit.proofs.mask.mask_of.Given as goal

abbrev pub invariant-loop-at : goal.invariant-loop-at
invariant-loop-at l = record {
  within : l.at ≤ length l.reads;
  mask : l.mask ≡ mask_of (map (is_left l.template l.task l.to) (drop l.at l.reads));
}

abbrev pub decreases-loop-at : goal.decreases-loop-at
decreases-loop-at l = l.at
