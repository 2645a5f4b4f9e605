-- the flags so far are set and counted, and the others are as they were
use Rattle.std.proofs.Common.{◌≡◌, ◌++◌, take, drop}
use Rattle.nim_patch.specs.Patches.{failing_in, flags_of}
use Rattle.nim_patch.proofs.patch.failing.Given as goal

abbrev pub invariant-loop-at : goal.invariant-loop-at
invariant-loop-at l = record {
  flags : l.flags ≡ flags_of l.map (take l.at l.preconditions) ++ drop l.at l.initial.flags;
  count : l.count ≡ failing_in l.map (take l.at l.preconditions);
}
