-- none so far is live
use Rattle.std.proofs.Common.{◌≡◌}
use Rattle.nim_place.specs.Placement.{live_ahead}
use Rattle.nim_place.proofs.placement.live_ahead.Given as goal

abbrev pub invariant-loop-at : goal.invariant-loop-at
invariant-loop-at l = live_ahead l.live l.at ≡ live_ahead l.live l.from
