use Rattle.std.proofs.Common.{◌≡◌, ◌≤◌, drop, length}
use Rattle.nim_check.specs.Body.{bodies_in, bodies_of}
use Rattle.nim_check.proofs.body.make_body.Given as goal

abbrev pub invariant-loop-left : goal.invariant-loop-left
invariant-loop-left l = record {
  within : l.left ≤ length l.lines;
  bodies : bodies_in l.bodies.items ≡ bodies_of l.names (drop l.left l.lines);
}

abbrev pub decreases-loop-left : goal.decreases-loop-left
decreases-loop-left l = l.left
