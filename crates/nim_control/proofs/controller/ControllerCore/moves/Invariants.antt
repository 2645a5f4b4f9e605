-- the moves so far
use Rattle.nim_course.specs.Moves.{IsMoved}
use Rattle.nim_control.specs.Keeps.{Keeps}
use Rattle.nim_control.proofs.Moving.{left_of}
use Rattle.nim_control.proofs.controller.ControllerCore.moves.Given as goal

abbrev pub invariant-loop-self : goal.invariant-loop-self
invariant-loop-self l = record {
  moved : IsMoved l.initial.self l.orders.items l.self;
  keeps : Keeps l.initial.self l.self;
}

abbrev pub decreases-loop-self : goal.decreases-loop-self
decreases-loop-self l = left_of l.self
