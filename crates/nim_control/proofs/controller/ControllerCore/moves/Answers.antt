use Rattle.std.proofs.Common.{◌∙◌, sym}
use Rattle.nim_control.proofs.Moving.{keeps_on, left_down, moved_free, none_given, on_err, one_moved}
use Rattle.nim_control.proofs.controller.ControllerCore.moves.Goals as goal

pub loop-self-smaller : goal.loop-self-smaller
loop-self-smaller c = left_down c.loop-self.self c.advance.new.self (sym c.is_held_up.ensures ∙ c.loop-self-test.true) c.in_ok-advance.ensures.moved

pub loop-self-preserved : goal.loop-self-preserved
loop-self-preserved c = record {
  moved =
      one_moved c.args.self.now c.loop-self.self c.advance.new.self c.loop-self.orders.items c.advance.new.orders.items
      (sym c.is_held_up.ensures ∙ c.loop-self-test.true) c.in_ok-advance.ensures.orders c.in_ok-advance.ensures.moved c.loop-self.invariant.moved;
  keeps = keeps_on c.args.self.now c.loop-self.self c.advance.new.self c.loop-self.invariant.keeps c.in_ok-advance.ensures.keeps;
}

pub returns-in_err-advance-clause-free : goal.returns-in_err-advance-clause-free
returns-in_err-advance-clause-free c =
    on_err c.from_residual.result
    (moved_free c.args.self.now c.loop-self.self c.loop-self.orders.items c.loop-self.invariant.moved (sym c.is_held_up.ensures ∙ c.loop-self-test.true))

pub returns-clause-nothing : goal.returns-clause-nothing
returns-clause-nothing c = λ held. none_given c.args.self.now c.loop-self.self c.loop-self.orders.items c.loop-self.invariant.moved held
