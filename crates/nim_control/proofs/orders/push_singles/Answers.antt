use Rattle.std.proofs.Common.{◌++◌, ◌∙◌, List, map, ap, arith}
use Rattle.nim_command.specs.declared.command.Command.{Command}
use Rattle.nim_message.specs.declared.order.ToWorker.{ToWorker}
use Rattle.nim_place.specs.Extends.{single_with, singles_of, worker_of}
use Rattle.nim_place.specs.Stands.{commands_for}
use Rattle.nim_place.proofs.Directed.{directed_pushed}
use Rattle.nim_control.proofs.Taken.{others_there}
use Rattle.nim_control.proofs.orders.push_singles.Goals as goal

pub loop-number-preserved : goal.loop-number-preserved
loop-number-preserved c = record {
  orders =
      directed_pushed (singles_of c.args.epoch c.args.instance c.args.commands.items) c.loop-number.number c.args.orders.now.items c.loop-number.orders.items
      c.push_single.new.orders.items c.loop-number.invariant.orders
      (c.in_ok-push_single.ensures
      ∙ ap (λ (cs : List Command). c.loop-number.orders.items
      ++ map (λ (order : ToWorker). (worker_of c.loop-number.number, order)) (single_with c.args.epoch c.args.instance cs))
      (c.in_ok-taken.ensures.taken ∙ c.loop-number.invariant.left (worker_of c.loop-number.number) (omega arith)));
  left = λ worker past.
      ap (commands_for worker) c.in_ok-taken.ensures.left
      ∙ others_there c.loop-number.number worker c.loop-number.left.items (λ same. omega (arith, same, past))
      ∙ c.loop-number.invariant.left worker (omega (arith, past));
}
