use Rattle.std.proofs.Common.{rules}
use Rattle.nim_queue.proofs.Slots.{filled_up}
use Rattle.nim_queue.proofs.slot_use.reach.Goals as goal

pub returns-in_ok-resize_with-clause-uses : goal.returns-in_ok-resize_with-clause-uses
returns-in_ok-resize_with-clause-uses c =
    filled_up _ (λ f y g ran. search rules) c.args.slots.now.items c.resize_with.new.self.items _ _ (search rules) c.in_ok-resize_with.ensures.items
