use Rattle.nim_template.proofs.Ranges.{slots_pushed}
use Rattle.nim_template.proofs.slots.push_slots.Goals as goal

pub loop-number-preserved : goal.loop-number-preserved
loop-number-preserved c =
    slots_pushed c.args.slots.now.items c.loop-number.slots.items c.push.new.self.items c.args.worker c.loop-number.number c.loop-number.invariant
    c.in_ok-push.ensures.items
