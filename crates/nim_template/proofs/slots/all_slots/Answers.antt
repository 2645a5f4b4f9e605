use Rattle.nim_template.proofs.Ranges.{all_pushed}
use Rattle.nim_template.proofs.slots.all_slots.Goals as goal

pub loop-number-preserved : goal.loop-number-preserved
loop-number-preserved c =
    all_pushed c.loop-number.slots.items c.push_slots.new.slots.items c.loop-number.number c.args.objects c.loop-number.invariant c.in_ok-push_slots.ensures
