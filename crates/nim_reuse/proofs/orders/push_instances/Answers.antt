use Rattle.nim_place.proofs.Directed.{directed_pushed}
use Rattle.nim_template.specs.Given.{instances_of}
use Rattle.nim_reuse.proofs.orders.push_instances.Goals as goal

pub loop-number-preserved : goal.loop-number-preserved
loop-number-preserved c =
    directed_pushed
    (instances_of c.args.at.now.epoch c.args.at.now.instance c.args.ready.now c.args.at.now.base c.args.args.now c.args.map.now)
    c.loop-number.number c.args.orders.now.items c.loop-number.orders.items c.push_instance.new.orders.items c.loop-number.invariant
    c.in_ok-push_instance.ensures
