use Rattle.nim_place.proofs.Directed.{directed_pushed}
use Rattle.nim_template.specs.Given.{installs_of}
use Rattle.nim_reuse.proofs.orders.push_installs.Goals as goal

pub loop-number-preserved : goal.loop-number-preserved
loop-number-preserved c =
    directed_pushed (installs_of c.args.epoch c.args.template.now) c.loop-number.number c.args.orders.now.items c.loop-number.orders.items
    c.push_install.new.orders.items c.loop-number.invariant c.in_ok-push_install.ensures
