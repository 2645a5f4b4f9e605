use Rattle.std.proofs.Common.{length}
use Rattle.nim_job.specs.Objects.{shapes_of}
use Rattle.nim_place.specs.Orders.{resets_of}
use Rattle.nim_place.proofs.Directed.{directed_pushed}
use Rattle.nim_control.proofs.begin.push_resets.Goals as goal

pub loop-number-preserved : goal.loop-number-preserved
loop-number-preserved c =
    directed_pushed (resets_of c.args.sites.now.live c.args.epoch (length c.args.sites.now.live) (shapes_of c.args.job.now.vars)) c.loop-number.number
    c.args.orders.now.items c.loop-number.orders.items c.push_reset.new.orders.items c.loop-number.invariant c.in_ok-push_reset.ensures
