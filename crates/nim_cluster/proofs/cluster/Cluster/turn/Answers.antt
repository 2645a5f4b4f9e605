use Rattle.nim_cluster.proofs.Answered.{when_ok}
use Rattle.nim_cluster.proofs.Events.{stands_turning, turned_so}
use Rattle.std.specs.List.{fold}
use Rattle.nim_lockstep.specs.Events.{order_sent}
use Rattle.nim_lockstep.proofs.Keeping.{turned_to}
use Rattle.nim_cluster.proofs.cluster.Cluster.turn.Goals as goal

pub returns-clause-turned : goal.returns-clause-turned
returns-clause-turned c = λ s stands.
    let old = c.args.self.now in
    let orders = c.in_ok-orders.orders.items in
    let between = turned_to s c.turn.new.self orders in
    when_ok c.put_orders.result (c.put_orders.ensures.stands between (stands_turning old c.turn.new.self s orders stands c.in_ok-orders.ensures.turned))
    (λ ok after.
    (fold order_sent between orders, (turned_so old c.turn.new.self s orders stands c.in_ok-orders.ensures.turned, after)))
