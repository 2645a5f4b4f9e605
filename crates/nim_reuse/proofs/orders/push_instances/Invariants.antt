-- the orders for an instance so far
use Rattle.std.proofs.Common.{◌≡◌, ◌++◌}
use Rattle.nim_place.specs.Directed.{directed}
use Rattle.nim_template.specs.Given.{instances_of}
use Rattle.nim_reuse.proofs.orders.push_instances.Given as goal

abbrev pub invariant-loop-number : goal.invariant-loop-number
invariant-loop-number l =
    l.orders.items ≡ l.initial.orders.items ++ directed l.number (instances_of l.at.epoch l.at.instance l.ready l.at.base l.args l.map)
