-- the orders so far are counted
use Rattle.std.proofs.Common.{◌≡◌, take}
use Rattle.nim_course.specs.Summaries.{orders_counted}
use Rattle.nim_control.proofs.counted.count_orders.Given as goal

abbrev pub invariant-loop-given : goal.invariant-loop-given
invariant-loop-given l = l.summary ≡ orders_counted l.decisions (take l.given-index l.orders) l.initial.summary
