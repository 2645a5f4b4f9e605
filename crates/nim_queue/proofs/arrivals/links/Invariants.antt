-- the links of the tickets so far
use Rattle.std.proofs.Common.{◌≡◌, take, map}
use Rattle.nim_queue.specs.Arrived.{link_to}
use Rattle.nim_queue.proofs.arrivals.links.Given as goal

abbrev pub invariant-loop-earlier : goal.invariant-loop-earlier
invariant-loop-earlier l = l.waits.items ≡ map (link_to l.later) (take l.earlier-index l.tickets)
