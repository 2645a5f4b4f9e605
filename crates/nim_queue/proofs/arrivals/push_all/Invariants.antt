-- those so far are there
use Rattle.std.proofs.Common.{◌≡◌, ◌++◌, take}
use Rattle.nim_queue.proofs.arrivals.push_all.Given as goal

abbrev pub invariant-loop-ticket : goal.invariant-loop-ticket
invariant-loop-ticket l = l.tickets ≡ l.fn.tickets ++ take l.ticket-index l.more
