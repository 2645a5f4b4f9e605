-- what was fetched so far
use Rattle.nim_control.proofs.Fetches.{AreFetched}
use Rattle.nim_control.proofs.fetch.fetch_objects.Given as goal

abbrev pub invariant-loop-part : goal.invariant-loop-part
invariant-loop-part l =
    AreFetched l.sites.versions l.epoch l.ticket l.first l.initial.orders.items l.next l.part l.orders.items l.fetched.items
