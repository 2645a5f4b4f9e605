-- the Resets so far
use Rattle.std.proofs.Common.{◌≡◌, ◌++◌, length}
use Rattle.nim_job.specs.Objects.{shapes_of}
use Rattle.nim_place.specs.Orders.{resets_of}
use Rattle.nim_place.specs.Directed.{directed}
use Rattle.nim_control.proofs.begin.push_resets.Given as goal

abbrev pub invariant-loop-number : goal.invariant-loop-number
invariant-loop-number l =
    l.orders.items
    ≡ l.initial.orders.items ++ directed l.number (resets_of l.sites.live l.epoch (length l.sites.live) (shapes_of l.job.vars))
