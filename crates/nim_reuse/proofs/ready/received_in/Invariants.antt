-- the objects so far
use Rattle.std.proofs.Common.{◌≡◌, take}
use Rattle.nim_reuse.specs.Received.{received_in}
use Rattle.nim_reuse.proofs.ready.received_in.Given as goal

abbrev pub invariant-loop-entry : goal.invariant-loop-entry
invariant-loop-entry l = l.objects.items ≡ received_in (take l.entry-index l.half)
