-- those of the workers so far
use Rattle.std.proofs.Common.{◌≡◌}
use Rattle.nim_reuse.specs.Reuse.{awaited_of}
use Rattle.nim_reuse.proofs.ready.Ready.awaited.Given as goal

abbrev pub invariant-loop-number : goal.invariant-loop-number
invariant-loop-number l = l.awaited ≡ awaited_of l.number l.self
