use Rattle.std.proofs.Common.{◌≡◌, [], replicate}
use Rattle.nim_cluster.specs.Stands.{queued_frames}
use Rattle.nim_cluster.proofs.node.no_frames.Given as goal

-- none from so many workers
abbrev pub invariant-loop : goal.invariant-loop
invariant-loop l = queued_frames l.frames.items ≡ replicate l.counter []
