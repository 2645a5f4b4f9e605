use Rattle.nim_cluster.proofs.Idle.{AreEmpty}
use Rattle.nim_cluster.proofs.node.any_frames.Given as goal

-- the queues so far are empty
abbrev pub invariant-loop-queue : goal.invariant-loop-queue
invariant-loop-queue l = AreEmpty l.queue-index l.queues
