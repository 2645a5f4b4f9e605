use Rattle.std.proofs.Common.{sym}
use Rattle.nim_cluster.proofs.Idle.{no_frame}
use Rattle.nim_cluster.proofs.cluster.Cluster.first_frame.Goals as goal

pub returns-then-not-has_frames : goal.returns-then-not-has_frames
returns-then-not-has_frames c = λ s stands. sym (no_frame s (c.has_frames.ensures s stands c.if-not-has_frames.true))
