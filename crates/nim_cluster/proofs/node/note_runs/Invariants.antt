use Rattle.std.proofs.Common.{◌≡◌, ◌++◌, map, take}
use Rattle.nim_worker.specs.Runs.{all_read_by}
use Rattle.nim_cluster.specs.Stands.{ran_at}
use Rattle.nim_cluster.proofs.node.note_runs.Given as goal

-- the runs of the works so far are behind the trace
abbrev pub invariant-loop-work : goal.invariant-loop-work
invariant-loop-work l =
    l.trace.items ≡ l.fn.trace.items ++ map (ran_at l.worker l.batch.epoch) (all_read_by (take l.work-index l.batch.works.items))
