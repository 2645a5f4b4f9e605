use Rattle.std.proofs.Common.{◌≡◌, ◌-◌}
use Rattle.std.specs.List.{find, flat_map, range_with_len}
use Rattle.nim_lockstep.specs.Cluster.{ClusterState}
use Rattle.nim_lockstep.specs.Events.{is_enabled}
use Rattle.nim_lockstep.specs.Schedules.{frames_of}
use Rattle.nim_cluster.specs.Stands.{ClusterStands}
use Rattle.nim_cluster.proofs.cluster.Cluster.first_waiting_frame.Given as goal

-- it is none from the workers so far
abbrev pub invariant-loop-from : goal.invariant-loop-from
invariant-loop-from l =
    (s : ClusterState) → ClusterStands l.self s → find (is_enabled s) (flat_map (frames_of s.setup.workers) (range_with_len 0 s.setup.workers))
    ≡ find (is_enabled s) (flat_map (frames_of s.setup.workers) (range_with_len l.from (s.setup.workers - l.from)))
