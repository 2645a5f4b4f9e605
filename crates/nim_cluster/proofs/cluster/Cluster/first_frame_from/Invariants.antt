use Rattle.std.proofs.Common.{◌≡◌, ◌-◌, ℕ, map}
use Rattle.std.specs.List.{find, range_with_len}
use Rattle.nim_schedule.specs.declared.event.Event.TheVariants.{Data}
use Rattle.nim_lockstep.specs.Cluster.{ClusterState}
use Rattle.nim_lockstep.specs.Events.{is_enabled}
use Rattle.nim_lockstep.specs.Schedules.{frames_of}
use Rattle.nim_cluster.specs.Stands.{ClusterStands}
use Rattle.nim_cluster.proofs.cluster.Cluster.first_frame_from.Given as goal

-- it is none to the workers so far
abbrev pub invariant-loop-to : goal.invariant-loop-to
invariant-loop-to l =
    (s : ClusterState) → ClusterStands l.self s → find (is_enabled s) (frames_of s.setup.workers l.from)
    ≡ find (is_enabled s) (map (λ (to : ℕ). Data l.from to) (range_with_len l.to (s.setup.workers - l.to)))
