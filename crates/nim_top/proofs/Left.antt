-- What is left of a run of a plan.
use Rattle.std.proofs.Common.{◌≡◌, ℕ, Bool, true, false, Option, Some, List, refl, sym, true≢false}
use Rattle.std.specs.Prelude.{if◌then◌else◌}
use Rattle.nim_course.specs.declared.outcome.Outcome as course
use Rattle.nim_course.specs.declared.outcome.Outcome.TheVariants as came
use Rattle.nim_course.specs.declared.setup.Setup.{Setup}
use Rattle.nim_lockstep.specs.Cluster.{ClusterState}
use Rattle.nim_lockstep.specs.InStep.{IsInStep}
use Rattle.nim_lockstep.specs.Schedules.{IsRunBy}
use Rattle.nim_cluster.specs.declared.cluster.Cluster.{Cluster}
use Rattle.nim_cluster.specs.Stands.{ClusterStands}
use Rattle.nim_top.specs.Answer.{came_to, has_run, status_of}
use Rattle.nim_top.specs.Parts.{Leaves, LeavesIf, MayPrint}
use Rattle.nim_top.specs.declared.read.Plan.{Plan}
use Rattle.nim_top.specs.declared.status.Outcome.{Outcome}
use Rattle.nim_top.specs.declared.status.Outcome.TheVariants.{Done, Memory, Write}

-- a plan was followed, and its cluster is kept where the status says so
pub left_run : (plan : Plan) (setup : Setup) (status : ℕ) (s : ClusterState) (cluster : Cluster) (old : Option Cluster)
    → IsRunBy plan.job setup plan.schedule.items s → ClusterStands cluster s → IsInStep s → (has_run status ≡ true → s.control.outcome ≡ came_to status)
    → Leaves plan setup status old (if has_run status then Some cluster else old)
left_run plan setup status s cluster old run stands step ended = by_flag (has_run status) ended where
  by_flag : (flag : Bool) → (flag ≡ true → s.control.outcome ≡ came_to status) → LeavesIf flag plan setup status old (if flag then Some cluster else old)
  by_flag true ended = record { state = s; run = run; stands = stands; in_step = step; ended = ended refl }
  by_flag false ended = refl

-- a job whose bytes were written, or the front of them, is done
pub came_done : (end : Option course.Outcome) (bytes : List ℕ) (old new : Option (List ℕ)) (old_faults new_faults : ℕ) (outcome : Outcome)
    → end ≡ Some came.Done → MayPrint bytes old new old_faults new_faults outcome → has_run (status_of outcome) ≡ true
    → end ≡ came_to (status_of outcome)
came_done end bytes old new old_faults new_faults Done is prints ran = is
came_done end bytes old new old_faults new_faults Write is prints ran = is
came_done end bytes old new old_faults new_faults Memory is prints ran = absurd (true≢false (sym ran))
came_done end bytes old new old_faults new_faults outcome is prints ran = absurd prints
