-- What a controller and its orders keep, and the workers' half beside it.
use Rattle.std.proofs.Common.{◌≤◌, List, sym, subst}
use Rattle.std.specs.Prelude.{All}
use Rattle.nim_job.specs.declared.job.Job.{Job}
use Rattle.nim_course.specs.declared.setup.Setup.{Setup}
use Rattle.nim_course.specs.Controller.{Controller}
use Rattle.nim_place.specs.Directed.{Directed}
use Rattle.nim_course.specs.Leads.{Leads}
use Rattle.nim_lockstep.specs.Cluster.{ClusterState}
use Rattle.nim_lockstep.specs.InStep.{AreOnce, ReadsByOrder}
use Rattle.nim_lockstep.proofs.Counted.{IsCounted}
use Rattle.nim_lockstep.proofs.Course.{KeepsTo}
use Rattle.nim_lockstep.proofs.Keeping.{HasOtherNodes}
use Rattle.nim_lockstep.proofs.Settled.{EndsSettled}
use Rattle.nim_lockstep.proofs.UnderWay.{AreUnderWay, IsDone, IsUnderWay}

-- ---- the controller's half

-- what a controller and the orders that it gave keep
pub record IsPlanned (job : Job) (setup : Setup) (c : Controller) (put : List Directed) : Type 0 where
  pub least : 1 ≤ setup.workers
  pub most : setup.workers ≤ 16
  pub leads : Leads job c put
  pub keeps : KeepsTo setup c put
  pub settled : EndsSettled c

pub planned : (s : ClusterState) → IsUnderWay s → IsPlanned s.job s.setup s.control s.put
planned s under = record {
  least = under.least;
  most = under.most;
  leads = under.leads;
  keeps = record { live = under.course.live; place = under.course.place; epoch = under.course.epoch; once = under.course.once };
  settled = record { settled = under.settled; some = under.some };
}

-- its runs are accounted for
pub counted_by : (s : ClusterState) → IsUnderWay s → IsCounted s.setup s.control s.put s.trace
counted_by s under = record { accounted = under.accounted; separate = under.separate }

-- both halves
pub together : (s : ClusterState) → IsPlanned s.job s.setup s.control s.put → AreUnderWay s → IsCounted s.setup s.control s.put s.trace
    → All (IsDone s.nodes) s.trace → All (ReadsByOrder s.job) s.trace → AreOnce s.trace → IsUnderWay s
together s plan nodes counted done reads once = record {
  least = plan.least;
  most = plan.most;
  leads = plan.leads;
  course = record { live = plan.keeps.live; place = plan.keeps.place; epoch = plan.keeps.epoch; once = plan.keeps.once };
  nodes = nodes;
  accounted = counted.accounted;
  separate = counted.separate;
  settled = plan.settled.settled;
  some = plan.settled.some;
  done = done;
  reads = reads;
  once = once;
}

-- where only the workers change
beside_planned : (before after : ClusterState) → HasOtherNodes before after → IsPlanned before.job before.setup before.control before.put
    → IsPlanned after.job after.setup after.control after.put
beside_planned before after beside plan =
    subst (λ (job : Job). IsPlanned job after.setup after.control after.put) (sym beside.job)
    (subst (λ (setup : Setup). IsPlanned before.job setup after.control after.put) (sym beside.setup)
    (subst (λ (c : Controller). IsPlanned before.job before.setup c after.put) (sym beside.control)
    (subst (IsPlanned before.job before.setup before.control) (sym beside.put) plan)))

beside_counted : (before after : ClusterState) → HasOtherNodes before after → IsCounted before.setup before.control before.put before.trace
    → IsCounted after.setup after.control after.put after.trace
beside_counted before after beside counted =
    subst (λ (setup : Setup). IsCounted setup after.control after.put after.trace) (sym beside.setup)
    (subst (λ (c : Controller). IsCounted before.setup c after.put after.trace) (sym beside.control)
    (subst (λ (put : List Directed). IsCounted before.setup before.control put after.trace) (sym beside.put)
    (subst (IsCounted before.setup before.control before.put) (sym beside.trace) counted)))

-- from a cluster where all but the workers is right
pub beside_goes : (before after : ClusterState) → HasOtherNodes before after → IsPlanned before.job before.setup before.control before.put
    → IsCounted before.setup before.control before.put before.trace → AreOnce before.trace → AreUnderWay after
    → All (IsDone after.nodes) after.trace → All (ReadsByOrder before.job) after.trace → IsUnderWay after
beside_goes before after beside plan counted once nodes done reads =
    together after (beside_planned before after beside plan) nodes (beside_counted before after beside counted) done
    (subst (λ (job : Job). All (ReadsByOrder job) after.trace) (sym beside.job) reads) (subst AreOnce (sym beside.trace) once)
