-- The controller takes the next report of a worker.
use Rattle.std.proofs.Common.{◌≡◌, ℕ, List, [], ◌∷◌, Some, All, ◌∙◌}
use Rattle.std.specs.Prelude.{slice_get, slice_set}
use Rattle.std.proofs.lemmas.List.{length-set}
use Rattle.std.proofs.lemmas.List.Elements.{All-tail, All-weaker}
use Rattle.nim_message.specs.declared.order.ToWorker.{ToWorker}
use Rattle.nim_message.specs.declared.report.FromWorker.{FromWorker}
use Rattle.nim_job.specs.declared.job.Job.{Job}
use Rattle.nim_plan.specs.Good.{IsGood}
use Rattle.nim_place.specs.Directed.{orders_to}
use Rattle.nim_lockstep.specs.declared.ran.Ran.{Ran}
use Rattle.nim_lockstep.specs.Cluster.{ClusterState, Node}
use Rattle.nim_lockstep.specs.Events.{report_taken}
use Rattle.nim_lockstep.proofs.NodesAt.{GoesWell, Way, done_set, each_set}
use Rattle.nim_lockstep.proofs.UnderWay.{IsDone, IsNodeUnderWay, IsTold}

-- a worker with one report less
less_way : (job : Job) (workers number : ℕ) (trace : List Ran) (orders : List ToWorker) (report : FromWorker) (rest : List FromWorker) (node : Node)
    → All (IsGood job) (report ∷ rest) → All (IsTold orders trace) (report ∷ rest) → IsNodeUnderWay job workers number trace orders node
    → IsNodeUnderWay job workers number trace orders (record node { reports = rest })
less_way job workers number trace orders report rest node good told is = record {
  link = is.link;
  history = is.history;
  handed = is.handed;
  senders = is.senders;
  waiting = record { reports = All-tail (IsGood job) report rest good; frames = is.waiting.frames };
  ran = is.ran;
  told = All-tail (IsTold orders trace) report rest told;
  batch = is.batch;
}

pub report_well : (s : ClusterState) (worker : ℕ) (node : Node) (reports : List FromWorker) → GoesWell s.job s → slice_get s.nodes worker ≡ Some node
    → All (IsGood s.job) reports → All (IsTold (orders_to worker s.put) s.trace) reports → GoesWell s.job (report_taken worker node reports s)
report_well s worker node [] well there good told = well
report_well s worker node (report ∷ rest) well there good told =
    let new : Node = record node { reports = rest } in
    record {
      nodes = record {
        nodes = length-set s.nodes worker new ∙ well.nodes.nodes;
        each = each_set (Way s.job s.setup.workers s.trace s.put) (Way s.job s.setup.workers s.trace s.put) s.nodes worker node new well.nodes.each there
            (less_way s.job s.setup.workers worker s.trace (orders_to worker s.put) report rest node good told (well.nodes.each worker node there))
            (λ number other is. is);
      };
      done = All-weaker (IsDone s.nodes) (IsDone (slice_set s.nodes worker new))
          (λ ran is. done_set s.nodes worker node new ran there
          (λ done. record { place = done.place; complete = done.complete; runs = done.runs }) is) s.trace well.done;
      reads = well.reads;
    }
