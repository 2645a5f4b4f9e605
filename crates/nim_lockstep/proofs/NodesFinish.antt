-- A worker finishes its batch: its runs are behind the trace, and what it gave is sent.
use Rattle.std.proofs.Common.{◌≡◌, ℕ, Bool, true, false, List, [], ◌++◌, drop, length, map, ap, sym, subst, ◌∙◌, None, Some, All}
use Rattle.std.specs.Prelude.{if◌then◌else◌, slice_get, slice_set}
use Rattle.std.specs.List.{flat_map, fold}
use Rattle.std.proofs.lemmas.List.{length-set}
use Rattle.std.proofs.lemmas.List.Elements.{All-append, All-drop, All-weaker}
use Rattle.nim_command.specs.Waits.{Group}
use Rattle.nim_message.specs.declared.order.ToWorker.{ToWorker}
use Rattle.nim_message.specs.declared.report.FromWorker.{FromWorker}
use Rattle.nim_message.specs.declared.report.FromWorker.TheVariants.{Ran, Through}
use Rattle.nim_message.specs.Orders.{Session, session_of}
use Rattle.nim_job.specs.declared.job.Job.{Job}
use Rattle.nim_job.specs.Whole.{is_whole}
use Rattle.nim_course.specs.declared.pending.Pending.{Pending}
use Rattle.nim_place.specs.Directed.{orders_to}
use Rattle.nim_history.specs.declared.out.Out.{Out}
use Rattle.nim_history.specs.History.{Completed, Happening, IsHistory, WorkerState, orders_in, state_of}
use Rattle.nim_history.specs.Truth.{IsGoodOut, IsHandedTruth}
use Rattle.nim_history.proofs.GoesOn.{history_goes_on, truth_goes_on}
use Rattle.nim_history.proofs.Law.{histories_are_true}
use Rattle.nim_lockstep.specs.declared.ran.Ran.{Ran as ran_type}
use Rattle.nim_lockstep.specs.Cluster.{Batched, ClusterState, Node}
use Rattle.nim_lockstep.specs.Events.{batch_finished}
use Rattle.nim_lockstep.specs.InStep.{ReadsByOrder}
use Rattle.nim_lockstep.specs.Nodes.{finished, outs_by, runs_by}
use Rattle.nim_lockstep.proofs.NodesAt.{GoesWell, Way, done_set, each_set, still_done}
use Rattle.nim_lockstep.proofs.NodesDone.{finished_past, finished_with, runs_done}
use Rattle.nim_lockstep.proofs.NodesGiven.{done_outs, each_outs, length_outs, out_at, outs_sent_is}
use Rattle.nim_lockstep.proofs.NodesOuts.{IsToldOut, finish_orders, finish_state, given_by, more_run, outs_from, outs_told}
use Rattle.nim_lockstep.proofs.NodesRan.{batch_run, finished_traced, longer_through, longer_traced}
use Rattle.nim_lockstep.proofs.NodesThrough.{AllRun, told_front}
use Rattle.nim_lockstep.proofs.UnderWay.{AreTraced, BeginOnce, IsBatchRight, IsDone, IsNodeUnderWay, IsTold, position_at, positions_of}

-- ---- the worker that finishes

told_more : (sent : List ToWorker) (trace more : List ran_type) (report : FromWorker) → IsTold sent trace report → IsTold sent (trace ++ more) report
told_more sent trace more (Ran epoch position reads) told = more_run trace more position told
told_more sent trace more (Through epoch instance) told = longer_through (session_of sent).groups trace more instance told
told_more sent trace more report told = tt

-- a longer trace leaves the others under way
way_longer : (job : Job) (workers number : ℕ) (trace more : List ran_type) (orders : List ToWorker) (node : Node)
    → IsNodeUnderWay job workers number trace orders node → IsNodeUnderWay job workers number (trace ++ more) orders node
way_longer job workers number trace more orders node is = record {
  link = is.link;
  history = is.history;
  handed = is.handed;
  senders = is.senders;
  waiting = is.waiting;
  ran = longer_traced trace more (state_of node.happened) is.ran;
  told = All-weaker (IsTold orders trace) (IsTold orders (trace ++ more)) (told_more orders trace more) node.reports is.told;
  batch = is.batch;
}

-- a worker that finishes is under way behind the runs of its batch
finished_way : (job : Job) (workers number : ℕ) (trace : List ran_type) (orders : List ToWorker) (node : Node) (b : Batched)
    → IsBatchRight job number (state_of node.happened) b → IsNodeUnderWay job workers number trace orders node
    → IsNodeUnderWay job workers number (trace ++ b.runs) orders (finished_with node b.places)
finished_way job workers number trace orders node b right is = record {
  link = ap (λ (front : List ToWorker). front ++ node.orders) (finish_orders node.happened b.places) ∙ is.link;
  history = history_goes_on.may node.happened (map Completed b.places) is.history right.may;
  handed = truth_goes_on.completed job node.happened b.places is.handed;
  senders = is.senders;
  waiting = record { reports = is.waiting.reports; frames = is.waiting.frames };
  ran = finished_traced trace b.runs node b.places right.runs right.may is.ran;
  told = All-weaker (IsTold orders trace) (IsTold orders (trace ++ b.runs)) (told_more orders trace b.runs) node.reports is.told;
  batch = tt;
}

-- ---- what it gave by that

abbrev outs_with : Node → List ℕ → List Out
outs_with node places = drop (length (state_of node.happened).gave) (state_of (node.happened ++ map Completed places)).gave

with_good : (job : Job) (node : Node) (places : List ℕ) → is_whole job ≡ true → IsHistory (node.happened ++ map Completed places)
    → IsHandedTruth job (node.happened ++ map Completed places) → All (IsGoodOut job) (outs_with node places)
with_good job node places whole history handed =
    All-drop (IsGoodOut job) (length (state_of node.happened).gave) (state_of (node.happened ++ map Completed places)).gave
    (histories_are_true job (node.happened ++ map Completed places) whole history handed).gave

-- what it tells stays true of all orders that it is sent
out_front : (pending : Pending) (front rest : List ToWorker) (trace : List ran_type) (out : Out) → BeginOnce pending (front ++ rest)
    → IsToldOut front trace out → IsToldOut (front ++ rest) trace out
out_front pending front rest trace (Out.Report report) once told = told_front pending front rest trace report once told
out_front pending front rest trace (Out.Data peer frame) once told = tt

with_told : (pending : Pending) (sent : List ToWorker) (trace runs : List ran_type) (node : Node) (places : List ℕ) → BeginOnce pending sent
    → orders_in node.happened ++ node.orders ≡ sent → AreTraced trace (state_of node.happened)
    → positions_of runs ≡ flat_map (position_at (state_of node.happened)) places → All (IsToldOut sent (trace ++ runs)) (outs_with node places)
with_told pending sent trace runs node places once link traced same =
    let state : WorkerState = state_of node.happened in
    let front : List ToWorker = orders_in node.happened in
    let groups : state.session.groups ≡ (session_of front).groups = ap (λ (session : Session). session.groups) (history_goes_on.session node.happened) in
    let told : All (IsToldOut front (trace ++ runs)) (outs_from state places) =
    outs_told front (trace ++ runs) state places groups
    (subst (λ (gs : List Group). AllRun (trace ++ runs) gs (state.ran ++ places)) groups (batch_run trace runs state places same traced)) in
    subst (All (IsToldOut sent (trace ++ runs)))
    (sym (ap (λ (after : WorkerState). drop (length state.gave) after.gave) (finish_state node.happened places) ∙ given_by state places))
    (subst (λ (orders : List ToWorker). All (IsToldOut orders (trace ++ runs)) (outs_from state places)) link
    (All-weaker (IsToldOut front (trace ++ runs)) (IsToldOut (front ++ node.orders) (trace ++ runs))
    (λ out is. out_front pending front node.orders (trace ++ runs) out (subst (BeginOnce pending) (sym link) once) is) (outs_from state places) told))

-- ---- all of it

-- what the cluster is then, by whether the batch is dropped
abbrev after_batch : ℕ → Node → ClusterState → Batched → Bool → ClusterState
after_batch worker node s b stale =
    let done : List Happening = if stale then [] else map Completed b.places in
    record s {
      nodes = fold (out_at worker) (slice_set s.nodes worker (record node { happened = node.happened ++ done; batch = None }))
          (drop (length (state_of node.happened).gave) (state_of (node.happened ++ done)).gave);
      trace = s.trace ++ (if stale then [] else b.runs);
    }

after_is : (worker : ℕ) (node : Node) (s : ClusterState) (b : Batched) → b.stale ≡ false
    → batch_finished worker node s b ≡ after_batch worker node s b false
after_is worker node s b fresh =
    outs_sent_is worker (outs_by b node) (record s { nodes = slice_set s.nodes worker (finished b node); trace = s.trace ++ runs_by b })
    ∙ ap (after_batch worker node s b) fresh

pub finish_well : (s : ClusterState) (worker : ℕ) (node : Node) (b : Batched) → is_whole s.job ≡ true → GoesWell s.job s
    → BeginOnce s.control.pending (orders_to worker s.put) → slice_get s.nodes worker ≡ Some node
    → IsBatchRight s.job worker (state_of node.happened) b → GoesWell s.job (batch_finished worker node s b)
finish_well s worker node b whole well once there right =
    let new : Node = finished_with node b.places in
    let nodes : List Node = slice_set s.nodes worker new in
    let outs : List Out = outs_with node b.places in
    let trace : List ran_type = s.trace ++ b.runs in
    let was : IsNodeUnderWay s.job s.setup.workers worker s.trace (orders_to worker s.put) node = well.nodes.each worker node there in
    let way : IsNodeUnderWay s.job s.setup.workers worker trace (orders_to worker s.put) new =
    finished_way s.job s.setup.workers worker s.trace (orders_to worker s.put) node b right was in
    subst (GoesWell s.job) (sym (after_is worker node s b right.fresh)) (record {
      nodes = record {
        nodes = length_outs worker outs nodes ∙ length-set s.nodes worker new ∙ well.nodes.nodes;
        each = each_outs s.job s.setup.workers trace s.put worker outs nodes (with_good s.job node b.places whole way.history way.handed)
            (with_told s.control.pending (orders_to worker s.put) s.trace b.runs node b.places once was.link was.ran right.runs)
            (each_set (Way s.job s.setup.workers s.trace s.put) (Way s.job s.setup.workers trace s.put) s.nodes worker node new well.nodes.each there way
            (λ number other is. way_longer s.job s.setup.workers number s.trace b.runs (orders_to number s.put) other is));
      };
      done = All-append (IsDone (fold (out_at worker) nodes outs)) s.trace b.runs
          (All-weaker (IsDone s.nodes) (IsDone (fold (out_at worker) nodes outs))
          (λ ran is. done_outs worker outs nodes ran (done_set s.nodes worker node new ran there
          (still_done ran node new (finished_past node b.places right.may)) is)) s.trace well.done)
          (All-weaker (IsDone nodes) (IsDone (fold (out_at worker) nodes outs)) (done_outs worker outs nodes) b.runs
          (runs_done s.job s.nodes worker node b there right));
      reads = All-append (ReadsByOrder s.job) s.trace b.runs well.reads right.reads;
    })
