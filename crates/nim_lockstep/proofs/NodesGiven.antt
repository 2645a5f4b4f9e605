-- What a worker gave is sent: a report to the controller, a frame to another worker.
use Rattle.std.proofs.Common.{◌≡◌, ℕ, List, [], ◌∷◌, ◌++◌, length, refl, ap, ◌∙◌, All}
use Rattle.std.specs.List.{fold}
use Rattle.std.proofs.lemmas.List.{length-set}
use Rattle.std.proofs.lemmas.List.Elements.{All-head, All-push, All-set, All-tail}
use Rattle.nim_message.specs.declared.frame.Data.{Data}
use Rattle.nim_message.specs.declared.order.ToWorker.{ToWorker}
use Rattle.nim_message.specs.declared.report.FromWorker.{FromWorker}
use Rattle.nim_job.specs.declared.job.Job.{Job}
use Rattle.nim_plan.specs.Good.{IsGood, IsGoodFrame}
use Rattle.nim_place.specs.Directed.{Directed, orders_to}
use Rattle.nim_history.specs.declared.out.Out.{Out}
use Rattle.nim_history.specs.Truth.{IsGoodOut}
use Rattle.nim_lockstep.specs.declared.ran.Ran.{Ran as ran_type}
use Rattle.nim_lockstep.specs.Cluster.{ClusterState, Node}
use Rattle.nim_lockstep.specs.Events.{out_sent}
use Rattle.nim_lockstep.specs.Nodes.{frame_sent, frames_from}
use Rattle.nim_lockstep.proofs.NodesAt.{Each, Way, at_node_is, changed, done_changed, each_changed, length_changed}
use Rattle.nim_lockstep.proofs.NodesFrame.{frames_good}
use Rattle.nim_lockstep.proofs.NodesOuts.{IsToldOut}
use Rattle.nim_lockstep.proofs.UnderWay.{IsDone, IsNodeUnderWay, IsTold}

-- workers that something was sent to
abbrev pub out_at : ℕ → List Node → Out → List Node
out_at from nodes (Out.Report report) = changed (λ (node : Node). record node { reports = node.reports ++ report ∷ [] }) from nodes
out_at from nodes (Out.Data peer frame) = changed (frame_sent from frame) peer.0 nodes

out_sent_is : (from : ℕ) (s : ClusterState) (out : Out) → out_sent from s out ≡ record s { nodes = out_at from s.nodes out }
out_sent_is from s (Out.Report report) = at_node_is (λ (node : Node). record node { reports = node.reports ++ report ∷ [] }) from s
out_sent_is from s (Out.Data peer frame) = at_node_is (frame_sent from frame) peer.0 s

pub outs_sent_is : (from : ℕ) (outs : List Out) (s : ClusterState) → fold (out_sent from) s outs ≡ record s { nodes = fold (out_at from) s.nodes outs }
outs_sent_is from [] s = refl
outs_sent_is from (out ∷ outs) s =
    ap (λ (t : ClusterState). fold (out_sent from) t outs) (out_sent_is from s out) ∙ outs_sent_is from outs (record s { nodes = out_at from s.nodes out })

length_out : (from : ℕ) (nodes : List Node) (out : Out) → length (out_at from nodes out) ≡ length nodes
length_out from nodes (Out.Report report) = length_changed (λ (node : Node). record node { reports = node.reports ++ report ∷ [] }) from nodes
length_out from nodes (Out.Data peer frame) = length_changed (frame_sent from frame) peer.0 nodes

pub length_outs : (from : ℕ) (outs : List Out) (nodes : List Node) → length (fold (out_at from) nodes outs) ≡ length nodes
length_outs from [] nodes = refl
length_outs from (out ∷ outs) nodes = length_outs from outs (out_at from nodes out) ∙ length_out from nodes out

-- a worker with one more report, or one more frame
reported_way : (job : Job) (workers number : ℕ) (trace : List ran_type) (orders : List ToWorker) (report : FromWorker) (node : Node) → IsGood job report
    → IsTold orders trace report → IsNodeUnderWay job workers number trace orders node
    → IsNodeUnderWay job workers number trace orders (record node { reports = node.reports ++ report ∷ [] })
reported_way job workers number trace orders report node good told is = record {
  link = is.link;
  history = is.history;
  handed = is.handed;
  senders = is.senders;
  waiting = record {
    reports = All-push (IsGood job) node.reports report is.waiting.reports good;
    frames = is.waiting.frames;
  };
  ran = is.ran;
  told = All-push (IsTold orders trace) node.reports report is.told told;
  batch = is.batch;
}

framed_way : (job : Job) (workers number : ℕ) (trace : List ran_type) (orders : List ToWorker) (from : ℕ) (frame : Data) (node : Node)
    → IsGoodFrame job frame → IsNodeUnderWay job workers number trace orders node
    → IsNodeUnderWay job workers number trace orders (frame_sent from frame node)
framed_way job workers number trace orders from frame node good is = record {
  link = is.link;
  history = is.history;
  handed = is.handed;
  senders = length-set node.frames from (frames_from from node ++ frame ∷ []) ∙ is.senders;
  waiting = record {
    reports = is.waiting.reports;
    frames = All-set (All (IsGoodFrame job)) node.frames from (frames_from from node ++ frame ∷ [])
        (All-push (IsGoodFrame job) (frames_from from node) frame (frames_good job from node is.waiting.frames) good) is.waiting.frames;
  };
  ran = is.ran;
  told = is.told;
  batch = is.batch;
}

each_out : (job : Job) (workers : ℕ) (trace : List ran_type) (put : List Directed) (from : ℕ) (nodes : List Node) (out : Out) → IsGoodOut job out
    → IsToldOut (orders_to from put) trace out → Each (Way job workers trace put) nodes → Each (Way job workers trace put) (out_at from nodes out)
each_out job workers trace put from nodes (Out.Report report) good told each =
    let way : ℕ → Node → Type 0 = Way job workers trace put in
    each_changed way way (λ (node : Node). record node { reports = node.reports ++ report ∷ [] }) from nodes each
    (λ node there is. reported_way job workers from trace (orders_to from put) report node good told is) (λ number node is. is)
each_out job workers trace put from nodes (Out.Data peer frame) good told each =
    let way : ℕ → Node → Type 0 = Way job workers trace put in
    each_changed way way (frame_sent from frame) peer.0 nodes each
    (λ node there is. framed_way job workers peer.0 trace (orders_to peer.0 put) from frame node good is) (λ number node is. is)

pub each_outs : (job : Job) (workers : ℕ) (trace : List ran_type) (put : List Directed) (from : ℕ) (outs : List Out) (nodes : List Node)
    → All (IsGoodOut job) outs → All (IsToldOut (orders_to from put) trace) outs → Each (Way job workers trace put) nodes
    → Each (Way job workers trace put) (fold (out_at from) nodes outs)
each_outs job workers trace put from [] nodes good told each = each
each_outs job workers trace put from (out ∷ outs) nodes good told each =
    let sent : List ToWorker = orders_to from put in
    each_outs job workers trace put from outs (out_at from nodes out) (All-tail (IsGoodOut job) out outs good) (All-tail (IsToldOut sent trace) out outs told)
    (each_out job workers trace put from nodes out (All-head (IsGoodOut job) out outs good) (All-head (IsToldOut sent trace) out outs told) each)

done_out : (from : ℕ) (nodes : List Node) (out : Out) (ran : ran_type) → IsDone nodes ran → IsDone (out_at from nodes out) ran
done_out from nodes (Out.Report report) ran is =
    done_changed (λ (node : Node). record node { reports = node.reports ++ report ∷ [] }) from nodes ran
    (λ node there done. record { place = done.place; complete = done.complete; runs = done.runs }) is
done_out from nodes (Out.Data peer frame) ran is =
    done_changed (frame_sent from frame) peer.0 nodes ran
    (λ node there done. record { place = done.place; complete = done.complete; runs = done.runs }) is

pub done_outs : (from : ℕ) (outs : List Out) (nodes : List Node) (ran : ran_type) → IsDone nodes ran → IsDone (fold (out_at from) nodes outs) ran
done_outs from [] nodes ran is = is
done_outs from (out ∷ outs) nodes ran is = done_outs from outs (out_at from nodes out) ran (done_out from nodes out ran is)
