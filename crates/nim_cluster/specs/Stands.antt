-- What a cluster stands for: what it has come to.
use Rattle.std.specs.Prelude.{◌≡◌, ℕ, ◌+◌, Bool, false, List, [], ◌∷◌, length, map, Option, None, Some}
use Rattle.std.specs.declared.alloc.Global.{Global}
use Rattle.std.specs.declared.collections.VecDeque.{VecDeque}
use Rattle.nim_base.specs.declared.number.Worker.{Worker}
use Rattle.nim_message.specs.declared.frame.Data.{Data}
use Rattle.nim_place.specs.Extends.{worker_of}
use Rattle.nim_worker.specs.declared.batch.Batch.{Batch}
use Rattle.nim_worker.specs.Runs.{RunRead, all_read_by}
use Rattle.nim_worker.specs.Stands as worker
use Rattle.nim_worker.specs.Stands.{tickets_of}
use Rattle.nim_lockstep.specs.declared.ran.Ran.{Ran}
use Rattle.nim_lockstep.specs.Cluster.{Batched, ClusterState, Node}
use Rattle.nim_lockstep.specs.Nodes.{frames_from}
use Rattle.nim_lockstep.specs.InStep.{IsInStep, IsReached}
use Rattle.nim_cluster.specs.declared.cluster.Cluster.{Cluster}
use Rattle.nim_cluster.specs.declared.node.Node.{Node as kept_node}

-- a run that a worker performed in an epoch
abbrev pub ran_at : Worker → ℕ → RunRead → Ran
ran_at worker epoch run = record { worker = worker; epoch = epoch; position = run.0; reads = run.1 }

-- the runs of a batch of a worker
abbrev pub runs_in : Worker → Batch → List Ran
runs_in worker batch = map (ran_at worker batch.epoch) (all_read_by batch.works.items)

-- A batch that is out: its works are of the commands at these places, and have read what these runs did.
pub record IsBatch (number : Worker) (dropped : Bool) (batch : Batch) (b : Batched) : Type 0 where
  pub places : tickets_of batch.works.items ≡ b.places
  pub runs : runs_in number batch ≡ b.runs
  pub stale : dropped ≡ b.stale

-- the same where one is out
abbrev pub MayBeBatch : Worker → Bool → Option Batch → Option Batched → Type 0
MayBeBatch number dropped None None = Unit {0}
MayBeBatch number dropped (Some batch) (Some b) = IsBatch number dropped batch b
MayBeBatch number dropped _ _ = ⊥

-- the frames that wait in queues
abbrev pub queued_frames : List (VecDeque Data Global) → List (List Data)
queued_frames queues = map (λ (queue : VecDeque Data Global). queue.items) queues

-- no frame of data waits at a worker
abbrev pub IsNodeIdle : Node → Type 0
IsNodeIdle node = (from : ℕ) → frames_from from node ≡ []

-- A worker of this number has come to this, and this waits on its links.
pub record IsNode (number : ℕ) (kept : kept_node) (node : Node) : Type 0 where
  pub core : worker.CoreStands kept.core kept.batch node.happened
  pub worker : kept.core.worker ≡ worker_of number
  pub batch : MayBeBatch (worker_of number) kept.core.stale kept.batch node.batch
  pub orders : kept.orders.items ≡ node.orders
  pub reports : kept.reports.items ≡ node.reports
  pub frames : queued_frames kept.frames.items ≡ node.frames
  -- where it notes that no frame waits, none does
  pub idle : kept.frames_wait ≡ false → IsNodeIdle node

-- the same of workers from a number on
abbrev pub AreNodes : ℕ → List kept_node → List Node → Type 0
AreNodes from [] [] = Unit {0}
AreNodes from (kept ∷ more) (node ∷ nodes) = IsNode from kept node × AreNodes (from + 1) more nodes
AreNodes from _ _ = ⊥

-- A cluster has come to this. The orders that its controller gave aren't kept, but for those that wait. A cluster that
-- has failed has come to nothing.
pub record ClusterStands (cluster : Cluster) (s : ClusterState) : Type 0 where
  pub whole : cluster.failed ≡ false
  pub job : s.control.job ≡ s.job
  pub setup : cluster.setup ≡ s.setup
  pub control : cluster.control ≡ s.control
  pub count : length s.nodes ≡ s.setup.workers
  pub nodes : AreNodes 0 cluster.nodes.items s.nodes
  pub trace : cluster.trace.items ≡ s.trace
  pub given : cluster.given.items ≡ s.given

-- A cluster has come to what events lead to, so that it is in step with program order.
pub record StandsInStep (cluster : Cluster) (s : ClusterState) : Type 0 where
  pub stands : ClusterStands cluster s
  pub reached : IsReached s
  pub in_step : IsInStep s
