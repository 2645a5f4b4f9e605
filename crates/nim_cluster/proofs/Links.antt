-- What a worker with its links has come to once it took something, or began or finished a batch.
use Rattle.std.proofs.Common.{◌≡◌, ℕ, zero, suc, Bool, true, false, List, [], ◌∷◌, ◌++◌, get_or, length, map, refl, ap, ap₂, sym, subst, ◌∙◌, arith, ◌≤◌, Option, None, Some, Global, Vec}
use Rattle.std.specs.Prelude.{◌&&◌, if◌then◌else◌, nat_le, not, slice_get, slice_set}
use Rattle.std.specs.declared.collections.VecDeque.{VecDeque}
use Rattle.std.specs.Option.{is_some, option_map, option_map_or}
use Rattle.std.proofs.lemmas.Bool.{and_parts, both_ways}
use Rattle.std.proofs.lemmas.List.{length-map, map-append, map-set}
use Rattle.nim_base.specs.declared.number.Worker.{Worker}
use Rattle.nim_command.specs.declared.command.Kind.{Kind}
use Rattle.nim_command.specs.declared.command.Kind.TheVariants.{Run}
use Rattle.nim_message.specs.declared.frame.Data.{Data}
use Rattle.nim_message.specs.declared.order.ToWorker.{ToWorker}
use Rattle.nim_message.specs.declared.report.FromWorker.{FromWorker}
use Rattle.nim_place.specs.Extends.{worker_of}
use Rattle.nim_history.specs.History.{Asked, Happening, WorkerState, Framed, Ordered, asked_at, state_of}
use Rattle.nim_history.specs.InTurn.{is_reset}
use Rattle.nim_history.specs.Kept.{contents_read}
use Rattle.nim_worker.specs.declared.batch.Batch.{Batch}
use Rattle.nim_worker.specs.declared.worker.WorkerCore.{WorkerCore}
use Rattle.nim_worker.specs.Runs.{all_read_by, run_read, run_read_at, runs_read}
use Rattle.nim_worker.specs.Stands as worker
use Rattle.nim_worker.specs.Stands.{tickets_of}
use Rattle.nim_worker.specs.Taken.{has_released, taken_of}
use Rattle.nim_lockstep.specs.declared.ran.Ran.{Ran}
use Rattle.nim_lockstep.specs.Cluster.{Batched, Node}
use Rattle.nim_lockstep.specs.Nodes.{batch_after, batch_of, batch_begun, frame_sent, frame_taken, frames_from, may_begin, order_taken, ran_by_command, runs_at}
use Rattle.nim_cluster.specs.declared.node.Node.{Node as kept_node}
use Rattle.nim_cluster.specs.Stands.{IsNode, MayBeBatch, queued_frames, ran_at}

-- nothing that counts has changed
pub record IsSame (old new : kept_node) : Type 0 where
  pub core : new.core ≡ old.core
  pub batch : new.batch ≡ old.batch
  pub orders : new.orders.items ≡ old.orders.items
  pub reports : new.reports.items ≡ old.reports.items
  pub frames : queued_frames new.frames.items ≡ queued_frames old.frames.items
  pub waits : new.frames_wait ≡ old.frames_wait

pub same_node : (number : ℕ) (old new : kept_node) (node : Node) → IsNode number old node → IsSame old new → IsNode number new node
same_node number old new node is same = record {
  core = subst (λ (kept : WorkerCore). worker.CoreStands kept new.batch node.happened) (sym same.core)
      (subst (λ (out : Option Batch). worker.CoreStands old.core out node.happened) (sym same.batch) is.core);
  worker = ap (λ (kept : WorkerCore). kept.worker) same.core ∙ is.worker;
  batch = subst (λ (kept : WorkerCore). MayBeBatch (worker_of number) kept.stale new.batch node.batch) (sym same.core)
      (subst (λ (out : Option Batch). MayBeBatch (worker_of number) old.core.stale out node.batch) (sym same.batch) is.batch);
  orders = same.orders ∙ is.orders;
  reports = same.reports ∙ is.reports;
  frames = same.frames ∙ is.frames;
  idle = λ no. is.idle (sym same.waits ∙ no);
}

-- a report waits no longer
pub reported_node : (number : ℕ) (old new : kept_node) (node : Node) → IsNode number old node → new ≡ record old { reports = new.reports }
    → IsNode number new (record node { reports = new.reports.items })
reported_node number old new node is rest =
    subst (λ (kept : kept_node). IsNode number kept (record node { reports = new.reports.items })) (sym rest)
    (record { core = is.core; worker = is.worker; batch = is.batch; orders = is.orders; reports = refl; frames = is.frames; idle = is.idle })

-- no order waits
pub unordered_node : (number : ℕ) (old new : kept_node) (node : Node) → IsNode number old node → old.orders.items ≡ [] → IsSame old new
    → IsNode number new (order_taken node.orders node)
unordered_node number old new node is none same =
    subst (λ (orders : List ToWorker). IsNode number new (order_taken orders node)) (sym none ∙ is.orders) (same_node number old new node is same)

-- ---- an order

batch_ordered : (number : Worker) (order : ToWorker) (old new busy : Bool) (batch : Option Batch) (b : Option Batched)
    → MayBeBatch number old batch b → busy ≡ is_some batch → new ≡ (if is_reset order then busy else old)
    → MayBeBatch number new batch (batch_after order b)
batch_ordered number order old new busy batch b is out stale = either (is_reset order) stale where
  reset : (batch : Option Batch) (b : Option Batched) → MayBeBatch number old batch b → new ≡ is_some batch
      → MayBeBatch number new batch (option_map (λ (x : Batched). record x { stale = true }) b)
  reset None None is stale = record {}
  reset None (Some b) is stale = absurd is
  reset (Some batch) None is stale = absurd is
  reset (Some batch) (Some b) is stale = record { places = is.places; runs = is.runs; stale = stale }

  either : (r : Bool) → new ≡ (if r then busy else old)
      → MayBeBatch number new batch (if r then option_map (λ (x : Batched). record x { stale = true }) b else b)
  either true stale = reset batch b is (stale ∙ out)
  either false stale = subst (λ (dropped : Bool). MayBeBatch number dropped batch b) (sym stale) is

-- what a core does with an order
pub record TakesOrder (old : kept_node) (happened : List Happening) (order : ToWorker) (core : WorkerCore) : Type 0 where
  pub stands : worker.CoreStands core old.batch (happened ++ Ordered order ∷ [])
  pub stale : core.stale ≡ (if is_reset order then old.core.busy else old.core.stale)
  pub worker : core.worker ≡ old.core.worker

pub ordered_node : (number : ℕ) (old new : kept_node) (node : Node) (order : ToWorker) → IsNode number old node
    → old.orders.items ≡ order ∷ new.orders.items → TakesOrder old node.happened order new.core → new.batch ≡ old.batch
    → new.reports ≡ old.reports → new.frames ≡ old.frames → new.frames_wait ≡ old.frames_wait → IsNode number new (order_taken node.orders node)
ordered_node number old new node order is next takes batch reports frames waits =
    subst (λ (orders : List ToWorker). IsNode number new (order_taken orders node)) (sym next ∙ is.orders)
    (record {
      core = subst (λ (out : Option Batch). worker.CoreStands new.core out (node.happened ++ Ordered order ∷ [])) (sym batch) takes.stands;
      worker = takes.worker ∙ is.worker;
      batch = subst (λ (out : Option Batch). MayBeBatch (worker_of number) new.core.stale out (batch_after order node.batch)) (sym batch)
          (batch_ordered (worker_of number) order old.core.stale new.core.stale old.core.busy old.batch node.batch is.batch is.core.at.busy takes.stale);
      orders = refl;
      reports = ap (λ (q : VecDeque FromWorker Global). q.items) reports ∙ is.reports;
      frames = ap (λ (q : Vec (VecDeque Data Global) Global). queued_frames q.items) frames ∙ is.frames;
      idle = λ no. is.idle (sym waits ∙ no);
    })

-- ---- a frame of data

pub frames_at : (queues : List (VecDeque Data Global)) (from : ℕ) (queue : VecDeque Data Global) → slice_get queues from ≡ Some queue
    → get_or (queued_frames queues) from [] ≡ queue.items
frames_at [] from queue at = absurd cc
frames_at (q ∷ qs) zero queue at = let same : q ≡ queue = cc in ap (λ (x : VecDeque Data Global). x.items) same
frames_at (q ∷ qs) (suc from) queue at = frames_at qs from queue at

pub frames_are : (number from : ℕ) (old : kept_node) (node : Node) (queue : VecDeque Data Global) → IsNode number old node
    → slice_get old.frames.items from ≡ Some queue → frames_from from node ≡ queue.items
frames_are number from old node queue is at =
    ap (λ (frames : List (List Data)). get_or frames from []) (sym is.frames) ∙ frames_at old.frames.items from queue at

-- what a core does with a frame
pub record TakesFrame (old : kept_node) (happened : List Happening) (frame : Data) (core : WorkerCore) : Type 0 where
  pub stands : worker.CoreStands core old.batch (happened ++ Framed frame ∷ [])
  pub stale : core.stale ≡ old.core.stale
  pub worker : core.worker ≡ old.core.worker

pub framed_node : (number from : ℕ) (old new : kept_node) (node : Node) (frame : Data) (queue rest : VecDeque Data Global) → IsNode number old node
    → slice_get old.frames.items from ≡ Some queue → queue.items ≡ frame ∷ rest.items
    → new.frames.items ≡ slice_set old.frames.items from rest → TakesFrame old node.happened frame new.core → new.batch ≡ old.batch
    → new.orders ≡ old.orders → new.reports ≡ old.reports
    → (new.frames_wait ≡ false → (other : ℕ) → get_or (queued_frames new.frames.items) other [] ≡ [])
    → IsNode number new (frame_taken from (frames_from from node) node)
framed_node number from old new node frame queue rest is at next frames takes batch orders reports empty =
    let same = ap queued_frames frames ∙ map-set (λ (q : VecDeque Data Global). q.items) old.frames.items from rest
    ∙ ap (λ (all : List (List Data)). slice_set all from rest.items) is.frames in
    subst (λ (waiting : List Data). IsNode number new (frame_taken from waiting node)) (sym next ∙ sym (frames_are number from old node queue is at))
    (record {
      core = subst (λ (out : Option Batch). worker.CoreStands new.core out (node.happened ++ Framed frame ∷ [])) (sym batch) takes.stands;
      worker = takes.worker ∙ is.worker;
      batch = subst (λ (out : Option Batch). MayBeBatch (worker_of number) new.core.stale out node.batch) (sym batch)
          (subst (λ (stale : Bool). MayBeBatch (worker_of number) stale old.batch node.batch) (sym takes.stale) is.batch);
      orders = ap (λ (q : VecDeque ToWorker Global). q.items) orders ∙ is.orders;
      reports = ap (λ (q : VecDeque FromWorker Global). q.items) reports ∙ is.reports;
      frames = same;
      idle = λ no other. ap (λ (all : List (List Data)). get_or all other []) (sym same) ∙ empty no other;
    })

-- no frame waits there
pub unframed_node : (number from : ℕ) (old new : kept_node) (node : Node) → IsNode number old node → frames_from from node ≡ [] → IsSame old new
    → IsNode number new (frame_taken from (frames_from from node) node)
unframed_node number from old new node is none same =
    subst (λ (waiting : List Data). IsNode number new (frame_taken from waiting node)) (sym none) (same_node number old new node is same)

-- a queue that has the same frames changes none
pub same_frames : (queues : List (VecDeque Data Global)) (from : ℕ) (queue other : VecDeque Data Global) → slice_get queues from ≡ Some queue
    → other.items ≡ queue.items → queued_frames (slice_set queues from other) ≡ queued_frames queues
same_frames [] from queue other at is = refl
same_frames (q ∷ qs) zero queue other at is =
    let same : q ≡ queue = cc in
    ap (λ (items : List Data). items ∷ queued_frames qs) (is ∙ ap (λ (x : VecDeque Data Global). x.items) (sym same))
same_frames (q ∷ qs) (suc from) queue other at is = ap (λ (rest : List (List Data)). q.items ∷ rest) (same_frames qs from queue other at is)

-- one frame more waits
pub sent_node : (number from : ℕ) (old new : kept_node) (node : Node) (frame : Data) (queue more : VecDeque Data Global) → IsNode number old node
    → slice_get old.frames.items from ≡ Some queue → more.items ≡ queue.items ++ frame ∷ []
    → new.frames.items ≡ slice_set old.frames.items from more → new.core ≡ old.core → new.batch ≡ old.batch
    → new.orders ≡ old.orders → new.reports ≡ old.reports → new.frames_wait ≡ true → IsNode number new (frame_sent from frame node)
sent_node number from old new node frame queue more is at put frames core batch orders reports waits = record {
  core = subst (λ (kept : WorkerCore). worker.CoreStands kept new.batch node.happened) (sym core)
      (subst (λ (out : Option Batch). worker.CoreStands old.core out node.happened) (sym batch) is.core);
  worker = ap (λ (kept : WorkerCore). kept.worker) core ∙ is.worker;
  batch = subst (λ (kept : WorkerCore). MayBeBatch (worker_of number) kept.stale new.batch node.batch) (sym core)
      (subst (λ (out : Option Batch). MayBeBatch (worker_of number) old.core.stale out node.batch) (sym batch) is.batch);
  orders = ap (λ (q : VecDeque ToWorker Global). q.items) orders ∙ is.orders;
  reports = ap (λ (q : VecDeque FromWorker Global). q.items) reports ∙ is.reports;
  frames = ap queued_frames frames ∙ map-set (λ (q : VecDeque Data Global). q.items) old.frames.items from more
      ∙ ap₂ (λ (all : List (List Data)) (waiting : List Data). slice_set all from waiting) is.frames
      (put ∙ ap (λ (waiting : List Data). waiting ++ frame ∷ []) (sym (frames_are number from old node queue is at)));
  idle = λ no. absurd (both_ways new.frames_wait no waits);
}

set_past : {X : Type 0} (xs : List X) (i : ℕ) (x : X) → length xs ≤ i → slice_set xs i x ≡ xs
set_past [] i x above = refl
set_past (y ∷ ys) zero x above = absurd (omega (arith, above))
set_past (y ∷ ys) (suc i) x above = ap (λ (rest : List _). y ∷ rest) (set_past ys i x (omega (arith, above)))

-- a frame from a worker that isn't there is dropped
pub unsent_node : (number from : ℕ) (old : kept_node) (node : Node) (frame : Data) → IsNode number old node → length old.frames.items ≤ from
    → IsNode number old (frame_sent from frame node)
unsent_node number from old node frame is above =
    let many : length node.frames ≤ from =
    subst (λ (n : ℕ). n ≤ from) (sym (length-map old.frames.items (λ (q : VecDeque Data Global). q.items)) ∙ ap length is.frames) above in
    let same = set_past node.frames from (frames_from from node ++ frame ∷ []) many in
    record {
      core = is.core;
      worker = is.worker;
      batch = is.batch;
      orders = is.orders;
      reports = is.reports;
      frames = is.frames ∙ sym same;
      idle = λ no other. ap (λ (all : List (List Data)). get_or all other []) same ∙ is.idle no other;
    }

-- ---- a batch that is begun

-- what a command runs, by what it reads
run_is : (number : Worker) (epoch : ℕ) (state : WorkerState) (o : Option Asked) → epoch ≡ state.session.epoch
    → map (ran_at number epoch) (option_map_or (λ (asked : Asked). run_read state.slots asked.command.kind) o [])
    ≡ option_map_or (λ (asked : Asked). ran_by_command number state.session.epoch state.slots asked.command.kind) o []
run_is number epoch state None same = refl
run_is number epoch state (Some asked) same = either asked.command.kind where
  either : (kind : Kind) → map (ran_at number epoch) (run_read state.slots kind) ≡ ran_by_command number state.session.epoch state.slots kind
  either (Run position func params reads writes) =
      ap (λ (e : ℕ). ran_at number e (position, contents_read func params reads writes state.slots) ∷ []) same
  either kind = refl

runs_are : (number : Worker) (epoch : ℕ) (state : WorkerState) (places : List ℕ) → epoch ≡ state.session.epoch
    → map (ran_at number epoch) (runs_read state places) ≡ runs_at number state places
runs_are number epoch state [] same = refl
runs_are number epoch state (place ∷ places) same =
    map-append (ran_at number epoch) (run_read_at state place) (runs_read state places)
    ∙ ap₂ (λ (xs ys : List Ran). xs ++ ys) (run_is number epoch state (asked_at state.session.groups place) same) (runs_are number epoch state places same)

-- what a core does when it begins a batch
pub record BeginsBatch (old : WorkerCore) (happened : List Happening) (most : ℕ) (core : WorkerCore) (batch : Batch) : Type 0 where
  pub stands : worker.CoreStands core (Some batch) happened
  pub taken : tickets_of batch.works.items ≡ taken_of (state_of happened) most
  pub runs : all_read_by batch.works.items ≡ runs_read (state_of happened) (tickets_of batch.works.items)
  pub epoch : batch.epoch ≡ old.epoch
  pub stale : core.stale ≡ old.stale
  pub worker : core.worker ≡ old.worker

pub none_out : (number : Worker) (stale : Bool) (batch : Option Batch) (b : Option Batched) → MayBeBatch number stale batch b → b ≡ None → batch ≡ None
none_out number stale None b is none = refl
none_out number stale (Some batch) None is none = absurd is
none_out number stale (Some batch) (Some b) is none = absurd cc

-- none is out where one may be begun
pub begin_none : (most : ℕ) (node : Node) → may_begin most node ≡ true → node.batch ≡ None
begin_none most node may =
    either node.batch (and_parts (nat_le 1 most && nat_le most 16) (not (is_some node.batch))
    (and_parts (nat_le 1 most && nat_le most 16 && not (is_some node.batch)) (has_released (state_of node.happened)) may).0).1 where
      either : (b : Option Batched) → not (is_some b) ≡ true → b ≡ None
      either None is = refl
      either (Some b) is = absurd cc

pub begun_node : (number most : ℕ) (old new : kept_node) (batch : Batch) (node : Node) → IsNode number old node → old.batch ≡ None
    → BeginsBatch old.core node.happened most new.core batch → new.batch ≡ Some batch → new.orders ≡ old.orders
    → new.reports ≡ old.reports → new.frames ≡ old.frames → new.frames_wait ≡ old.frames_wait → IsNode number new (batch_begun (worker_of number) most node)
begun_node number most old new batch node is none begins out orders reports frames waits =
    let state : WorkerState = state_of node.happened in
    let at_rest = subst (λ (o : Option Batch). worker.CoreStands old.core o node.happened) none is.core in
    let epoch : batch.epoch ≡ state.session.epoch = begins.epoch ∙ is.core.at.has.session.epoch in
    record {
      core = subst (λ (o : Option Batch). worker.CoreStands new.core o node.happened) (sym out) begins.stands;
      worker = begins.worker ∙ is.worker;
      batch = subst (λ (o : Option Batch). MayBeBatch (worker_of number) new.core.stale o (Some (batch_of (worker_of number) most state))) (sym out)
          (record {
            places = begins.taken;
            runs = ap (map (ran_at (worker_of number) batch.epoch)) (begins.runs ∙ ap (runs_read state) begins.taken)
                ∙ runs_are (worker_of number) batch.epoch state (taken_of state most) epoch;
            stale = begins.stale ∙ at_rest.at.out.0;
          });
      orders = ap (λ (q : VecDeque ToWorker Global). q.items) orders ∙ is.orders;
      reports = ap (λ (q : VecDeque FromWorker Global). q.items) reports ∙ is.reports;
      frames = ap (λ (q : Vec (VecDeque Data Global) Global). queued_frames q.items) frames ∙ is.frames;
      idle = λ no. is.idle (sym waits ∙ no);
    }
