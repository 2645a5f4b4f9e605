-- What waits at workers, and what they completed: how an event changes both.
use Rattle.std.proofs.Common.{◌≡◌, ℕ, ◌+◌, ◌*◌, ◌≤◌, Bool, true, false, not, List, [], ◌∷◌, get_or, length, replicate, refl, ap, sym, ◌∙◌, arith, Option, None, Some, inl, inr}
use Rattle.std.specs.Prelude.{nat_le, nat_lt, ◌&&◌, if◌then◌else◌, slice_get, slice_set}
use Rattle.std.specs.FinMap as finite
use Rattle.std.specs.List.{sum_by}
use Rattle.std.specs.Option.{is_some, option_map}
use Rattle.std.proofs.lemmas.Bool.{and_parts, both_ways, cases_lt, not-true}
use Rattle.std.proofs.lemmas.List.{get_or_past}
use Rattle.std.proofs.lemmas.List.Sums.{sum_by-set}
use Rattle.nim_base.specs.declared.number.Worker.{Worker}
use Rattle.nim_message.specs.declared.frame.Data.{Data}
use Rattle.nim_message.specs.declared.order.ToWorker.{ToWorker}
use Rattle.nim_message.specs.declared.report.FromWorker.{FromWorker}
use Rattle.nim_store.specs.Keys.{key_of}
use Rattle.nim_history.specs.History.{Framed, Ordered, WorkerState, framed, ordered, state_of}
use Rattle.nim_history.specs.InTurn.{is_reset}
use Rattle.nim_history.proofs.GoesOn.{history_goes_on}
use Rattle.nim_history.proofs.Ordered.{ordered_is}
use Rattle.nim_worker.specs.Taken.{has_released}
use Rattle.nim_lockstep.specs.Cluster.{Batched, Node, new_node}
use Rattle.nim_lockstep.specs.Nodes.{batch_after, batch_begun, finished, frame_taken, frames_from, has_any, may_begin, order_taken}
use Rattle.nim_lockstep.proofs.FewLists.{sum_replicate, sum_set}

-- ---- what waits at a worker

-- whether no batch is out, as a number
abbrev pub idle : Option Batched → ℕ
idle None = 1
idle (Some b) = 0

-- how many frames wait
abbrev pub frames_in_all : List (List Data) → ℕ
frames_in_all frames = sum_by (λ (from : List Data). length from) frames

-- how many events may come at a worker by itself
abbrev pub load : Node → ℕ
load node = length node.orders + length node.reports + frames_in_all node.frames + idle node.batch

-- how many commands it completed
abbrev pub done_at : Node → ℕ
done_at node = length (state_of node.happened).ran

-- A worker used up so much: it has less to do, or completed more.
abbrev pub Uses : ℕ → Node → Node → Type 0
Uses count old new = load new + 4 * done_at old + count ≤ load old + 4 * done_at new

-- nothing waits at a new one
pub new_load : (workers : ℕ) → load (new_node workers) ≤ 1
new_load workers =
    let none : frames_in_all (replicate workers []) ≤ workers * 0 =
    sum_replicate (λ (from : List Data). length from) workers [] 0 (omega arith) in
    omega (arith, none)

-- ---- what takes one away

-- an order
idle_after : (order : ToWorker) (batch : Option Batched) → idle (batch_after order batch) ≡ idle batch
idle_after order batch = either (is_reset order) batch where
  either : (reset : Bool) (batch : Option Batched)
      → idle (if reset then option_map (λ (b : Batched). record b { stale = true }) batch else batch) ≡ idle batch
  either true None = refl
  either true (Some b) = refl
  either false batch = refl

ran_ordered : (state : WorkerState) (order : ToWorker) → (is_reset order ≡ true → length state.ran ≤ 0)
    → length state.ran ≤ length (ordered state order).ran
ran_ordered state order none = either (is_reset order) refl where
  either : (reset : Bool) → is_reset order ≡ reset → length state.ran ≤ length (ordered state order).ran
  either true reset = omega (arith, none reset)
  either false other = omega (arith, ap (λ (after : WorkerState). length after.ran) (ordered_is state order other))

-- a Reset is taken where nothing is complete
pub uses_order : (orders : List ToWorker) (node : Node) → node.orders ≡ orders → has_any orders ≡ true
    → ((order : ToWorker) (rest : List ToWorker) → orders ≡ order ∷ rest → is_reset order ≡ true → done_at node ≤ 0)
    → Uses 1 node (order_taken orders node)
uses_order [] node is any none = absurd (both_ways false refl any)
uses_order (order ∷ rest) node is any none =
    omega (
      arith,
      ap length is,
      idle_after order node.batch,
      ran_ordered (state_of node.happened) order (none order rest refl),
      ap (λ (after : WorkerState). length after.ran) (history_goes_on.state node.happened (Ordered order ∷ [])),
    )

-- a report
pub uses_report : (node : Node) (report : FromWorker) (rest : List FromWorker) → node.reports ≡ report ∷ rest
    → Uses 1 node (record node { reports = rest })
uses_report node report rest is = omega (arith, ap length is)

-- a frame
ran_framed : (state : WorkerState) (frame : Data) → (framed state frame).ran ≡ state.ran
ran_framed state frame = either (nat_lt frame.epoch state.session.epoch) where
  either : (b : Bool) → (if b then state else record state { inbox = finite.insert state.inbox (key_of frame) frame.value }).ran ≡ state.ran
  either true = refl
  either false = refl

-- the frames from a worker are among all, where there are some
less_frames : (all : List (List Data)) (from : ℕ) (frame : Data) (rest : List Data) → get_or all from [] ≡ frame ∷ rest
    → frames_in_all (slice_set all from rest) + 1 ≤ frames_in_all all
less_frames all from frame rest is = elim (cases_lt from (length all)) [
  | inl within ↦ omega (arith, ap length is, sum_by-set (λ (waiting : List Data). length waiting) all from rest [] within)
  | inr past ↦ let gone : [] ≡ frame ∷ rest = sym (get_or_past all from [] past) ∙ is in absurd cc
]

pub uses_frame : (from : ℕ) (frames : List Data) (node : Node) → frames_from from node ≡ frames → has_any frames ≡ true
    → Uses 1 node (frame_taken from frames node)
uses_frame from [] node is any = absurd (both_ways false refl any)
uses_frame from (frame ∷ rest) node is any =
    omega (
      arith,
      less_frames node.frames from frame rest is,
      ap length (ran_framed (state_of node.happened) frame),
      ap (λ (after : WorkerState). length after.ran) (history_goes_on.state node.happened (Framed frame ∷ [])),
    )

-- a batch that is begun
idle_none : (batch : Option Batched) → is_some batch ≡ false → idle batch ≡ 1
idle_none None is = refl
idle_none (Some b) is = absurd (both_ways true is refl)

pub uses_begin : (worker : Worker) (most : ℕ) (node : Node) → may_begin most node ≡ true → Uses 1 node (batch_begun worker most node)
uses_begin worker most node may =
    let front = (and_parts _ (has_released (state_of node.happened)) may).0 in
    let out = (and_parts (nat_le 1 most && nat_le most 16) (not (is_some node.batch)) front).1 in
    omega (arith, idle_none node.batch (not-true (is_some node.batch) out))

-- and finished, where it completes so many
pub uses_finish : (node : Node) (b : Batched) (count : ℕ) → node.batch ≡ Some b → 1 ≤ count → done_at (finished b node) ≡ done_at node + count
    → Uses (2 * count + 1) node (finished b node)
uses_finish node b count is some done = omega (arith, some, done, ap idle is)

-- ---- all workers

abbrev pub loads : List Node → ℕ
loads nodes = sum_by load nodes

abbrev pub dones : List Node → ℕ
dones nodes = sum_by done_at nodes

pub all_use : (count : ℕ) (nodes : List Node) (number : ℕ) (old new : Node) → slice_get nodes number ≡ Some old → Uses count old new
    → loads (slice_set nodes number new) + 4 * dones nodes + count ≤ loads nodes + 4 * dones (slice_set nodes number new)
all_use count nodes number old new there uses =
    omega (arith, uses, sum_set load nodes number old new there, sum_set done_at nodes number old new there)
