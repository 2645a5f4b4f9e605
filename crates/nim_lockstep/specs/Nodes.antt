-- What happens at one worker of a cluster.
use Rattle.std.specs.Prelude.{ℕ, ◌==◌, nat_le, Bool, true, false, not, ◌&&◌, if◌then◌else◌, List, [], ◌∷◌, ◌++◌, length, map, drop, Option, None, Some, slice_index_or, slice_set}
use Rattle.std.specs.List.{flat_map}
use Rattle.std.specs.Option.{is_some, option_map, option_map_or}
use Rattle.nim_base.specs.declared.number.Slot.{Slot}
use Rattle.nim_base.specs.declared.number.Worker.{Worker}
use Rattle.nim_command.specs.declared.command.Kind.{Kind}
use Rattle.nim_command.specs.declared.command.Kind.TheVariants.{Run}
use Rattle.nim_message.specs.declared.frame.Data.{Data}
use Rattle.nim_message.specs.declared.order.ToWorker.{ToWorker}
use Rattle.nim_store.specs.declared.held.Held.{Held}
use Rattle.nim_history.specs.declared.out.Out.{Out}
use Rattle.nim_history.specs.History.{Asked, Happening, WorkerState, Ordered, Framed, Completed, asked_at, state_of}
use Rattle.nim_history.specs.InTurn.{is_reset}
use Rattle.nim_history.specs.Kept.{contents_read}
use Rattle.nim_worker.specs.Taken.{has_released, taken_of}
use Rattle.nim_lockstep.specs.declared.ran.Ran.{Ran}
use Rattle.nim_lockstep.specs.Cluster.{Batched, Node}

-- ---- what may happen

-- whether there is something in a list
abbrev pub has_any : {X : Type 0} → List X → Bool
has_any {X} xs = not (length xs == 0)

-- the frames of data from a worker that wait
abbrev pub frames_from : ℕ → Node → List Data
frames_from from node = slice_index_or node.frames from []

-- whether a worker may take its next order
abbrev pub may_order : Node → Bool
may_order node = has_any node.orders

-- whether the controller may take its next report
abbrev pub may_report : Node → Bool
may_report node = has_any node.reports

-- whether the worker may take the next frame from another
abbrev pub may_frame : ℕ → Node → Bool
may_frame from node = has_any (frames_from from node)

-- whether it may begin a batch of at most so many commands: none is out, and a command is released
abbrev pub may_begin : ℕ → Node → Bool
may_begin most node =
    nat_le 1 most && nat_le most 16 && not (is_some node.batch) && has_released (state_of node.happened)

-- whether it may finish a batch
abbrev pub may_finish : Node → Bool
may_finish node = is_some node.batch

-- ---- orders and frames

-- a batch that is out, once an order came
abbrev pub batch_after : ToWorker → Option Batched → Option Batched
batch_after order batch =
    if is_reset order then option_map (λ (b : Batched). record b { stale = true }) batch else batch

-- a worker that takes the first of these orders
abbrev pub order_taken : List ToWorker → Node → Node
order_taken [] node = node
order_taken (order ∷ rest) node = record node {
  happened = node.happened ++ Ordered order ∷ [];
  batch = batch_after order node.batch;
  orders = rest;
}

-- a worker that takes the first of these frames from a worker
abbrev pub frame_taken : ℕ → List Data → Node → Node
frame_taken from [] node = node
frame_taken from (frame ∷ rest) node = record node {
  happened = node.happened ++ Framed frame ∷ [];
  frames = slice_set node.frames from rest;
}

-- ---- batches

-- what a command runs, with what it reads of these slots, if it is a Run
abbrev pub ran_by_command : Worker → ℕ → (Slot → Option Held) → Kind → List Ran
ran_by_command worker epoch slots (Run position func params reads writes) = record {
  worker = worker;
  epoch = epoch;
  position = position;
  reads = contents_read func params reads writes slots;
} ∷ []
ran_by_command worker epoch slots kind = []

-- what the command at a place runs
abbrev pub run_at : Worker → WorkerState → ℕ → List Ran
run_at worker state place =
    option_map_or (λ (asked : Asked). ran_by_command worker state.session.epoch state.slots asked.command.kind)
    (asked_at state.session.groups place)
    []

-- what the commands at these places run, in order
abbrev pub runs_at : Worker → WorkerState → List ℕ → List Ran
runs_at worker state places = flat_map (run_at worker state) places

-- a batch of at most so many commands, begun there
abbrev pub batch_of : Worker → ℕ → WorkerState → Batched
batch_of worker most state =
    let places : List ℕ = taken_of state most in
    record { places = places; runs = runs_at worker state places; stale = false }

-- a worker that begins it
abbrev pub batch_begun : Worker → ℕ → Node → Node
batch_begun worker most node = record node { batch = Some (batch_of worker most (state_of node.happened)) }

-- what is completed when a batch is finished: nothing where a Reset came since it was begun
abbrev pub batch_completions : Batched → List Happening
batch_completions b = if b.stale then [] else map Completed b.places

-- what is run by then: a batch that is dropped runs nothing
abbrev pub runs_by : Batched → List Ran
runs_by b = if b.stale then [] else b.runs

-- a worker that has finished its batch
abbrev pub finished : Batched → Node → Node
finished b node = record node { happened = node.happened ++ batch_completions b; batch = None }

-- what it gave by that
abbrev pub outs_by : Batched → Node → List Out
outs_by b node =
    drop (length (state_of node.happened).gave) (state_of (node.happened ++ batch_completions b)).gave

-- one more frame of data waits that a worker sent
abbrev pub frame_sent : ℕ → Data → Node → Node
frame_sent from frame node =
    record node { frames = slice_set node.frames from (frames_from from node ++ frame ∷ []) }
