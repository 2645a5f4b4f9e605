-- A worker begins a batch: its commands may be completed in turn, and its runs read what program order names.
use Rattle.std.proofs.Common.{◌≡◌, ◌≢◌, ℕ, zero, suc, ◌+◌, ◌<◌, ◌≤◌, Bool, true, false, List, [], ◌∷◌, ◌++◌, length, map, refl, ap, ap₂, ◌∙◌, arith, Option, None, Some, All, inl, inr}
use Rattle.std.specs.Prelude.{if◌then◌else◌, IfSome, slice_get}
use Rattle.std.specs.List.{flat_map, list_any, range_with_len}
use Rattle.std.specs.Option.{option_map_or}
use Rattle.std.proofs.lemmas.Bool.{and_parts, both_ways, or_cases}
use Rattle.std.proofs.lemmas.List.{map-append}
use Rattle.std.proofs.lemmas.List.Elements.{All-cons, All-nil, All-weaker}
use Rattle.nim_base.specs.declared.number.Slot.{Slot}
use Rattle.nim_base.specs.declared.number.Worker.{Worker}
use Rattle.nim_command.specs.declared.command.Kind.{Kind}
use Rattle.nim_command.specs.declared.command.Kind.TheVariants.{Run}
use Rattle.nim_command.specs.Waits.{members_of}
use Rattle.nim_message.specs.declared.order.ToWorker.{ToWorker}
use Rattle.nim_order.specs.Progress.{is_one_of}
use Rattle.nim_queue.specs.Stands.{is_released}
use Rattle.nim_queue.proofs.Released.{released_at}
use Rattle.nim_job.specs.declared.job.Job.{Job}
use Rattle.nim_job.specs.Serial.{tasks_of}
use Rattle.nim_job.specs.Whole.{is_whole}
use Rattle.nim_plan.specs.Legal.{reads_at}
use Rattle.nim_place.specs.Extends.{worker_of}
use Rattle.nim_place.specs.TaskRuns.{position_run}
use Rattle.nim_store.specs.declared.held.Held.{Held}
use Rattle.nim_history.specs.History.{Asked, MayComplete, WorkerState, asked_at, has_frame, state_of}
use Rattle.nim_history.specs.Kept.{content_seen, contents_read}
use Rattle.nim_history.specs.Truth.{FindsRight, IsTrueOf, ReadsRight}
use Rattle.nim_history.proofs.Law.{histories_are_true}
use Rattle.nim_history.proofs.TrueRuns.{some_then}
use Rattle.nim_worker.specs.Taken.{has_released, may_complete, taken_of}
use Rattle.nim_worker.proofs.Released.{may_all, none_may}
use Rattle.nim_lockstep.specs.declared.ran.Ran.{Ran}
use Rattle.nim_lockstep.specs.Cluster.{Node}
use Rattle.nim_lockstep.specs.InStep.{ReadsByOrder}
use Rattle.nim_lockstep.specs.Nodes.{batch_begun, run_at, ran_by_command, runs_at}
use Rattle.nim_lockstep.proofs.NodesLists.{All_flat_map}
use Rattle.nim_lockstep.proofs.UnderWay.{IsNodeUnderWay, position_at, positions_of}

-- ---- the positions of the runs

positions_run : (worker : Worker) (epoch : ℕ) (slots : Slot → Option Held) (kind : Kind)
    → positions_of (ran_by_command worker epoch slots kind) ≡ position_run kind
positions_run worker epoch slots (Run position func params reads writes) = refl
positions_run worker epoch slots kind = refl

positions_at : (worker : Worker) (state : WorkerState) (place : ℕ) → positions_of (run_at worker state place) ≡ position_at state place
positions_at worker state place = either (asked_at state.session.groups place) where
  either : (o : Option Asked)
      → positions_of (option_map_or (λ (asked : Asked). ran_by_command worker state.session.epoch state.slots asked.command.kind) o [])
      ≡ option_map_or (λ (asked : Asked). position_run asked.command.kind) o []
  either None = refl
  either (Some asked) = positions_run worker state.session.epoch state.slots asked.command.kind

positions_all : (worker : Worker) (state : WorkerState) (places : List ℕ) → positions_of (runs_at worker state places) ≡ flat_map (position_at state) places
positions_all worker state [] = refl
positions_all worker state (place ∷ places) =
    map-append (λ (ran : Ran). ran.position) (run_at worker state place) (runs_at worker state places)
    ∙ ap₂ (λ (front rest : List ℕ). front ++ rest) (positions_at worker state place) (positions_all worker state places)

-- ---- what they are

-- A run is of this worker, in epoch 0, and read what program order names.
record IsRunRight (job : Job) (number : ℕ) (ran : Ran) : Type 0 where
  worker : ran.worker.0 ≡ number
  epoch : ran.epoch ≡ 0
  reads : ReadsByOrder job ran

run_right : (job : Job) (number epoch : ℕ) (slots : Slot → Option Held) (kind : Kind) → epoch ≡ 0 → ReadsRight job slots kind
    → All (IsRunRight job number) (ran_by_command (worker_of number) epoch slots kind)
run_right job number epoch slots (Run position func params reads writes) first right =
    let ran : Ran = record {
      worker = worker_of number;
      epoch = epoch;
      position = position;
      reads = contents_read func params reads writes slots;
    } in
    All-cons (IsRunRight job number) ran [] (record {
      worker = refl;
      epoch = first;
      reads =
          some_then (λ task. contents_read func params reads writes slots ≡ reads_at job position task) (slice_get (tasks_of job) position) right
          (λ task there parts. ap (λ (b : Bool). if b then map (content_seen slots) reads else []) parts.0 ∙ parts.1);
    }) (All-nil (IsRunRight job number))
run_right job number epoch slots kind first right = All-nil (IsRunRight job number)

place_right : (job : Job) (number : ℕ) (state : WorkerState) (place : ℕ) → state.session.epoch ≡ 0
    → IfSome (asked_at state.session.groups place) (FindsRight job state place) → All (IsRunRight job number) (run_at (worker_of number) state place)
place_right job number state place first = either (asked_at state.session.groups place) where
  either : (o : Option Asked) → IfSome o (FindsRight job state place)
      → All (IsRunRight job number)
      (option_map_or (λ (asked : Asked). ran_by_command (worker_of number) state.session.epoch state.slots asked.command.kind) o [])
  either None finds = All-nil (IsRunRight job number)
  either (Some asked) finds = run_right job number state.session.epoch state.slots asked.command.kind first finds.reads

runs_right : (job : Job) (number : ℕ) (state : WorkerState) (places : List ℕ) → state.session.epoch ≡ 0 → IsTrueOf job state → All (MayComplete state) places
    → All (IsRunRight job number) (runs_at (worker_of number) state places)
runs_right job number state places first true_of may =
    All_flat_map (IsRunRight job number) (run_at (worker_of number) state) places
    (All-weaker (MayComplete state) (λ place. All (IsRunRight job number) (run_at (worker_of number) state place))
    (λ place may_here. place_right job number state place first (true_of.next place may_here)) places may)

-- ---- a batch has commands

any_in_range : (p : ℕ → Bool) (from count : ℕ) → list_any p (range_with_len from count) ≡ true → (k : ℕ) × (k < from + count) × (p k ≡ true)
any_in_range p from zero any = absurd (both_ways false refl any)
any_in_range p from (suc count) any = elim (or_cases (p from) (list_any p (range_with_len (from + 1) count)) any) [
  | inl here ↦ (from, omega arith, here)
  | inr later ↦ let found = any_in_range p (from + 1) count later in (found.0, omega (arith, found.1), found.2)
]

some_taken : (state : WorkerState) (most : ℕ) → 1 ≤ most → has_released state ≡ true → taken_of state most ≢ []
some_taken state most least any none =
    let found = any_in_range (may_complete state) 0 (length (members_of state.session.groups)) any in
    let parts =
    and_parts (is_released state.session.groups (is_one_of state.ran) found.0)
    (option_map_or (has_frame state) (asked_at state.session.groups found.0) false) found.2 in
    let within : found.0 < length (members_of state.session.groups) = omega (arith, found.1) in
    none_may state most least none found.0
    (record { released = released_at state.session.groups (is_one_of state.ran) found.0 within parts.0; frame = parts.1 })

-- ---- the worker

pub begun_way : (job : Job) (workers number : ℕ) (trace : List Ran) (sent : List ToWorker) (most : ℕ) (node : Node) → is_whole job ≡ true → 1 ≤ most
    → has_released (state_of node.happened) ≡ true → (state_of node.happened).session.epoch ≡ 0 → IsNodeUnderWay job workers number trace sent node
    → IsNodeUnderWay job workers number trace sent (batch_begun (worker_of number) most node)
begun_way job workers number trace sent most node whole least any first is =
    let state : WorkerState = state_of node.happened in
    let true_of : IsTrueOf job state = histories_are_true job node.happened whole is.history is.handed in
    let right = runs_right job number state (taken_of state most) first true_of (may_all state most).each in
    record {
      link = is.link;
      history = is.history;
      handed = is.handed;
      senders = is.senders;
      waiting = record { reports = is.waiting.reports; frames = is.waiting.frames };
      ran = is.ran;
      told = is.told;
      batch = record {
        fresh = refl;
        some = some_taken state most least any;
        may = (may_all state most).turn;
        runs = positions_all (worker_of number) state (taken_of state most);
        workers = λ k d within. (right k d within).worker;
        epochs = λ k d within. (right k d within).epoch;
        reads = λ k d within. (right k d within).reads;
      };
    }
