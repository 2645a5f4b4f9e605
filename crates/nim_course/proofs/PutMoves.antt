-- One more move: what it gives, and what is counted and decided then.
use Rattle.std.proofs.Common.{◌≡◌, ℕ, ◌+◌, Bool, true, false, List, [], ◌∷◌, ◌++◌, length, map, refl, ap, ap₂, sym, subst, ◌∙◌, arith, Some}
use Rattle.std.specs.Prelude.{All, if◌then◌else◌, slice_get}
use Rattle.std.specs.List.{sum_by}
use Rattle.std.proofs.lemmas.Bool.{both_ways}
use Rattle.std.proofs.lemmas.List.{append-nil, length-append}
use Rattle.std.proofs.lemmas.List.Elements.{All-nil}
use Rattle.std.proofs.lemmas.List.Sums.{sum_by-append}
use Rattle.nim_base.specs.declared.number.Worker.{Worker}
use Rattle.nim_message.specs.declared.order.ToWorker.{ToWorker}
use Rattle.nim_message.specs.declared.order.ToWorker.TheVariants.{Reset}
use Rattle.nim_message.specs.Lengths.{capped, order_length_of}
use Rattle.nim_job.specs.declared.ask.Ask.{Ask}
use Rattle.nim_job.specs.declared.job.Job.{Job}
use Rattle.nim_job.specs.Machine.{ask_of}
use Rattle.nim_job.specs.Objects.{shapes_of}
use Rattle.nim_place.specs.Directed.{Directed, directed, orders_to}
use Rattle.nim_place.specs.Extends.{is_live, worker_of}
use Rattle.nim_place.specs.Orders.{resets_of}
use Rattle.nim_patch.specs.Uses.{Use}
use Rattle.nim_reuse.specs.Decisions.{Decisions}
use Rattle.nim_course.specs.declared.pending.Pending.TheVariants.{Begin, Idle, Cell, Parts, Ended}
use Rattle.nim_course.specs.declared.summary.Summary.{Summary}
use Rattle.nim_course.specs.declared.summary.WorkerLine.{WorkerLine}
use Rattle.nim_course.specs.Controller.{Controller}
use Rattle.nim_course.specs.Leads.{AreLeading, AreLeadingFor, Leads, is_key_from}
use Rattle.nim_course.specs.Moves.{asked, after_pending, orders_of, orders_asked, orders_with, with_counted}
use Rattle.nim_course.specs.OrdersGiven.{epoch_orders, first_commands, single_for}
use Rattle.nim_course.specs.PutLists.{ArePut, HasNoFirst, IsMove, is_begin, last_block, line_for, nths_given, orders_by_moves, uses_by}
use Rattle.nim_course.specs.Summaries.{tasks_for}
use Rattle.nim_place.proofs.Directed.{to_append}
use Rattle.nim_place.proofs.LiveOnce.{live_within}
use Rattle.nim_course.proofs.PutCounts.{control_after, control_counted, line_counts, line_of, lines_each, lines_many, orders_keep}
use Rattle.nim_course.proofs.PutDecisions.{IsQuiet, RestOn, quiet_begin, quiet_cell, quiet_ended, quiet_idle, quiet_parts, quiet_rests}
use Rattle.nim_course.proofs.PutFirst.{ArePlainOf, alone_singles, asked_plain, plain_none, plain_singles}
use Rattle.nim_course.proofs.PutTasks.{ComeToTasks, more_singles, runs_of, to_own}
use Rattle.nim_course.proofs.PutInstances.{AreCountsOf, none_counted}

-- ---- what a move leaves, its orders not counted yet

-- live workers' orders stand for the tasks that are counted of them
abbrev pub AddTasks : Controller → Decisions → List Directed → List Directed → Type 0
AddTasks c decisions given orders =
    (worker : Worker) → is_live c.live worker ≡ true
    → runs_of (orders_to worker.0 (given ++ orders)) ≡ runs_of (orders_to worker.0 given) + sum_by (tasks_for decisions worker) (orders_to worker.0 orders)

-- from one controller to the next, with the moves behind it
pub record IsStep (c next : Controller) (given orders : List Directed) (moves : List Controller) : Type 0 where
  pub move : IsMove moves c c.pending
  pub live : next.live ≡ c.live
  pub blocks : length next.job.blocks ≡ length c.job.blocks
  pub begun : is_begin next.pending ≡ false
  pub rests : RestOn (c ∷ moves) (length c.job.blocks) next.decisions
  pub counts : AreCountsOf (nths_given (c ∷ moves)) (uses_by (c ∷ moves)) next.summary
  pub control : next.summary.control ≡ c.summary.control
  pub workers : next.summary.workers ≡ c.summary.workers
  pub tasks : AddTasks c next.decisions given orders

-- the counts of instances and patches so far
pub counts_put : (c : Controller) (given : List Directed) (put : ArePut c given) → AreCountsOf (nths_given put.moves) (uses_by put.moves) c.summary
counts_put c given put = record {
  instances = put.summary.instances;
  single = put.summary.single;
  installed = put.summary.installed;
  cached = put.summary.cached;
  made = put.summary.made;
  repeated = put.summary.repeated;
  taken = put.summary.taken;
  refused = put.summary.refused;
  edits = put.summary.edits;
  rollbacks = put.summary.rollbacks;
}

-- what was decided so far
pub rests_put : (c : Controller) (given : List Directed) (put : ArePut c given) → RestOn put.moves (length c.job.blocks) c.decisions
rests_put c given put = record { previous = put.previous; uses = put.uses; many = put.blocks; decided = put.decided }

-- the orders are counted then
pub counted_put : (c next : Controller) (given : List Directed) (put : ArePut c given) → IsStep c next given (orders_of c) put.moves
    → ArePut (with_counted (orders_of c) next) (given ++ orders_of c)
counted_put c next given put step =
    let orders : List Directed = orders_of c in
    let kept = orders_keep next.decisions orders next.summary in
    let total : List Directed → ℕ = sum_by (λ (d : Directed). order_length_of d.1) in
    record {
      moves = c ∷ put.moves;
      orders = ap (λ (ds : List Directed). ds ++ orders) put.orders;
      each = (step.move, put.each);
      summary = record {
        instances = ap (λ (s : Summary). s.instances) kept ∙ step.counts.instances;
        single = ap (λ (s : Summary). s.single) kept ∙ step.counts.single;
        installed = ap (λ (s : Summary). s.installed) kept ∙ step.counts.installed;
        cached = ap (λ (s : Summary). s.cached) kept ∙ step.counts.cached;
        made = ap (λ (s : Summary). s.made) kept ∙ step.counts.made;
        repeated = ap (λ (s : Summary). s.repeated) kept ∙ step.counts.repeated;
        taken = ap (λ (s : Summary). s.taken) kept ∙ step.counts.taken;
        refused = ap (λ (s : Summary). s.refused) kept ∙ step.counts.refused;
        edits = ap (λ (s : Summary). s.edits) kept ∙ step.counts.edits;
        rollbacks = ap (λ (s : Summary). s.rollbacks) kept ∙ step.counts.rollbacks;
        control =
            ap (λ (s : Summary). s.control) kept ∙ ap (control_after orders) (step.control ∙ put.summary.control)
            ∙ control_counted orders (total given) ∙ ap capped (sym (sum_by-append (λ (d : Directed). order_length_of d.1) given orders));
        workers =
            ap (λ (s : Summary). length s.workers) kept ∙ lines_many next.decisions orders next.summary.workers
            ∙ ap length step.workers ∙ put.summary.workers ∙ ap length (sym step.live);
        lines = λ worker there.
            (let lives : is_live c.live worker ≡ true = subst (λ (flags : List Bool). is_live flags worker ≡ true) step.live there in
            let own : List ToWorker = orders_to worker.0 orders in
            let line : slice_get next.summary.workers worker.0 ≡ Some (line_for given worker) =
            ap (λ (lines : List WorkerLine). slice_get lines worker.0) step.workers ∙ put.summary.lines worker lives in
            ap (λ (s : Summary). slice_get s.workers worker.0) kept
            ∙ lines_each next.decisions worker orders next.summary.workers (line_for given worker) line
            ∙ ap Some (line_counts next.decisions worker own (runs_of (orders_to worker.0 given)) (length (orders_to worker.0 given))
            ∙ ap₂ line_of (sym (step.tasks worker lives))
            (sym (ap length (to_append worker.0 given orders) ∙ length-append (orders_to worker.0 given) own))));
      };
      first = λ is. absurd (both_ways (is_begin next.pending) step.begun is);
      previous = step.rests.previous;
      uses = step.rests.uses;
      blocks = step.rests.many ∙ sym step.blocks;
      decided = λ block below. step.rests.decided block (omega (arith, below, step.blocks));
    }

-- ---- tasks

-- where the session of each live worker is of the epoch, Singles add their runs
pub singles_tasks : (c : Controller) (decisions : Decisions) (given more : List Directed) (epoch : ℕ)
    → ((worker : Worker) → is_live c.live worker ≡ true → ComeToTasks epoch (orders_to worker.0 given) (runs_of (orders_to worker.0 given)))
    → ArePlainOf epoch more → AddTasks c decisions given more
singles_tasks c decisions given more epoch come are = λ worker there.
    (more_singles decisions worker epoch given more (runs_of (orders_to worker.0 given)) (come worker there) (plain_singles epoch more are)).runs

-- no orders add none
none_tasks : (c : Controller) (decisions : Decisions) (given : List Directed) → AddTasks c decisions given []
none_tasks c decisions given = λ worker there.
    (let same : runs_of (orders_to worker.0 given) ≡ runs_of (orders_to worker.0 given) + 0 = omega arith in
    ap (λ (ds : List Directed). runs_of (orders_to worker.0 ds)) (append-nil given) ∙ same)

-- once the epoch was begun the sessions of live workers are of it
pub sessions_come : (c : Controller) (given : List Directed) (position : ℕ) (decisions : Decisions)
    → AreLeading c.job c.place c.live c.epoch position (is_key_from c.epoch c.instance) given c.versions decisions
    → (worker : Worker) → is_live c.live worker ≡ true → ComeToTasks c.epoch (orders_to worker.0 given) (runs_of (orders_to worker.0 given))
sessions_come c given position decisions leading worker there = record {
  begun = leading.so_far.ask.begun worker there;
  epoch = leading.so_far.ask.epoch worker there;
  runs = refl;
}

-- the start, before which there were none
start_tasks : (c : Controller) (decisions : Decisions) → AddTasks c decisions [] (epoch_orders c)
start_tasks c decisions = λ worker there.
    (let lists : ℕ → List ToWorker = resets_of c.live c.epoch (length c.live) (shapes_of c.job.vars) in
    let resets : List Directed = directed (length c.live) lists in
    let firsts : List Directed = map (single_for c.epoch) (first_commands c 0 c.job.vars) in
    let reset : ToWorker = Reset c.epoch (worker_of worker.0) (length c.live) (shapes_of c.job.vars) in
    let own : orders_to worker.0 resets ≡ reset ∷ [] =
    to_own (length c.live) lists worker.0 (live_within c.live worker there) ∙ ap (λ (b : Bool). if b then reset ∷ [] else []) there in
    let begun : ComeToTasks c.epoch (orders_to worker.0 resets) 0 =
    subst (λ (os : List ToWorker). ComeToTasks c.epoch os 0) (sym own) (record { begun = refl; epoch = refl; runs = refl }) in
    let all = more_singles decisions worker c.epoch resets firsts 0 begun (alone_singles c.epoch (first_commands c 0 c.job.vars)) in
    let none : sum_by (tasks_for decisions worker) (orders_to worker.0 resets) ≡ 0 = ap (sum_by (tasks_for decisions worker)) own in
    omega (
      arith,
      all.runs,
      ap (sum_by (tasks_for decisions worker)) (to_append worker.0 resets firsts),
      sum_by-append (tasks_for decisions worker) (orders_to worker.0 resets) (orders_to worker.0 firsts),
      none,
    ))

-- ---- each kind of move

-- what a move leaves that gives no instance
record IsStill (c next : Controller) : Type 0 where
  live : next.live ≡ c.live
  job : next.job ≡ c.job
  begun : is_begin next.pending ≡ false
  decisions : next.decisions ≡ c.decisions
  summary : next.summary ≡ c.summary

-- it counts its orders alone
quiet_step : (c next : Controller) (given orders : List Directed) (put : ArePut c given) → IsQuiet c c.pending → IsMove put.moves c c.pending
    → IsStill c next → ((decisions : Decisions) → AddTasks c decisions given orders) → IsStep c next given orders put.moves
quiet_step c next given orders put quiet move still tasks =
    let nths : List ℕ = nths_given put.moves in
    let uses : List Use = uses_by put.moves in
    record {
      move = move;
      live = still.live;
      blocks = ap (λ (job : Job). length job.blocks) still.job;
      begun = still.begun;
      rests = subst (RestOn (c ∷ put.moves) (length c.job.blocks)) (sym still.decisions)
          (quiet_rests c put.moves (length c.job.blocks) c.decisions quiet (rests_put c given put));
      counts =
          subst (AreCountsOf (nths_given (c ∷ put.moves)) (uses_by (c ∷ put.moves))) (sym still.summary)
          (subst (λ (us : List Use). AreCountsOf (nths_given (c ∷ put.moves)) (us ++ uses) c.summary) (sym (quiet.use_none (last_block put.moves)))
          (subst (λ (nth : ℕ). AreCountsOf (nth ∷ nths) uses c.summary) (sym (quiet.nth put.moves))
          (none_counted nths uses c.summary (counts_put c given put))));
      control = ap (λ (s : Summary). s.control) still.summary;
      workers = ap (λ (s : Summary). s.workers) still.summary;
      tasks = tasks next.decisions;
    }

-- moves without orders
nothing_first : All (λ (d : Directed). HasNoFirst d.1) []
nothing_first = All-nil (λ (d : Directed). HasNoFirst d.1)

-- the epoch is begun
pub begin_step : (c : Controller) (given : List Directed) (put : ArePut c given) → c.pending ≡ Begin
    → IsStep c (after_pending c Begin) given (orders_with c Begin) put.moves
begin_step c given put is =
    let first : put.moves ≡ [] = put.first (ap is_begin is) in
    let none : given ≡ [] = put.orders ∙ ap orders_by_moves first in
    quiet_step c (after_pending c Begin) given (epoch_orders c) put (subst (IsQuiet c) (sym is) (quiet_begin c))
    (subst (IsMove put.moves c) (sym is) (record { first = first; orders = ap (orders_with c) is }))
    (record { live = refl; job = refl; begun = refl; decisions = refl; summary = refl })
    (λ decisions. subst (λ (ds : List Directed). AddTasks c decisions ds (epoch_orders c)) (sym none) (start_tasks c decisions))

-- the driver is asked
idle_still : (c : Controller) (ask : Ask) → c.pending ≡ Idle → IsStill c (asked c ask)
idle_still c (Ask.Run block args) is = record { live = refl; job = refl; begun = refl; decisions = refl; summary = refl }
idle_still c (Ask.Get object row cell) is = record { live = refl; job = refl; begun = refl; decisions = refl; summary = refl }
idle_still c Ask.Checkpoint is = record { live = refl; job = refl; begun = ap is_begin is; decisions = refl; summary = refl }
idle_still c (Ask.Output var) is = record { live = refl; job = refl; begun = refl; decisions = refl; summary = refl }
idle_still c Ask.Finished is = record { live = refl; job = refl; begun = refl; decisions = refl; summary = refl }
idle_still c Ask.Limit is = record { live = refl; job = refl; begun = ap is_begin is; decisions = refl; summary = refl }

-- what the driver asks leads to its orders
pub idle_step : (c : Controller) (given : List Directed) (put : ArePut c given) → Leads c.job c given → c.pending ≡ Idle
    → IsStep c (after_pending c Idle) given (orders_with c Idle) put.moves
idle_step c given put leads is =
    let orders : List Directed = orders_asked c (ask_of c.machine) in
    let plain : ArePlainOf c.epoch orders = asked_plain c (ask_of c.machine) in
    let leading = subst (AreLeadingFor c.job c given) is leads.leading in
    quiet_step c (after_pending c Idle) given orders put (subst (IsQuiet c) (sym is) (quiet_idle c))
    (subst (IsMove put.moves c) (sym is)
    (subst (All (λ (d : Directed). HasNoFirst d.1)) (sym (ap (orders_with c) is)) (plain_none c.epoch orders plain)))
    (idle_still c (ask_of c.machine) is)
    (λ decisions. singles_tasks c decisions given orders c.epoch (sessions_come c given c.position c.decisions leading) plain)

-- a cell was told
pub cell_step : (c : Controller) (given : List Directed) (put : ArePut c given) (row cell : ℕ) → c.pending ≡ Cell row cell
    → IsStep c (after_pending c (Cell row cell)) given [] put.moves
cell_step c given put row cell is =
    quiet_step c (after_pending c (Cell row cell)) given [] put (subst (IsQuiet c) (sym is) (quiet_cell c row cell))
    (subst (IsMove put.moves c) (sym is) (subst (All (λ (d : Directed). HasNoFirst d.1)) (sym (ap (orders_with c) is)) nothing_first))
    (record { live = refl; job = refl; begun = refl; decisions = refl; summary = refl }) (λ decisions. none_tasks c decisions given)

-- the parts of a variable were printed
pub parts_step : (c : Controller) (given : List Directed) (put : ArePut c given) (var : ℕ) → c.pending ≡ Parts var
    → IsStep c (after_pending c (Parts var)) given [] put.moves
parts_step c given put var is =
    quiet_step c (after_pending c (Parts var)) given [] put (subst (IsQuiet c) (sym is) (quiet_parts c var))
    (subst (IsMove put.moves c) (sym is) (subst (All (λ (d : Directed). HasNoFirst d.1)) (sym (ap (orders_with c) is)) nothing_first))
    (record { live = refl; job = refl; begun = refl; decisions = refl; summary = refl }) (λ decisions. none_tasks c decisions given)

-- the job is done
pub ended_step : (c : Controller) (given : List Directed) (put : ArePut c given) → c.pending ≡ Ended
    → IsStep c (after_pending c Ended) given [] put.moves
ended_step c given put is =
    quiet_step c (after_pending c Ended) given [] put (subst (IsQuiet c) (sym is) (quiet_ended c))
    (subst (IsMove put.moves c) (sym is) (subst (All (λ (d : Directed). HasNoFirst d.1)) (sym (ap (orders_with c) is)) nothing_first))
    (record { live = refl; job = refl; begun = ap is_begin is; decisions = refl; summary = refl }) (λ decisions. none_tasks c decisions given)
