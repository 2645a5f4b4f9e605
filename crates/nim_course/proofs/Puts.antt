-- The orders of a controller are put so: at its start, after each turn, and after each report.
use Rattle.std.proofs.Common.{◌≡◌, ℕ, ◌<◌, zero, suc, Bool, true, false, ℤ, List, [], ◌++◌, length, replicate, refl, sym, subst, ◌∙◌, Option, None, Some, arith}
use Rattle.std.specs.Prelude.{◌==◌, if◌then◌else◌, slice_get}
use Rattle.std.proofs.lemmas.List.{append-nil, append_assoc, get_or-replicate, length-replicate}
use Rattle.nim_base.specs.declared.number.Worker.{Worker}
use Rattle.nim_message.specs.declared.report.FromWorker.{FromWorker}
use Rattle.nim_message.specs.declared.report.FromWorker.TheVariants.{Value, Ran, Through, NoMemory, PeerDown}
use Rattle.nim_job.specs.declared.job.Job.{Job}
use Rattle.nim_job.specs.declared.ask.Ask.{Ask}
use Rattle.nim_place.specs.Directed.{Directed}
use Rattle.nim_place.specs.Extends.{is_live}
use Rattle.nim_reuse.specs.declared.decided.Decided.TheVariants.{Open}
use Rattle.nim_reuse.specs.Decisions.{is_recorded}
use Rattle.nim_course.specs.declared.fetched.Fetched.{Fetched}
use Rattle.nim_course.specs.declared.outcome.Outcome.{Outcome}
use Rattle.nim_course.specs.declared.pending.Pending.{Pending}
use Rattle.nim_course.specs.declared.pending.Pending.TheVariants.{Begin, Idle, Block, Cell, Parts, Ended}
use Rattle.nim_course.specs.declared.setup.Setup.{Setup}
use Rattle.nim_course.specs.Controller.{Controller, Flight, new_controller}
use Rattle.nim_course.specs.Leads.{HasAsked, Leads, IsDriverAt}
use Rattle.nim_course.specs.Moves.{AreFree, IsTurned, after_moves, does_wait, after_pending, is_held_up, moved, orders_of_moves, orders_of, orders_of_block, orders_with, with_block}
use Rattle.nim_course.specs.PutLists.{ArePut, ControllersPut, line_for}
use Rattle.nim_course.specs.Reports.{after_report, flight_after, flight_through, reported, value_reported}
use Rattle.nim_place.proofs.LiveOnce.{live_within}
use Rattle.nim_course.proofs.Asking.{run_allowed}
use Rattle.nim_course.proofs.Standing.{held_parts}
use Rattle.nim_course.proofs.Turns.{moves_lead}
use Rattle.nim_course.proofs.PutBlocks.{again_step, first_step}
use Rattle.nim_course.proofs.PutMoves.{IsStep, begin_step, cell_step, counted_put, ended_step, idle_step, parts_step}

-- ---- one move

-- the block that was asked for is there
block_there : (c : Controller) (given : List Directed) (block : ℕ) (args : List ℤ) → c.outcome ≡ None → c.pending ≡ Block block args → Leads c.job c given
    → block < length c.job.blocks
block_there c given block args none is leads =
    let asked : HasAsked c.job (Ask.Run block args) c.machine c.position = subst (IsDriverAt c.job c) is (leads.driver none) in
    (run_allowed c.job asked.before c.position block args leads.whole asked.opened asked.asks).0

-- an instance of a block, as a whole where the block was recorded
block_step : (c : Controller) (given : List Directed) (put : ArePut c given) (block : ℕ) (args : List ℤ) → c.outcome ≡ None → Leads c.job c given
    → c.pending ≡ Block block args → IsStep c (after_pending c (Block block args)) given (orders_with c (Block block args)) put.moves
block_step c given put block args none leads is = either (is_recorded c.decisions block) refl where
  below : block < length c.job.blocks
  below = block_there c given block args none is leads

  either : (b : Bool) → is_recorded c.decisions block ≡ b → IsStep c (with_block b c block args) given (orders_of_block b c block args) put.moves
  either false new = first_step c given put block args leads is below new
  either true old = again_step c given put block args leads is below old

-- whatever is pending
each_step : (c : Controller) (given : List Directed) (put : ArePut c given) (pending : Pending) → c.outcome ≡ None → Leads c.job c given
    → c.pending ≡ pending → IsStep c (after_pending c pending) given (orders_with c pending) put.moves
each_step c given put Begin none leads is = begin_step c given put is
each_step c given put Idle none leads is = idle_step c given put leads is
each_step c given put (Block block args) none leads is = block_step c given put block args none leads is
each_step c given put (Cell row cell) none leads is = cell_step c given put row cell is
each_step c given put (Parts var) none leads is = parts_step c given put var is
each_step c given put Ended none leads is = ended_step c given put is

-- the law of one move
move_put : (job : Job) (c : Controller) (given : List Directed) → Leads job c given → is_held_up c ≡ false → ArePut c given
    → ArePut (moved c) (given ++ orders_of c)
move_put job c given leads free put =
    let own : Leads c.job c given = subst (λ (j : Job). Leads j c given) (sym leads.is_job) leads in
    counted_put c (after_pending c c.pending) given put
    (each_step c given put c.pending (held_parts c.outcome (does_wait c c.pending) free).0 own refl)

-- ---- a turn

-- one move after another
moves_put : (job : Job) (c : Controller) (given : List Directed) (count : ℕ) → Leads job c given → AreFree count c → ArePut c given
    → ArePut (after_moves count c) (given ++ orders_of_moves count c)
moves_put job c given zero leads free put = subst (ArePut c) (sym (append-nil given)) put
moves_put job c given (suc count) leads free put =
    let now : Controller = after_moves count c in
    subst (ArePut (moved now)) (append_assoc given (orders_of_moves count c) (orders_of now))
    (move_put job now (given ++ orders_of_moves count c) (moves_lead job c given count leads free.0) free.1 (moves_put job c given count leads free.0 put))

-- where nothing changes but what was told
still_put : (c : Controller) (given : List Directed) (fetched : List Fetched) (flight : List Flight) (due : Bool) (outcome : Option Outcome) → ArePut c given
    → ArePut (record c { fetched = fetched; flight = flight; due = due; outcome = outcome }) given
still_put c given fetched flight due outcome put = record {
  moves = put.moves;
  orders = put.orders;
  each = put.each;
  summary = put.summary;
  first = put.first;
  previous = put.previous;
  uses = put.uses;
  blocks = put.blocks;
  decided = put.decided;
}

-- the law of a turn
turn_put : (job : Job) (before after : Controller) (given orders : List Directed) → Leads job before given → IsTurned before orders after
    → ArePut before given → ArePut after (given ++ orders)
turn_put job before after given orders leads turned put =
    let moves = turned.moved in
    let end : ArePut turned.end (given ++ orders) =
    subst (λ (ds : List Directed). ArePut turned.end (given ++ ds)) (sym moves.gave)
    (subst (λ (c : Controller). ArePut c (given ++ orders_of_moves moves.count before)) (sym moves.state)
    (moves_put job before given moves.count leads moves.free put)) in
    subst (λ (c : Controller). ArePut c (given ++ orders)) (sym turned.rests)
    (still_put turned.end (given ++ orders) turned.end.fetched turned.end.flight false turned.end.outcome end)

-- ---- a report

-- one of another epoch counts for nothing
if_put : (b : Bool) (one other : Controller) (given : List Directed) → ArePut one given → ArePut other given
    → ArePut (if b then one else other) given
if_put true one other given first second = first
if_put false one other given first second = second

-- a report of a live worker
reported_put : (c : Controller) (given : List Directed) (from : Worker) (report : FromWorker) → ArePut c given → ArePut (reported c from report) given
reported_put c given from (Value epoch ticket object version value) put =
    if_put (epoch == c.epoch) _ c given (still_put c given (value_reported c ticket object version value) c.flight c.due c.outcome put) put
reported_put c given from (Ran epoch position reads) put =
    if_put (epoch == c.epoch) _ c given (still_put c given c.fetched (flight_after from position c.flight) c.due c.outcome put) put
reported_put c given from (Through epoch instance) put =
    if_put (epoch == c.epoch) _ c given (still_put c given c.fetched (flight_through from instance c.flight) c.due c.outcome put) put
reported_put c given from NoMemory put = still_put c given c.fetched c.flight c.due (Some Outcome.NoMemory) put
reported_put c given from (PeerDown peer) put = put

-- the law of a report
report_put : (c : Controller) (given : List Directed) (from : Worker) (report : FromWorker) → ArePut c given → ArePut (after_report c from report) given
report_put c given from report put =
    let due : Controller = record c { due = true } in
    let same : ArePut due given = still_put c given c.fetched c.flight true c.outcome put in
    if_put (is_live c.live from) (reported due from report) due given (reported_put due given from report same) same

-- ---- the start

-- so many of one item
get_replicate : {X : Type 0} (n k : ℕ) (x : X) → k < n → slice_get (replicate n x) k ≡ Some x
get_replicate zero k x below = absurd (omega (arith, below))
get_replicate (suc n) zero x below = refl
get_replicate (suc n) (suc k) x below = get_replicate n k x (omega (arith, below))

-- the law of the start
start_put : (job : Job) (setup : Setup) → ArePut (new_controller job setup) []
start_put job setup = record {
  moves = [];
  orders = refl;
  each = tt;
  summary = record {
    instances = refl;
    single = refl;
    installed = refl;
    cached = refl;
    made = refl;
    repeated = refl;
    taken = refl;
    refused = refl;
    edits = refl;
    rollbacks = refl;
    control = refl;
    workers = length-replicate setup.workers _ ∙ sym (length-replicate setup.workers true);
    lines = λ worker there.
        (let below = live_within (replicate setup.workers true) worker there in
        get_replicate setup.workers worker.0 (line_for [] worker) (omega (arith, below, length-replicate setup.workers true)));
  };
  first = λ is. refl;
  previous = refl;
  uses = refl;
  blocks = length-replicate (length job.blocks) Open;
  decided = λ block below. get_or-replicate (length job.blocks) block Open Open below;
}

-- the law
pub controllers_put : ControllersPut
controllers_put = record { starts = start_put; turns = turn_put; reports = report_put }
