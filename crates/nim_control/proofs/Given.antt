-- Moves that give orders: the output of a variable that is asked for, and a block whose turn it is.
use Rattle.std.proofs.Common.{◌≡◌, ℕ, Bool, true, false, ℤ, pos, List, [], ◌∷◌, ◌++◌, length, refl, ap, ap₂, sym, ◌∙◌}
use Rattle.std.specs.Prelude.{if◌then◌else◌}
use Rattle.std.proofs.lemmas.List.{length-map}
use Rattle.nim_base.specs.declared.number.Object.{Object}
use Rattle.nim_base.specs.declared.task.Task.{Task}
use Rattle.nim_base.specs.declared.task.TaskForm.{TaskForm}
use Rattle.nim_command.specs.Numbers.{counted_from}
use Rattle.nim_job.specs.declared.ask.Ask.{Ask}
use Rattle.nim_job.specs.Machine.{Machine, after_ask, answered, ask_of}
use Rattle.nim_job.specs.Tasks.{block_forms_of, block_tasks_of, task_with_args}
use Rattle.nim_reuse.specs.Decisions.{Decisions, is_recorded}
use Rattle.nim_course.specs.declared.pending.Pending.{Pending}
use Rattle.nim_course.specs.declared.summary.Summary.{Summary}
use Rattle.nim_course.specs.Controller.{Controller, Flight, is_in_flight}
use Rattle.nim_place.specs.Directed.{Directed}
use Rattle.nim_course.specs.Moves.{asked, after_pending, fetching, objects_in, orders_asked, orders_of, orders_with, with_block, with_instance}
use Rattle.nim_course.specs.OrdersGiven.{fetch_orders, flight_of}
use Rattle.nim_course.specs.Summaries.{counted_on}
use Rattle.nim_control.specs.Given.{IsGiven, awaiting, objects_from}
use Rattle.nim_control.specs.Sites.{Sites, controller_sites}

-- ---- an output

pub output_given : (seen now : Controller) (var first count : ℕ) (before after : List Directed) → seen ≡ now → ask_of seen.machine ≡ Ask.Output var
    → objects_from first count ≡ objects_in seen var → after ≡ before ++ fetch_orders seen (objects_from first count)
    → after ≡ before ++ orders_asked now (ask_of now.machine)
output_given seen now var first count before after is asks objects gave =
    gave ∙ ap (λ (os : List Object). before ++ fetch_orders seen os) objects
    ∙ ap (λ (ask : Ask). before ++ orders_asked seen ask) (sym asks)
    ∙ ap (λ (c : Controller). before ++ orders_asked c (ask_of c.machine)) is

pub output_asked : (seen now next : Controller) (m : Machine) (var first count : ℕ) → seen ≡ now → ask_of seen.machine ≡ Ask.Output var
    → m ≡ after_ask seen.machine → objects_from first count ≡ objects_in seen var
    → next ≡ fetching (record seen { machine = m }) (objects_from first count) (Pending.Parts var)
    → next ≡ asked now (ask_of now.machine)
output_asked seen now next m var first count is asks after objects fetched =
    fetched
    ∙ ap₂ (λ (n : Machine) (os : List Object). fetching (record seen { machine = n }) os (Pending.Parts var)) after objects
    ∙ ap (asked seen) (sym asks)
    ∙ ap (λ (c : Controller). asked c (ask_of c.machine)) is

-- ---- a block

pub block_given : (seen now : Controller) (block : ℕ) (args : List ℤ) (before after : List Directed) (new : Sites) (decided : Decisions)
    (counts : Summary) (flight : Flight) → seen ≡ now → seen.pending ≡ Pending.Block block args
    → IsGiven (is_recorded seen.decisions block) seen block args before after new decided counts flight → after ≡ before ++ orders_of now
block_given seen now block args before after new decided counts flight is pending given =
    given.orders ∙ ap (λ (p : Pending). before ++ orders_with seen p) (sym pending) ∙ ap (λ (c : Controller). before ++ orders_of c) is

-- what is in flight of an instance that was given
open_flight : (c : Controller) (tasks : List Task) → (if is_in_flight (awaiting c tasks) then awaiting c tasks ∷ [] else []) ≡ flight_of c tasks
open_flight c [] = refl
open_flight c (task ∷ tasks) = refl

pub flights_are : (c : Controller) (tasks : List Task) (flight : Flight) (now : List Flight)
    → now ≡ c.flight ++ (if is_in_flight flight then flight ∷ [] else []) → flight ≡ awaiting c tasks → now ≡ c.flight ++ flight_of c tasks
flights_are c tasks flight now pushed is =
    pushed ∙ ap (λ (f : Flight). c.flight ++ (if is_in_flight f then f ∷ [] else [])) is
    ∙ ap (λ (fs : List Flight). c.flight ++ fs) (open_flight c tasks)

-- a controller with what an instance changes
abbrev pub with_given : Controller → Machine → Sites → Decisions → ℕ → ℕ → List Flight → Summary → Controller
with_given c m sites decisions position instance flight summary = record c {
  place = sites.place;
  live = sites.live;
  machine = m;
  versions = sites.versions;
  decisions = decisions;
  position = position;
  instance = instance;
  pending = Pending.Idle;
  flight = flight;
  summary = summary;
}

-- it is what the controller comes to
with_all : (recorded : Bool) (c : Controller) (block : ℕ) (args : List ℤ)
    → with_given c (answered c.machine (pos 0)) (record (controller_sites c) { versions = (with_block recorded c block args).versions })
    (with_block recorded c block args).decisions (counted_from c.position (length (block_forms_of c.job block))) (counted_on c.instance 1)
    (with_block recorded c block args).flight (with_block recorded c block args).summary ≡ with_block recorded c block args
with_all true c block args = refl
with_all false c block args =
    ap (λ (count : ℕ). record (with_instance c block (block_tasks_of c.job block args)) { position = counted_from c.position count })
    (sym (length-map (block_forms_of c.job block) (task_with_args args)))

pub block_done : (seen now : Controller) (block : ℕ) (args : List ℤ) (forms : List TaskForm) (before after : List Directed) (new : Sites)
    (decided : Decisions) (summary : Summary) (flight : Flight) (m : Machine) (position instance : ℕ) (flights : List Flight)
    → seen ≡ now → seen.pending ≡ Pending.Block block args → forms ≡ block_forms_of seen.job block
    → IsGiven (is_recorded seen.decisions block) seen block args before after new decided summary flight → m ≡ answered seen.machine (pos 0)
    → position ≡ counted_from seen.position (length forms) → instance ≡ counted_on seen.instance 1
    → flights ≡ seen.flight ++ (if is_in_flight flight then flight ∷ [] else [])
    → with_given seen m new decided position instance flights summary ≡ after_pending now now.pending
block_done seen now block args forms before after new decided summary flight m position instance flights is pending made are told counts begins flies =
    let recorded : Bool = is_recorded seen.decisions block in
    let next : Controller = with_block recorded seen block args in
    let sites : Sites = record (controller_sites seen) { versions = next.versions } in
    ap₂ (λ (n : Machine) (s : Sites). with_given seen n s decided position instance flights summary) told are.has_sites
    ∙ ap₂ (λ (d : Decisions) (fs : List Flight). with_given seen (answered seen.machine (pos 0)) sites d position instance fs summary) are.has_decisions
    (flies ∙ are.has_flight)
    ∙ ap₂ (λ (p i : ℕ). with_given seen (answered seen.machine (pos 0)) sites next.decisions p i next.flight summary)
    (counts ∙ ap (λ (fs : List TaskForm). counted_from seen.position (length fs)) made) begins
    ∙ ap (with_given seen (answered seen.machine (pos 0)) sites next.decisions (counted_from seen.position (length (block_forms_of seen.job block)))
    (counted_on seen.instance 1) next.flight) are.has_counts
    ∙ with_all recorded seen block args
    ∙ ap (after_pending seen) (sym pending)
    ∙ ap (λ (c : Controller). after_pending c c.pending) is
