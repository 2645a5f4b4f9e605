-- The move that gives an instance of a block.
use Rattle.std.proofs.Common.{◌≡◌, ℕ, ◌+◌, ◌≤◌, Bool, true, ℤ, pos, List, [], ◌++◌, length, refl, ap, sym, subst, arith, None}
use Rattle.std.specs.Prelude.{All}
use Rattle.std.proofs.lemmas.List.Elements.{All-nil}
use Rattle.nim_base.specs.declared.task.Task.{Task}
use Rattle.nim_command.specs.Numbers.{counted_from}
use Rattle.nim_job.specs.declared.ask.Ask.{Ask}
use Rattle.nim_job.specs.Machine.{Machine, answered}
use Rattle.nim_job.specs.Objects.{objects_of}
use Rattle.nim_job.specs.Tasks.{block_forms_of, block_tasks_of}
use Rattle.nim_job.specs.Whole.{is_whole}
use Rattle.nim_job.proofs.FewTasks.{block_few, few_tasks}
use Rattle.nim_job.proofs.Whole.{tasks_there}
use Rattle.nim_plan.specs.Paired.{Key}
use Rattle.nim_place.specs.Extends.{HaveNone}
use Rattle.nim_place.specs.Versions.{Versions}
use Rattle.nim_reuse.specs.Decisions.{Decisions, after_recording}
use Rattle.nim_course.specs.declared.pending.Pending.{Pending}
use Rattle.nim_course.specs.declared.summary.Summary.{Summary}
use Rattle.nim_course.specs.Controller.{Controller, Flight}
use Rattle.nim_place.specs.Directed.{Directed, by_number}
use Rattle.nim_course.specs.Leads.{AreLeading, AreLeadingFor, HasAsked, IsFetchedAt, IsOpenAt, Leads, IsDriverAt, instances_begun, does_fetch, is_key_from}
use Rattle.nim_course.specs.Moves.{with_instance}
use Rattle.nim_course.specs.OrdersGiven.{after_instance, flight_of, instance_orders, recorded_of}
use Rattle.nim_course.specs.Summaries.{counted_on, single_counted}
use Rattle.nim_course.proofs.Alone.{AreLed}
use Rattle.nim_course.proofs.Asking.{AreNext, asks_count, goes_on, position_there, run_goes, run_next}
use Rattle.nim_course.proofs.Blocks.{forms_few, forms_fit, steps_few}
use Rattle.nim_reuse.proofs.Stands.{decisions_stand}
use Rattle.nim_course.proofs.Standing.{GoesOn, goes_leads}
use Rattle.nim_course.proofs.Tasks.{AreReady, first_to_come, is_to_come, none_from, tasks_lead}

-- orders that lead to a position lead there where other keys are to come
with_keys : (c : Controller) (position : ℕ) (first second : Key → Bool) (given : List Directed) (versions : Versions)
    → (HaveNone first c.live (by_number given) → HaveNone second c.live (by_number given))
    → AreLed c.job c.place c.live c.epoch position first given versions c.decisions
    → AreLed c.job c.place c.live c.epoch position second given versions c.decisions
with_keys c position first second given versions none led =
    let leading = led.leading in
    record {
      right = led.right;
      leading = record {
        commands = leading.commands;
        so_far = leading.so_far;
        before = leading.before;
        at = leading.at;
        decided = leading.decided;
        fresh = none leading.fresh;
        from = leading.from;
        first = leading.first;
        since = leading.since;
        runs = leading.runs;
        homes = leading.homes;
      };
    }

-- and where a block was recorded
with_record : (c : Controller) (position : ℕ) (to_come : Key → Bool) (given : List Directed) (versions : Versions) (block : ℕ) → is_whole c.job ≡ true
    → AreLed c.job c.place c.live c.epoch position to_come given versions c.decisions
    → AreLed c.job c.place c.live c.epoch position to_come given versions (after_recording (recorded_of c block) c.decisions)
with_record c position to_come given versions block whole led =
    let leading = led.leading in
    record {
      right = led.right;
      leading = record {
        commands = leading.commands;
        so_far = leading.so_far;
        before = leading.before;
        at = leading.at;
        decided = decisions_stand.recorded c.place c.live (objects_of c.job.vars) (block_forms_of c.job) (by_number given) c.decisions
            (recorded_of c block) leading.decided
            (record { is_block = refl; has_forms = refl; few = forms_few c.job block whole; fit = forms_fit c.job block whole });
        fresh = leading.fresh;
        from = leading.from;
        first = leading.first;
        since = leading.since;
        runs = leading.runs;
        homes = leading.homes;
      };
    }

-- ---- the orders

-- an instance of tasks that are next leads to the position behind them
instance_led : (c : Controller) (given : List Directed) (tasks : List Task) (behind instance : ℕ) → GoesOn c given → AreReady c.job c.position 0 tasks
    → AreLeading c.job c.place c.live c.epoch c.position (is_key_from c.epoch c.instance) given c.versions c.decisions
    → behind ≡ c.position + length tasks → instance ≡ c.instance + 1
    → AreLed c.job c.place c.live c.epoch behind (is_key_from c.epoch instance) (given ++ instance_orders c 0 c.versions tasks)
    (after_instance c 0 c.versions tasks) c.decisions
instance_led c given tasks behind instance on ready leading is counts =
    let orders : List Directed = given ++ instance_orders c 0 c.versions tasks in
    let after : Versions = after_instance c 0 c.versions tasks in
    let here : c.position ≡ c.position + 0 = omega arith in
    let all : 0 + length tasks ≡ length tasks = omega arith in
    let first : AreLed c.job c.place c.live c.epoch (c.position + 0) (is_to_come c.epoch c.instance 0) given c.versions c.decisions =
    subst (λ (p : ℕ). AreLed c.job c.place c.live c.epoch p (is_to_come c.epoch c.instance 0) given c.versions c.decisions) here
    (with_keys c c.position (is_key_from c.epoch c.instance) (is_to_come c.epoch c.instance 0) given c.versions
    (first_to_come c.live (by_number given) c.epoch c.instance) (record { right = on.right; leading = leading })) in
    let last : AreLed c.job c.place c.live c.epoch behind (is_to_come c.epoch c.instance (length tasks)) orders after c.decisions =
    subst (λ (p : ℕ). AreLed c.job c.place c.live c.epoch p (is_to_come c.epoch c.instance (length tasks)) orders after c.decisions) (sym is)
    (subst (λ (n : ℕ). AreLed c.job c.place c.live c.epoch (c.position + n) (is_to_come c.epoch c.instance n) orders after c.decisions) all
    (tasks_lead c 0 given c.versions tasks on.some ready first)) in
    subst (λ (n : ℕ). AreLed c.job c.place c.live c.epoch behind (is_key_from c.epoch n) orders after c.decisions) (sym counts)
    (with_keys c behind (is_to_come c.epoch c.instance (length tasks)) (is_key_from c.epoch (c.instance + 1)) orders after
    (none_from c.live (by_number orders) c.epoch c.instance (length tasks)) last)

-- ---- the move

-- the tasks of the block that was asked for are next
pub tasks_ready : (c : Controller) (given : List Directed) (block : ℕ) (args : List ℤ) → GoesOn c given
    → HasAsked c.job (Ask.Run block args) c.machine c.position → AreReady c.job c.position 0 (block_tasks_of c.job block args)
tasks_ready c given block args on asked =
    let tasks : List Task = block_tasks_of c.job block args in
    let here : c.position ≡ c.position + 0 = omega arith in
    record {
      whole = on.whole;
      fit = tasks_there c.job block args on.whole;
      next = subst (λ (p : ℕ). AreNext c.job p tasks) here (run_next c.job asked.before c.position block args on.whole asked.opened asked.asks);
      few = omega (arith, block_few c.job block args on.whole);
    }

-- the numbers behind it
pub record AreCounted (c : Controller) (tasks : List Task) : Type 0 where
  pub position : counted_from c.position (length tasks) ≡ c.position + length tasks
  pub instance : counted_on c.instance 1 ≡ c.instance + 1

pub numbers_counted : (c : Controller) (given : List Directed) (block : ℕ) (args : List ℤ) → GoesOn c given
    → HasAsked c.job (Ask.Run block args) c.machine c.position → c.instance + 1 ≤ c.machine.driver.count → AreCounted c (block_tasks_of c.job block args)
numbers_counted c given block args on asked few =
    let steps = steps_few c.job on.whole in
    let counted = asks_count c.job asked.before c.position asked.opened (ap goes_on asked.asks) in
    let same : c.machine.driver.count ≤ c.job.steps = omega (arith, counted.within, ap (λ (m : Machine). m.driver.count) asked.after) in
    record {
      position = omega (
        arith,
        position_there c.job asked.before c.position block args on.whole asked.opened asked.asks,
        few_tasks c.job on.whole,
        block_few c.job block args on.whole,
        steps,
      );
      instance = omega (arith, few, same, steps);
    }

-- the controller that gave an instance
abbrev pub behind_block : Controller → Versions → Decisions → ℕ → List Flight → Summary → Controller
behind_block c versions decisions position flight summary = record c {
  machine = answered c.machine (pos 0);
  versions = versions;
  decisions = decisions;
  position = position;
  instance = counted_on c.instance 1;
  pending = Pending.Idle;
  flight = flight;
  summary = summary;
}

-- so many instances were begun as the block was asked for
pub few_begun : (c : Controller) (given : List Directed) (block : ℕ) (args : List ℤ) → c.pending ≡ Pending.Block block args → GoesOn c given
    → c.instance + 1 ≤ c.machine.driver.count
few_begun c given block args is on = subst (λ (pending : Pending). instances_begun c pending ≤ c.machine.driver.count) is on.instances

-- it leads on where the orders lead behind the block's tasks
pub behind_leads : (c : Controller) (given orders : List Directed) (block : ℕ) (args : List ℤ) (versions : Versions) (decisions : Decisions)
    (position : ℕ) (flight : List Flight) (summary : Summary) → c.outcome ≡ None → c.pending ≡ Pending.Block block args → GoesOn c given
    → position ≡ c.position + length (block_tasks_of c.job block args) → counted_on c.instance 1 ≡ c.instance + 1
    → AreLed c.job c.place c.live c.epoch position (is_key_from c.epoch (counted_on c.instance 1)) orders versions decisions
    → Leads c.job (behind_block c versions decisions position flight summary) orders
behind_leads c given orders block args versions decisions position flight summary none is on behind next led =
    let asked : HasAsked c.job (Ask.Run block args) c.machine c.position = subst (IsDriverAt c.job c) is on.driver in
    let empty : c.fetched ≡ [] = on.unfetched (ap does_fetch is) in
    goes_leads (behind_block c versions decisions position flight summary) orders none (record {
      whole = on.whole;
      driver = subst (IsOpenAt c.job (answered c.machine (pos 0))) (sym behind)
          (run_goes c.job asked.before (answered c.machine (pos 0)) c.position block args (pos 0) on.whole asked.opened asked.asks
          (ap (λ (m : Machine). answered m (pos 0)) asked.after));
      fetched = subst (All (IsFetchedAt c.job position)) (sym empty) (All-nil (IsFetchedAt c.job position));
      unfetched = λ fetches. empty;
      some = on.some;
      few = on.few;
      right = led.right;
      leading = led.leading;
      instances = omega (arith, next, few_begun c given block args is on);
      all_run = λ ended. absurd cc;
    })

pub instance_leads : (c : Controller) (given : List Directed) (block : ℕ) (args : List ℤ) → c.outcome ≡ None → c.pending ≡ Pending.Block block args
    → GoesOn c given
    → Leads c.job (with_instance c block (block_tasks_of c.job block args)) (given ++ instance_orders c 0 c.versions (block_tasks_of c.job block args))
instance_leads c given block args none is on =
    let tasks : List Task = block_tasks_of c.job block args in
    let orders : List Directed = given ++ instance_orders c 0 c.versions tasks in
    let after : Versions = after_instance c 0 c.versions tasks in
    let behind : ℕ = counted_from c.position (length tasks) in
    let asked : HasAsked c.job (Ask.Run block args) c.machine c.position = subst (IsDriverAt c.job c) is on.driver in
    let counted = numbers_counted c given block args on asked (few_begun c given block args is on) in
    let led = instance_led c given tasks behind (counted_on c.instance 1) on (tasks_ready c given block args on asked)
    (subst (AreLeadingFor c.job c given) is on.leading) counted.position counted.instance in
    behind_leads c given orders block args after (after_recording (recorded_of c block) c.decisions) behind (c.flight ++ flight_of c tasks)
    (single_counted c.summary) none is on counted.position counted.instance
    (with_record c behind (is_key_from c.epoch (counted_on c.instance 1)) orders after block on.whole led)
