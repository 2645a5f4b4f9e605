-- The move of a controller that has nothing to do: its driver is asked.
use Rattle.std.proofs.Common.{◌≡◌, ℕ, ◌≤◌, Bool, true, ℤ, pos, List, [], ◌∷◌, ◌++◌, length, refl, ap, sym, subst, ◌∙◌, arith, None}
use Rattle.std.specs.Prelude.{All}
use Rattle.std.specs.List.{list_any}
use Rattle.std.proofs.lemmas.Bool.{false≢true}
use Rattle.std.proofs.lemmas.List.{append-nil}
use Rattle.std.proofs.lemmas.List.Elements.{All-nil}
use Rattle.nim_base.specs.declared.number.Object.{Object}
use Rattle.nim_job.specs.declared.ask.Ask.{Ask}
use Rattle.nim_job.specs.Machine.{after_ask, answered, ask_of}
use Rattle.nim_job.specs.Whole.{is_whole}
use Rattle.nim_course.specs.declared.outcome.Outcome.{Outcome}
use Rattle.nim_course.specs.declared.pending.Pending.{Pending}
use Rattle.nim_course.specs.Controller.{Controller}
use Rattle.nim_place.specs.Directed.{Directed}
use Rattle.nim_course.specs.Leads.{AreLeadingFor, IsFetchedAt, IsOpenAt, Leads, IsDriverAt, instances_begun, does_fetch, is_key_from}
use Rattle.nim_course.specs.Moves.{asked, fetching, objects_in, orders_asked}
use Rattle.nim_course.specs.OrdersGiven.{fetch_orders}
use Rattle.nim_course.proofs.Alone.{AreLed}
use Rattle.nim_course.proofs.Asking.{asking_counts, asks_count, checkpoint_goes, ends_all, ends_finished, ends_limit, get_allowed, goes_on}
use Rattle.nim_course.proofs.Fetches.{AreThere, fetches_lead}
use Rattle.nim_course.proofs.Standing.{GoesOn, goes_leads, over_leads}
use Rattle.nim_course.proofs.Told.{fetched_fresh, fetched_objects, objects_there}

-- a controller that has nothing to do
record IsIdle (c : Controller) (given : List Directed) : Type 0 where
  whole : is_whole c.job ≡ true
  opened : IsOpenAt c.job c.machine c.position
  empty : c.fetched ≡ []
  some : list_any (λ (flag : Bool). flag) c.live ≡ true
  workers : length c.live ≤ 16
  led : AreLed c.job c.place c.live c.epoch c.position (is_key_from c.epoch c.instance) given c.versions c.decisions
  few : c.instance ≤ c.machine.driver.count

idle_of : (c : Controller) (given : List Directed) → c.pending ≡ Pending.Idle → GoesOn c given → IsIdle c given
idle_of c given is on = record {
  whole = on.whole;
  opened = subst (IsDriverAt c.job c) is on.driver;
  empty = on.unfetched (ap does_fetch is);
  some = on.some;
  workers = on.few;
  led = record { right = on.right; leading = subst (AreLeadingFor c.job c given) is on.leading };
  few = subst (λ (pending : Pending). instances_begun c pending ≤ c.machine.driver.count) is on.instances;
}

-- what is fetched of a controller that has nothing to do: nothing
none_fetched : (c : Controller) (given : List Directed) → IsIdle c given → All (IsFetchedAt c.job c.position) c.fetched
none_fetched c given idle =
    subst (All (IsFetchedAt c.job c.position)) (sym idle.empty) (All-nil (IsFetchedAt c.job c.position))

-- ---- a block

run_leads : (c : Controller) (given : List Directed) (block : ℕ) (args : List ℤ) → c.outcome ≡ None → IsIdle c given
    → ask_of c.machine ≡ Ask.Run block args → Leads c.job (asked c (Ask.Run block args)) given
run_leads c given block args none idle is =
    let counted = asks_count c.job c.machine c.position idle.opened (ap goes_on is) in
    goes_leads (asked c (Ask.Run block args)) given none (record {
      whole = idle.whole;
      driver = record { before = c.machine; opened = idle.opened; asks = is; after = refl };
      fetched = none_fetched c given idle;
      unfetched = λ fetches. idle.empty;
      some = idle.some;
      few = idle.workers;
      right = idle.led.right;
      leading = idle.led.leading;
      instances = omega (arith, idle.few, counted.more);
      all_run = λ ended. absurd cc;
    })

-- ---- values

-- objects are fetched
fetching_leads : (c : Controller) (given : List Directed) (objects : List Object) (pending : Pending) → c.outcome ≡ None → IsIdle c given
    → AreThere c.job objects
    → let next : Controller = fetching (record c { machine = after_ask c.machine }) objects pending in
    IsDriverAt c.job next pending → AreLeadingFor c.job next (given ++ fetch_orders c objects) pending → does_fetch pending ≡ true
    → (pending ≡ Pending.Ended → ⊥)
    → instances_begun next pending ≤ (after_ask c.machine).driver.count
    → Leads c.job next (given ++ fetch_orders c objects)
fetching_leads c given objects pending none idle there driver leading fetches apart few =
    let next : Controller = fetching (record c { machine = after_ask c.machine }) objects pending in
    goes_leads next (given ++ fetch_orders c objects) none (record {
      whole = idle.whole;
      driver = driver;
      fetched = fetched_fresh c.job c.position c.versions objects
          (λ object below. idle.led.leading.at.latest object (omega (arith, below, idle.led.leading.at.objects))) there;
      unfetched = λ not. absurd (false≢true (sym not ∙ fetches));
      some = idle.some;
      few = idle.workers;
      right = (fetches_lead c.job c.place c.live c.epoch c.position (is_key_from c.epoch c.instance) given c.versions c.decisions c.ticket objects idle.led
          there).right;
      leading = leading;
      instances = few;
      all_run = λ ended. absurd (apart ended);
    })

get_leads : (c : Controller) (given : List Directed) (object : Object) (row cell : ℕ) → c.outcome ≡ None → IsIdle c given
    → ask_of c.machine ≡ Ask.Get object row cell
    → Leads c.job (asked c (Ask.Get object row cell)) (given ++ fetch_orders c (object ∷ []))
get_leads c given object row cell none idle is =
    let there : AreThere c.job (object ∷ []) = (get_allowed c.job c.machine c.position object row cell idle.whole idle.opened is, tt) in
    fetching_leads c given (object ∷ []) (Pending.Cell row cell) none idle there
    (record {
      object = object;
      fetched = fetched_objects c.versions (object ∷ []);
      asked = record { before = c.machine; opened = idle.opened; asks = is; after = refl };
    })
    (fetches_lead c.job c.place c.live c.epoch c.position (is_key_from c.epoch c.instance) given c.versions c.decisions c.ticket (object ∷ []) idle.led
    there).leading
    refl (λ ended. cc) (omega (arith, idle.few, asking_counts c.machine))

output_leads : (c : Controller) (given : List Directed) (var : ℕ) → c.outcome ≡ None → IsIdle c given → ask_of c.machine ≡ Ask.Output var
    → Leads c.job (asked c (Ask.Output var)) (given ++ fetch_orders c (objects_in c var))
output_leads c given var none idle is =
    let there : AreThere c.job (objects_in c var) = objects_there c var in
    fetching_leads c given (objects_in c var) (Pending.Parts var) none idle there
    (record {
      fetched = fetched_objects c.versions (objects_in c var);
      asked = record { before = c.machine; opened = idle.opened; asks = is; after = refl };
    })
    (fetches_lead c.job c.place c.live c.epoch c.position (is_key_from c.epoch c.instance) given c.versions c.decisions c.ticket (objects_in c var) idle.led
    there).leading
    refl (λ ended. cc) (omega (arith, idle.few, asking_counts c.machine))

-- ---- a checkpoint, and ends

apart : (c : Controller) → c.pending ≡ Pending.Idle → c.pending ≡ Pending.Ended → ⊥
apart c idle ended = let same : Pending.Idle ≡ Pending.Ended = sym idle ∙ ended in cc

checkpoint_leads : (c : Controller) (given : List Directed) → c.outcome ≡ None → c.pending ≡ Pending.Idle → IsIdle c given
    → ask_of c.machine ≡ Ask.Checkpoint → Leads c.job (asked c Ask.Checkpoint) given
checkpoint_leads c given none pending idle is =
    let next : Controller = asked c Ask.Checkpoint in
    goes_leads next given none (record {
      whole = idle.whole;
      driver = subst (IsDriverAt c.job next) (sym pending)
          (checkpoint_goes c.job c.machine (answered (after_ask c.machine) (pos 0)) c.position (pos 0) idle.whole idle.opened is refl);
      fetched = none_fetched c given idle;
      unfetched = λ fetches. idle.empty;
      some = idle.some;
      few = idle.workers;
      right = idle.led.right;
      leading = subst (AreLeadingFor c.job next given) (sym pending) idle.led.leading;
      instances = subst (λ (p : Pending). instances_begun next p ≤ (after_ask c.machine).driver.count) (sym pending)
          (omega (arith, idle.few, asking_counts c.machine));
      all_run = λ ended. absurd (apart c pending ended);
    })

finished_leads : (c : Controller) (given : List Directed) → c.outcome ≡ None → IsIdle c given → ask_of c.machine ≡ Ask.Finished
    → Leads c.job (asked c Ask.Finished) given
finished_leads c given none idle is =
    goes_leads (asked c Ask.Finished) given none (record {
      whole = idle.whole;
      driver = ends_finished c.job c.machine c.position idle.whole idle.opened is;
      fetched = none_fetched c given idle;
      unfetched = λ fetches. idle.empty;
      some = idle.some;
      few = idle.workers;
      right = idle.led.right;
      leading = idle.led.leading;
      instances = omega (arith, idle.few, asking_counts c.machine);
      all_run = λ ended. ends_all c.job c.machine c.position idle.whole idle.opened is;
    })

limit_leads : (c : Controller) (given : List Directed) → c.pending ≡ Pending.Idle → IsIdle c given → ask_of c.machine ≡ Ask.Limit
    → Leads c.job (asked c Ask.Limit) given
limit_leads c given pending idle is =
    let next : Controller = asked c Ask.Limit in
    over_leads next given Outcome.Limit (record {
      whole = idle.whole;
      ended = refl;
      ends = ends_limit c.job c.machine c.position idle.whole idle.opened is;
      fetched = none_fetched c given idle;
      unfetched = λ fetches. idle.empty;
      few = idle.workers;
      right = idle.led.right;
      leading = subst (AreLeadingFor c.job next given) (sym pending) idle.led.leading;
      instances = subst (λ (p : Pending). instances_begun next p ≤ (after_ask c.machine).driver.count) (sym pending)
          (omega (arith, idle.few, asking_counts c.machine));
      all_run = λ ended. absurd (apart c pending ended);
      done = λ done. absurd cc;
    })

-- ---- whatever it asks

pub plain : (c next : Controller) (given : List Directed) → Leads c.job next given → Leads c.job next (given ++ [])
plain c next given leads = subst (Leads c.job next) (sym (append-nil given)) leads

each_leads : (c : Controller) (given : List Directed) (ask : Ask) → c.outcome ≡ None → c.pending ≡ Pending.Idle → IsIdle c given
    → ask_of c.machine ≡ ask → Leads c.job (asked c ask) (given ++ orders_asked c ask)
each_leads c given (Ask.Run block args) none pending idle is =
    plain c (asked c (Ask.Run block args)) given (run_leads c given block args none idle is)
each_leads c given (Ask.Get object row cell) none pending idle is = get_leads c given object row cell none idle is
each_leads c given Ask.Checkpoint none pending idle is = plain c (asked c Ask.Checkpoint) given (checkpoint_leads c given none pending idle is)
each_leads c given (Ask.Output var) none pending idle is = output_leads c given var none idle is
each_leads c given Ask.Finished none pending idle is = plain c (asked c Ask.Finished) given (finished_leads c given none idle is)
each_leads c given Ask.Limit none pending idle is = plain c (asked c Ask.Limit) given (limit_leads c given pending idle is)

pub asked_leads : (c : Controller) (given : List Directed) → c.outcome ≡ None → c.pending ≡ Pending.Idle → GoesOn c given
    → Leads c.job (asked c (ask_of c.machine)) (given ++ orders_asked c (ask_of c.machine))
asked_leads c given none pending on = each_leads c given (ask_of c.machine) none pending (idle_of c given pending on) refl
