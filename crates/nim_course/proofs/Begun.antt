-- The move that begins an epoch.
use Rattle.std.proofs.Common.{◌≡◌, ◌≤◌, List, ◌++◌, ap, subst, None}
use Rattle.nim_course.specs.declared.pending.Pending.{Pending}
use Rattle.nim_course.specs.Controller.{Controller}
use Rattle.nim_place.specs.Directed.{Directed}
use Rattle.nim_course.specs.Leads.{AreLeadingFor, Leads, IsDriverAt, instances_begun, does_fetch, is_key_from}
use Rattle.nim_course.specs.Moves.{epoch_begun}
use Rattle.nim_course.specs.OrdersGiven.{epoch_orders}
use Rattle.nim_course.proofs.Begins.{begins_lead}
use Rattle.nim_course.proofs.Standing.{GoesOn, goes_leads}

pub begun_leads : (c : Controller) (given : List Directed) → c.outcome ≡ None → c.pending ≡ Pending.Begin → GoesOn c given
    → Leads c.job (epoch_begun c) (given ++ epoch_orders c)
begun_leads c given none is on =
    let led = begins_lead c given (is_key_from c.epoch c.instance) on.some on.whole on.right (subst (AreLeadingFor c.job c given) is on.leading) in
    goes_leads (epoch_begun c) (given ++ epoch_orders c) none (record {
      whole = on.whole;
      driver = subst (IsDriverAt c.job c) is on.driver;
      fetched = on.fetched;
      unfetched = λ fetches. on.unfetched (ap does_fetch is);
      some = on.some;
      few = on.few;
      right = led.right;
      leading = led.leading;
      instances = subst (λ (pending : Pending). instances_begun c pending ≤ c.machine.driver.count) is on.instances;
      all_run = λ ended. absurd cc;
    })
