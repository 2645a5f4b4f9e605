-- The moves that answer the driver with what was reported, and the one at its end.
use Rattle.std.proofs.Common.{◌≡◌, ℕ, ◌+◌, ◌≤◌, true, false, List, ◌++◌, length, refl, ap, sym, subst, arith, None}
use Rattle.std.specs.Prelude.{nat_le}
use Rattle.std.specs.List.{list_any}
use Rattle.std.proofs.lemmas.Bool.{cond_both}
use Rattle.std.proofs.lemmas.List.Elements.{All-nil}
use Rattle.nim_job.specs.declared.ask.Ask.{Ask}
use Rattle.nim_job.specs.Driver.{output_limit}
use Rattle.nim_job.specs.Machine.{Machine, answered, appended}
use Rattle.nim_course.specs.declared.outcome.Outcome.{Outcome}
use Rattle.nim_course.specs.declared.pending.Pending.{Pending}
use Rattle.nim_course.specs.Controller.{Controller}
use Rattle.nim_place.specs.Directed.{Directed}
use Rattle.nim_course.specs.Leads.{AreLeadingFor, HasAsked, HasAskedCell, HasAskedParts, IsFetchedAt, Leads, IsDriverAt, instances_begun}
use Rattle.nim_course.specs.Moves.{cell_told, after_pending, is_open, text_told}
use Rattle.nim_course.proofs.Asking.{get_goes, output_goes}
use Rattle.nim_course.proofs.Standing.{GoesOn, goes_leads, over_leads}
use Rattle.nim_course.proofs.Told.{cell_is, text_is}

-- text that is appended counts no statement
appended_count : (m : Machine) (text : List ℕ) → (appended m text).driver.count ≡ m.driver.count
appended_count m text =
    cond_both (nat_le (length m.driver.output + length text) output_limit)
    (record m { driver = record m.driver { output = m.driver.output ++ text }; asked = None }) (record m { asked = None; full = true })
    (λ (next : Machine). next.driver.count ≡ m.driver.count) (λ fits. refl) (λ past. refl)

pub cell_leads : (c : Controller) (given : List Directed) (row cell : ℕ) → c.outcome ≡ None → c.pending ≡ Pending.Cell row cell
    → list_any is_open c.fetched ≡ false → GoesOn c given → Leads c.job (after_pending c (Pending.Cell row cell)) given
cell_leads c given row cell none is told on =
    let has : HasAskedCell c.job c row cell = subst (IsDriverAt c.job c) is on.driver in
    let asked : HasAsked c.job (Ask.Get has.object row cell) c.machine c.position = has.asked in
    let next : Controller = after_pending c (Pending.Cell row cell) in
    goes_leads next given none (record {
      whole = on.whole;
      driver = get_goes c.job asked.before next.machine c.position has.object row cell (cell_told c.fetched row cell) on.whole asked.opened asked.asks
          (cell_is c.job c.position c.fetched has.object row cell on.fetched told has.fetched)
          (ap (λ (m : Machine). answered m (cell_told c.fetched row cell)) asked.after);
      fetched = All-nil (IsFetchedAt c.job c.position);
      unfetched = λ fetches. refl;
      some = on.some;
      few = on.few;
      right = on.right;
      leading = subst (AreLeadingFor c.job c given) is on.leading;
      instances = subst (λ (pending : Pending). instances_begun c pending ≤ c.machine.driver.count) is on.instances;
      all_run = λ ended. absurd cc;
    })

pub parts_lead : (c : Controller) (given : List Directed) (var : ℕ) → c.outcome ≡ None → c.pending ≡ Pending.Parts var
    → list_any is_open c.fetched ≡ false → GoesOn c given → Leads c.job (after_pending c (Pending.Parts var)) given
parts_lead c given var none is told on =
    let has : HasAskedParts c.job c var = subst (IsDriverAt c.job c) is on.driver in
    let asked : HasAsked c.job (Ask.Output var) c.machine c.position = has.asked in
    let next : Controller = after_pending c (Pending.Parts var) in
    let few : c.instance ≤ c.machine.driver.count =
    subst (λ (pending : Pending). instances_begun c pending ≤ c.machine.driver.count) is on.instances in
    goes_leads next given none (record {
      whole = on.whole;
      driver = output_goes c.job asked.before next.machine c.position var (text_told c var) on.whole asked.opened asked.asks
          (text_is c c.position var on.whole on.fetched told has.fetched)
          (ap (λ (m : Machine). appended m (text_told c var)) asked.after);
      fetched = All-nil (IsFetchedAt c.job c.position);
      unfetched = λ fetches. refl;
      some = on.some;
      few = on.few;
      right = on.right;
      leading = subst (AreLeadingFor c.job c given) is on.leading;
      instances = omega (arith, few, appended_count c.machine (text_told c var));
      all_run = λ ended. absurd cc;
    })

pub ended_leads : (c : Controller) (given : List Directed) → c.pending ≡ Pending.Ended → GoesOn c given → Leads c.job (after_pending c Pending.Ended) given
ended_leads c given is on =
    let next : Controller = after_pending c Pending.Ended in
    over_leads next given Outcome.Done (record {
      whole = on.whole;
      ended = refl;
      ends = subst (IsDriverAt c.job c) is on.driver;
      fetched = on.fetched;
      unfetched = on.unfetched;
      few = on.few;
      right = on.right;
      leading = subst (AreLeadingFor c.job next given) (sym is) (subst (AreLeadingFor c.job c given) is on.leading);
      instances = subst (λ (pending : Pending). instances_begun next pending ≤ c.machine.driver.count) (sym is)
          (subst (λ (pending : Pending). instances_begun c pending ≤ c.machine.driver.count) is on.instances);
      all_run = on.all_run;
      done = λ done. is;
    })
