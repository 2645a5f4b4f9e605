-- A controller without an outcome, and what it needs to lead its job.
use Rattle.std.proofs.Common.{◌≡◌, ◌≤◌, Bool, true, false, List, [], length, refl, sym, subst, ◌∙◌, Option, None, Some}
use Rattle.std.specs.Prelude.{IfSome, All}
use Rattle.std.specs.List.{list_any}
use Rattle.std.specs.Option.{option_map_or}
use Rattle.std.proofs.lemmas.Option.{same_Some}
use Rattle.nim_job.specs.Serial.{tasks_of}
use Rattle.nim_job.specs.Whole.{is_whole}
use Rattle.nim_course.specs.declared.outcome.Outcome.{Outcome}
use Rattle.nim_course.specs.declared.pending.Pending.{Pending}
use Rattle.nim_course.specs.Controller.{Controller}
use Rattle.nim_place.specs.Directed.{Directed}
use Rattle.nim_course.specs.Leads.{AreLeadingFor, AreRight, EndsBy, IsFetchedAt, Leads, IsDriverAt, instances_begun, does_fetch}
use Rattle.nim_base.proofs.Lists.{some_none}

-- a controller that goes on leads its job
pub record GoesOn (c : Controller) (given : List Directed) : Type 0 where
  pub whole : is_whole c.job ≡ true
  pub driver : IsDriverAt c.job c c.pending
  pub fetched : All (IsFetchedAt c.job c.position) c.fetched
  pub unfetched : does_fetch c.pending ≡ false → c.fetched ≡ []
  pub some : list_any (λ (flag : Bool). flag) c.live ≡ true
  pub few : length c.live ≤ 16
  pub right : AreRight c.job c.live given
  pub leading : AreLeadingFor c.job c given c.pending
  pub instances : instances_begun c c.pending ≤ c.machine.driver.count
  pub all_run : c.pending ≡ Pending.Ended → c.position ≡ length (tasks_of c.job)

none_ends : (P : Outcome → Type 0) (o : Option Outcome) → o ≡ None → IfSome o P
none_ends P o none = subst (λ (p : Option Outcome). IfSome p P) (sym none) tt

pub goes_leads : (c : Controller) (given : List Directed) → c.outcome ≡ None → GoesOn c given → Leads c.job c given
goes_leads c given none on = record {
  whole = on.whole;
  is_job = refl;
  driver = λ still. on.driver;
  end = none_ends (EndsBy c.job c) c.outcome none;
  fetched = on.fetched;
  unfetched = on.unfetched;
  some = λ still. on.some;
  few = on.few;
  right = on.right;
  leading = on.leading;
  instances = on.instances;
  all_run = on.all_run;
  done = λ is. absurd (some_none Outcome.Done (sym is ∙ none));
}

pub leads_goes : (c : Controller) (given : List Directed) → c.outcome ≡ None → Leads c.job c given → GoesOn c given
leads_goes c given none leads = record {
  whole = leads.whole;
  driver = leads.driver none;
  fetched = leads.fetched;
  unfetched = leads.unfetched;
  some = leads.some none;
  few = leads.few;
  right = leads.right;
  leading = leads.leading;
  instances = leads.instances;
  all_run = leads.all_run;
}

-- what isn't held up has no outcome, and doesn't wait
pub held_parts : (o : Option Outcome) (b : Bool) → option_map_or (λ (outcome : Outcome). true) o b ≡ false → (o ≡ None) × (b ≡ false)
held_parts None b is = (refl, is)
held_parts (Some outcome) b is = absurd cc

-- a controller that has an outcome leads its job where this is how the job ends
pub record IsOver (c : Controller) (given : List Directed) (outcome : Outcome) : Type 0 where
  pub whole : is_whole c.job ≡ true
  pub ended : c.outcome ≡ Some outcome
  pub ends : EndsBy c.job c outcome
  pub fetched : All (IsFetchedAt c.job c.position) c.fetched
  pub unfetched : does_fetch c.pending ≡ false → c.fetched ≡ []
  pub few : length c.live ≤ 16
  pub right : AreRight c.job c.live given
  pub leading : AreLeadingFor c.job c given c.pending
  pub instances : instances_begun c c.pending ≤ c.machine.driver.count
  pub all_run : c.pending ≡ Pending.Ended → c.position ≡ length (tasks_of c.job)
  pub done : outcome ≡ Outcome.Done → c.pending ≡ Pending.Ended

pub over_leads : (c : Controller) (given : List Directed) (outcome : Outcome) → IsOver c given outcome → Leads c.job c given
over_leads c given outcome over =
    let going : c.outcome ≡ None → ⊥ = λ still. some_none outcome (sym over.ended ∙ still) in
    record {
      whole = over.whole;
      is_job = refl;
      driver = λ still. absurd (going still);
      end = subst (λ (o : Option Outcome). IfSome o (EndsBy c.job c)) (sym over.ended) over.ends;
      fetched = over.fetched;
      unfetched = over.unfetched;
      some = λ still. absurd (going still);
      few = over.few;
      right = over.right;
      leading = over.leading;
      instances = over.instances;
      all_run = over.all_run;
      done = λ is. over.done (same_Some outcome Outcome.Done (sym over.ended ∙ is));
    }
