-- A controller leads its job after a report that is true of the job.
use Rattle.std.proofs.Common.{◌≡◌, ℕ, ◌-◌, ◌≤◌, zero, suc, true, List, [], ◌∷◌, map, refl, ap, ap₂, sym, subst, ◌∙◌, Option, None, Some}
use Rattle.std.specs.Prelude.{◌==◌, ◌&&◌, nat_le, if◌then◌else◌, slice_get, slice_set, All}
use Rattle.std.specs.List.{AllByRecursion}
use Rattle.std.specs.Option.{option_map_or}
use Rattle.std.proofs.lemmas.Bool.{and_parts, cond_both, eqb-true}
use Rattle.std.proofs.lemmas.List.Elements.{All-from_recursion, recursion_from_All}
use Rattle.std.proofs.lemmas.Option.{same_Some}
use Rattle.nim_base.specs.declared.number.Object.{Object}
use Rattle.nim_base.specs.declared.number.Worker.{Worker}
use Rattle.nim_base.specs.Value.{Grid}
use Rattle.nim_message.specs.declared.report.FromWorker.{FromWorker}
use Rattle.nim_message.specs.declared.report.FromWorker.TheVariants.{Value, Ran, Through, NoMemory, PeerDown}
use Rattle.nim_job.specs.declared.job.Job.{Job}
use Rattle.nim_job.specs.Versions.{version_value}
use Rattle.nim_plan.specs.Good.{IsGood}
use Rattle.nim_place.specs.Extends.{is_live}
use Rattle.nim_course.specs.declared.fetched.Fetched.{Fetched}
use Rattle.nim_course.specs.declared.outcome.Outcome.{Outcome}
use Rattle.nim_course.specs.Controller.{Controller}
use Rattle.nim_place.specs.Directed.{Directed}
use Rattle.nim_course.specs.Leads.{IsFetchedAt, Leads}
use Rattle.nim_course.specs.Moves.{is_open}
use Rattle.nim_course.specs.Reports.{after_report, flight_after, flight_through, is_asked, reported, value_reported, told_at}
use Rattle.nim_course.proofs.Kept.{begun_still, due_leads, leading_still, told_leads}
use Rattle.nim_course.proofs.Standing.{over_leads}

-- ---- a value

-- what was told keeps the objects, and is true
record AreTold (job : Job) (position : ℕ) (before after : List Fetched) : Type 0 where
  objects : map (λ (f : Fetched). f.object) after ≡ map (λ (f : Fetched). f.object) before
  all : AllByRecursion (IsFetchedAt job position) after
  empty : before ≡ [] → after ≡ []

none_told : (job : Job) (position : ℕ) (fs : List Fetched) → AllByRecursion (IsFetchedAt job position) fs → AreTold job position fs fs
none_told job position fs all = record { objects = refl; all = all; empty = λ empty. empty }

-- the one that was asked for has its value
told_one : (job : Job) (position : ℕ) (f : Fetched) (object : Object) (version : ℕ) (value : Grid) → IsFetchedAt job position f
    → is_asked object version f ≡ true → value ≡ version_value job object version → IsFetchedAt job position (record f { value = Some value })
told_one job position f object version value at is good =
    let parts = and_parts (is_open f && (f.object.0 == object.0)) (f.version == version) is in
    let same : object ≡ f.object =
    ap (λ (n : ℕ). record { 0 = n }) (sym (eqb-true f.object.0 object.0 (and_parts (is_open f) (f.object.0 == object.0) parts.0).1)) in
    let also : version ≡ f.version = sym (eqb-true f.version version parts.1) in
    record { version = at.version; value = good ∙ ap₂ (version_value job) same also }

set_told : (job : Job) (position : ℕ) (fs : List Fetched) (place : ℕ) (f : Fetched) (object : Object) (version : ℕ) (value : Grid)
    → AllByRecursion (IsFetchedAt job position) fs → slice_get fs place ≡ Some f → is_asked object version f ≡ true
    → value ≡ version_value job object version
    → AreTold job position fs (slice_set fs place (record f { value = Some value }))
set_told job position [] place f object version value all there is good = none_told job position [] tt
set_told job position (g ∷ fs) zero f object version value all there is good =
    let same : g ≡ f = same_Some g f there in
    record {
      objects = ap (λ (h : Fetched). h.object ∷ map (λ (f : Fetched). f.object) fs) (sym same);
      all = (told_one job position f object version value (subst (IsFetchedAt job position) same all.0) is good, all.1);
      empty = λ none. absurd cc;
    }
set_told job position (g ∷ fs) (suc place) f object version value all there is good =
    let rest = set_told job position fs place f object version value all.1 there is good in
    record {
      objects = ap (λ (os : List Object). g.object ∷ os) rest.objects;
      all = (all.0, rest.all);
      empty = λ none. absurd cc;
    }

at_told : (job : Job) (position : ℕ) (fs : List Fetched) (place : ℕ) (object : Object) (version : ℕ) (value : Grid)
    → AllByRecursion (IsFetchedAt job position) fs → value ≡ version_value job object version
    → AreTold job position fs (told_at fs place object version value)
at_told job position fs place object version value all good = either (slice_get fs place) refl where
  either : (o : Option Fetched) → slice_get fs place ≡ o
      → AreTold job position fs (option_map_or
      (λ (f : Fetched). if is_asked object version f then slice_set fs place (record f { value = Some value }) else fs) o fs)
  either None there = none_told job position fs all
  either (Some f) there =
      cond_both (is_asked object version f) (slice_set fs place (record f { value = Some value })) fs (AreTold job position fs)
      (λ is. set_told job position fs place f object version value all there is good) (λ not. none_told job position fs all)

value_told : (job : Job) (c : Controller) (ticket : ℕ) (object : Object) (version : ℕ) (value : Grid) → All (IsFetchedAt job c.position) c.fetched
    → value ≡ version_value job object version → AreTold job c.position c.fetched (value_reported c ticket object version value)
value_told job c ticket object version value all good =
    let each = recursion_from_All (IsFetchedAt job c.position) c.fetched all in
    cond_both (nat_le c.first ticket) (told_at c.fetched (ticket - c.first) object version value) c.fetched (AreTold job c.position c.fetched)
    (λ behind. at_told job c.position c.fetched (ticket - c.first) object version value each good) (λ before. none_told job c.position c.fetched each)

value_leads : (job : Job) (c : Controller) (given : List Directed) (ticket : ℕ) (object : Object) (version : ℕ) (value : Grid) → Leads job c given
    → value ≡ version_value job object version → Leads job (record c { fetched = value_reported c ticket object version value }) given
value_leads job c given ticket object version value leads good =
    let now = value_told job c ticket object version value leads.fetched good in
    told_leads job c given (value_reported c ticket object version value) c.flight now.objects
    (All-from_recursion (IsFetchedAt job c.position) (value_reported c ticket object version value) now.all) now.empty leads

-- ---- no memory

memory_leads : (c : Controller) (given : List Directed) → Leads c.job c given → Leads c.job (record c { outcome = Some Outcome.NoMemory }) given
memory_leads c given leads =
    let next : Controller = record c { outcome = Some Outcome.NoMemory } in
    over_leads next given Outcome.NoMemory (record {
      whole = leads.whole;
      ended = refl;
      ends = tt;
      fetched = leads.fetched;
      unfetched = leads.unfetched;
      few = leads.few;
      right = leads.right;
      leading = leading_still c.job c c.fetched c.flight c.due c.summary (Some Outcome.NoMemory) given c.pending leads.leading;
      instances = subst (λ (n : ℕ). n ≤ c.machine.driver.count) (sym (begun_still c next c.pending refl)) leads.instances;
      all_run = leads.all_run;
      done = λ done. absurd cc;
    })

-- ---- any report

live_leads : (job : Job) (c : Controller) (given : List Directed) (from : Worker) (report : FromWorker) → Leads job c given → IsGood job report
    → Leads job (reported c from report) given
live_leads job c given from (Value epoch ticket object version value) leads good =
    cond_both (epoch == c.epoch) (record c { fetched = value_reported c ticket object version value }) c (λ (next : Controller). Leads job next given)
    (λ now. value_leads job c given ticket object version value leads good.1) (λ other. leads)
live_leads job c given from (Ran epoch position reads) leads good =
    cond_both (epoch == c.epoch) (record c { flight = flight_after from position c.flight }) c (λ (next : Controller). Leads job next given)
    (λ now. told_leads job c given c.fetched (flight_after from position c.flight) refl leads.fetched (λ empty. empty) leads) (λ other. leads)
live_leads job c given from NoMemory leads good =
    subst (λ (j : Job). Leads j (record c { outcome = Some Outcome.NoMemory }) given) leads.is_job
    (memory_leads c given (subst (λ (j : Job). Leads j c given) (sym leads.is_job) leads))
live_leads job c given from (Through epoch instance) leads good =
    cond_both (epoch == c.epoch) (record c { flight = flight_through from instance c.flight }) c (λ (next : Controller). Leads job next given)
    (λ now. told_leads job c given c.fetched (flight_through from instance c.flight) refl leads.fetched (λ empty. empty) leads) (λ other. leads)
live_leads job c given from (PeerDown peer) leads good = leads

pub report_leads : (job : Job) (c : Controller) (given : List Directed) (from : Worker) (report : FromWorker) → Leads job c given → IsGood job report
    → Leads job (after_report c from report) given
report_leads job c given from report leads good =
    let due : Controller = record c { due = true } in
    let now : Leads job due given = due_leads job c given true leads in
    cond_both (is_live c.live from) (reported due from report) due (λ (next : Controller). Leads job next given)
    (λ live. live_leads job due given from report now good) (λ gone. now)
