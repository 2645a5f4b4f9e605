-- What a controller keeps where only what was told to it changes, and what it counted.
use Rattle.std.proofs.Common.{◌≡◌, ℕ, ◌+◌, ◌≤◌, Bool, List, [], map, refl, ap, sym, subst, ◌∙◌, Option, None, Some}
use Rattle.std.specs.Prelude.{IfSome, All}
use Rattle.nim_job.specs.declared.job.Job.{Job}
use Rattle.nim_course.specs.declared.fetched.Fetched.{Fetched}
use Rattle.nim_course.specs.declared.outcome.Outcome.{Outcome}
use Rattle.nim_course.specs.declared.outcome.Outcome.TheVariants.{Done, Limit, NoWorker, NoMemory}
use Rattle.nim_course.specs.declared.pending.Pending.{Pending}
use Rattle.nim_course.specs.declared.pending.Pending.TheVariants.{Begin, Idle, Block, Cell, Parts, Ended}
use Rattle.nim_course.specs.declared.summary.Summary.{Summary}
use Rattle.nim_course.specs.Controller.{Controller, Flight}
use Rattle.nim_place.specs.Directed.{Directed}
use Rattle.nim_course.specs.Leads.{AreLeadingFor, EndsBy, IsFetchedAt, Leads, IsDriverAt, instances_begun}

-- with what was told and counted
abbrev pub with_told : Controller → List Fetched → List Flight → Bool → Summary → Controller
with_told c fetched flight due summary = record c { fetched = fetched; flight = flight; due = due; summary = summary }

stands_still : (job : Job) (c : Controller) (fetched : List Fetched) (flight : List Flight) (due : Bool) (summary : Summary) (pending : Pending)
    → map (λ (f : Fetched). f.object) fetched ≡ map (λ (f : Fetched). f.object) c.fetched
    → IsDriverAt job c pending → IsDriverAt job (with_told c fetched flight due summary) pending
stands_still job c fetched flight due summary Begin same stands = stands
stands_still job c fetched flight due summary Idle same stands = stands
stands_still job c fetched flight due summary (Block block args) same stands = stands
stands_still job c fetched flight due summary (Cell row cell) same stands =
    record { object = stands.object; fetched = same ∙ stands.fetched; asked = stands.asked }
stands_still job c fetched flight due summary (Parts var) same stands = record { fetched = same ∙ stands.fetched; asked = stands.asked }
stands_still job c fetched flight due summary Ended same stands = stands

ends_still : (job : Job) (c : Controller) (fetched : List Fetched) (flight : List Flight) (due : Bool) (summary : Summary) (outcome : Outcome)
    → EndsBy job c outcome → EndsBy job (with_told c fetched flight due summary) outcome
ends_still job c fetched flight due summary Done ends = ends
ends_still job c fetched flight due summary Limit ends = ends
ends_still job c fetched flight due summary NoWorker ends = ends
ends_still job c fetched flight due summary NoMemory ends = ends

end_still : (job : Job) (c : Controller) (fetched : List Fetched) (flight : List Flight) (due : Bool) (summary : Summary) (o : Option Outcome)
    → IfSome o (EndsBy job c) → IfSome o (EndsBy job (with_told c fetched flight due summary))
end_still job c fetched flight due summary None ends = tt
end_still job c fetched flight due summary (Some outcome) ends = ends_still job c fetched flight due summary outcome ends

-- with what was told and counted, and an outcome
abbrev pub with_outcome : Controller → List Fetched → List Flight → Bool → Summary → Option Outcome → Controller
with_outcome c fetched flight due summary outcome =
    record c { fetched = fetched; flight = flight; due = due; summary = summary; outcome = outcome }

-- the orders lead to where they led
pub leading_still : (job : Job) (c : Controller) (fetched : List Fetched) (flight : List Flight) (due : Bool) (summary : Summary)
    (outcome : Option Outcome) (given : List Directed) (pending : Pending)
    → AreLeadingFor job c given pending → AreLeadingFor job (with_outcome c fetched flight due summary outcome) given pending
leading_still job c fetched flight due summary outcome given Begin leading =
    record { versions = leading.versions; position = leading.position; decisions = leading.decisions }
leading_still job c fetched flight due summary outcome given Idle leading = leading
leading_still job c fetched flight due summary outcome given (Block block args) leading = leading
leading_still job c fetched flight due summary outcome given (Cell row cell) leading = leading
leading_still job c fetched flight due summary outcome given (Parts var) leading = leading
leading_still job c fetched flight due summary outcome given Ended leading = leading

-- as many instances were begun
pub begun_still : (c next : Controller) (pending : Pending) → next.instance ≡ c.instance → instances_begun next pending ≡ instances_begun c pending
begun_still c next Begin same = same
begun_still c next Idle same = same
begun_still c next (Block block args) same = ap (λ (n : ℕ). n + 1) same
begun_still c next (Cell row cell) same = same
begun_still c next (Parts var) same = same
begun_still c next Ended same = same

-- it leads its job as it did
pub kept_leads : (job : Job) (c : Controller) (given : List Directed) (fetched : List Fetched) (flight : List Flight) (due : Bool) (summary : Summary)
    → map (λ (f : Fetched). f.object) fetched ≡ map (λ (f : Fetched). f.object) c.fetched → All (IsFetchedAt job c.position) fetched
    → (c.fetched ≡ [] → fetched ≡ []) → Leads job c given → Leads job (with_told c fetched flight due summary) given
kept_leads job c given fetched flight due summary same all empty leads =
    let next : Controller = with_told c fetched flight due summary in
    record {
      whole = leads.whole;
      is_job = leads.is_job;
      driver = λ still. stands_still job c fetched flight due summary c.pending same (leads.driver still);
      end = end_still job c fetched flight due summary c.outcome leads.end;
      fetched = all;
      unfetched = λ fetches. empty (leads.unfetched fetches);
      some = leads.some;
      few = leads.few;
      right = leads.right;
      leading = leading_still job c fetched flight due summary c.outcome given c.pending leads.leading;
      instances = subst (λ (n : ℕ). n ≤ c.machine.driver.count) (sym (begun_still c next c.pending refl)) leads.instances;
      all_run = leads.all_run;
      done = leads.done;
    }

-- where only what was told changes
pub told_leads : (job : Job) (c : Controller) (given : List Directed) (fetched : List Fetched) (flight : List Flight)
    → map (λ (f : Fetched). f.object) fetched ≡ map (λ (f : Fetched). f.object) c.fetched → All (IsFetchedAt job c.position) fetched
    → (c.fetched ≡ [] → fetched ≡ []) → Leads job c given → Leads job (record c { fetched = fetched; flight = flight }) given
told_leads job c given fetched flight same all empty leads = kept_leads job c given fetched flight c.due c.summary same all empty leads

-- where only the turn that is due changes
pub due_leads : (job : Job) (c : Controller) (given : List Directed) (due : Bool) → Leads job c given → Leads job (record c { due = due }) given
due_leads job c given due leads = kept_leads job c given c.fetched c.flight due c.summary refl leads.fetched (λ empty. empty) leads

-- where only what was counted changes
pub counted_leads : (job : Job) (c : Controller) (given : List Directed) (summary : Summary) → Leads job c given
    → Leads job (record c { summary = summary }) given
counted_leads job c given summary leads = kept_leads job c given c.fetched c.flight c.due summary refl leads.fetched (λ empty. empty) leads
