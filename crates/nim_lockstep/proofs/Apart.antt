-- No position stands at two places of the orders of a cluster.
use Rattle.std.proofs.Common.{◌≡◌, ℕ, ◌-◌, ◌<◌, Bool, true, false, List, [], ◌∷◌, refl, ap, subst, ◌∙◌, Option, None, Some}
use Rattle.std.specs.Prelude.{replicate, slice_index_or}
use Rattle.std.specs.Option.{option_map_or}
use Rattle.std.proofs.lemmas.List.{get_or-replicate}
use Rattle.nim_command.specs.declared.command.Command.{Command}
use Rattle.nim_command.specs.Waits.{Group, commands_of}
use Rattle.nim_message.specs.declared.order.ToWorker.{ToWorker}
use Rattle.nim_message.specs.Orders.{session_of}
use Rattle.nim_job.specs.declared.job.Job.{Job}
use Rattle.nim_plan.specs.Paired.{Key}
use Rattle.nim_place.specs.declared.placement.Placement.{Placement}
use Rattle.nim_place.specs.Extends.{is_live, worker_of}
use Rattle.nim_place.specs.Stands.{commands_for}
use Rattle.nim_place.specs.Versions.{Versions}
use Rattle.nim_reuse.specs.Decisions.{Decisions}
use Rattle.nim_course.specs.declared.pending.Pending.{Pending}
use Rattle.nim_course.specs.declared.pending.Pending.TheVariants.{Begin, Idle, Block, Cell, Parts, Ended}
use Rattle.nim_course.specs.Controller.{Controller}
use Rattle.nim_place.specs.Directed.{Directed, orders_to}
use Rattle.nim_course.specs.Leads.{AreLeading, AreLeadingFor, Leads, is_key_from}
use Rattle.nim_place.specs.TaskRuns.{position_run}
use Rattle.nim_history.specs.History.{Asked, asked_at}
use Rattle.nim_history.proofs.Members.{listed_at}
use Rattle.nim_lockstep.specs.Cluster.{ClusterState}
use Rattle.nim_lockstep.proofs.OnePlace.{numbers_at, one_run, run_in}
use Rattle.nim_lockstep.proofs.UnderWay.{AreApart, BeginOnce, IsOnCourse, run_placed}

-- a command that is asked for stands in the list of commands
pub asked_numbers : (groups : List Group) (place p : ℕ)
    → option_map_or (λ (asked : Asked). position_run asked.command.kind) (asked_at groups place) [] ≡ p ∷ []
    → numbers_at run_in (commands_of groups) place ≡ p ∷ []
asked_numbers groups place p is = either (asked_at groups place) refl is where
  either : (o : Option Asked) → asked_at groups place ≡ o → option_map_or (λ (asked : Asked). position_run asked.command.kind) o [] ≡ p ∷ []
      → numbers_at run_in (commands_of groups) place ≡ p ∷ []
  either None at runs = absurd cc
  either (Some asked) at runs = ap (λ (o : Option Command). option_map_or run_in o []) (listed_at groups place asked at) ∙ runs

-- every worker is live
pub all_live : (workers number : ℕ) (live : List Bool) → live ≡ replicate workers true → number < workers → is_live live (worker_of number) ≡ true
all_live workers number live are below =
    ap (λ (flags : List Bool). slice_index_or flags number false) are ∙ get_or-replicate workers number true false below

leading_apart : (job : Job) (place : Placement) (live : List Bool) (epoch position workers : ℕ) (to_come : Key → Bool) (given : List Directed)
    (versions : Versions) (decisions : Decisions) → live ≡ replicate workers true → AreLeading job place live epoch position to_come given versions decisions
    → (one other : ℕ) → one < workers → other < workers → (at there p : ℕ)
    → run_placed (orders_to one given) at ≡ p ∷ []
    → run_placed (orders_to other given) there ≡ p ∷ []
    → (one ≡ other) × (at ≡ there)
leading_apart job place live epoch position workers to_come given versions decisions are leading one other below within at there p first second =
    let listed : (number k : ℕ) → number < workers → run_placed (orders_to number given) k ≡ p ∷ []
    → numbers_at run_in (commands_for (worker_of number) leading.commands) k ≡ p ∷ [] =
    λ number k under runs.
    subst (λ (cs : List Command). numbers_at run_in cs k ≡ p ∷ [])
    (leading.so_far.ask.asked (worker_of number) (all_live workers number live are under))
    (asked_numbers (session_of (orders_to number given)).groups k p runs) in
    one_run leading.commands leading.from (position - leading.from) one other at there p leading.runs
    (listed one at below first) (listed other there within second)

-- before the epoch is begun nothing is asked for
none_placed : (orders : List ToWorker) (place p : ℕ) → orders ≡ [] → run_placed orders place ≡ p ∷ [] → ⊥
none_placed orders place p none is =
    let nothing : run_placed [] place ≡ p ∷ [] = subst (λ (os : List ToWorker). run_placed os place ≡ p ∷ []) none is in cc

pub apart_for : (job : Job) (c : Controller) (given : List Directed) (workers : ℕ) (pending : Pending) → c.live ≡ replicate workers true
    → AreLeadingFor job c given pending → ((number : ℕ) → number < workers → BeginOnce pending (orders_to number given))
    → (one other : ℕ) → one < workers → other < workers → (place there position : ℕ)
    → run_placed (orders_to one given) place ≡ position ∷ []
    → run_placed (orders_to other given) there ≡ position ∷ []
    → (one ≡ other) × (place ≡ there)
apart_for job c given workers Begin are leading once = λ one other below within place there position first second.
    absurd (none_placed (orders_to one given) place position (once one below) first)
apart_for job c given workers Idle are leading once =
    leading_apart job c.place c.live c.epoch c.position workers (is_key_from c.epoch c.instance) given c.versions c.decisions are leading
apart_for job c given workers (Block block args) are leading once =
    leading_apart job c.place c.live c.epoch c.position workers (is_key_from c.epoch c.instance) given c.versions c.decisions are leading
apart_for job c given workers (Cell row cell) are leading once =
    leading_apart job c.place c.live c.epoch c.position workers (is_key_from c.epoch c.instance) given c.versions c.decisions are leading
apart_for job c given workers (Parts var) are leading once =
    leading_apart job c.place c.live c.epoch c.position workers (is_key_from c.epoch c.instance) given c.versions c.decisions are leading
apart_for job c given workers Ended are leading once =
    leading_apart job c.place c.live c.epoch c.position workers (is_key_from c.epoch c.instance) given c.versions c.decisions are leading

pub are_apart : (s : ClusterState) → Leads s.job s.control s.put → IsOnCourse s → AreApart s
are_apart s leads course = apart_for s.job s.control s.put s.setup.workers s.control.pending course.live leads.leading course.once
