-- Where the tasks stand that were given so far: each at an old place of a worker's session.
use Rattle.std.proofs.Common.{◌≡◌, ℕ, ◌+◌, ◌-◌, ◌<◌, Bool, true, false, List, [], ◌∷◌, length, replicate, refl, ap, sym, subst, ◌∙◌, Option, None, Some, arith}
use Rattle.std.specs.Prelude.{slice_get}
use Rattle.std.specs.Option.{option_map, option_map_or}
use Rattle.std.proofs.lemmas.Bool.{both_ways}
use Rattle.std.proofs.lemmas.List.{length-replicate}
use Rattle.std.proofs.lemmas.Option.{slice_get-map}
use Rattle.nim_command.specs.declared.command.Command.{Command}
use Rattle.nim_command.specs.Waits.{Group, Member, commands_of, members_of}
use Rattle.nim_message.specs.Orders.{session_of}
use Rattle.nim_job.specs.declared.job.Job.{Job}
use Rattle.nim_place.specs.Directed.{Directed, orders_to}
use Rattle.nim_place.specs.Extends.{is_live, worker_of}
use Rattle.nim_place.specs.TaskRuns.{position_run}
use Rattle.nim_course.specs.declared.pending.Pending.{Pending}
use Rattle.nim_course.specs.declared.pending.Pending.TheVariants.{Begin, Idle, Block, Cell, Parts, Ended}
use Rattle.nim_course.specs.Controller.{Controller}
use Rattle.nim_course.specs.Leads.{AreLeading, AreLeadingFor, is_key_from}
use Rattle.nim_course.specs.PutLists.{is_begin}
use Rattle.nim_history.specs.History.{Asked, asked_at}
use Rattle.nim_place.proofs.LiveOnce.{live_within}
use Rattle.nim_history.proofs.Left.{asked_is}
use Rattle.nim_history.proofs.Members.{members_commands, of_group}
use Rattle.nim_lockstep.proofs.Apart.{asked_numbers}
use Rattle.nim_lockstep.proofs.OnePlace.{IsRunBy, numbers_at, position_run_by, run_in, within_runs}
use Rattle.nim_lockstep.proofs.UnderWay.{run_placed}

-- ---- a command in the list of all commands stands at its place

-- a worker is asked at a place for a command that runs this position
pub record RunsThere (groups : List Group) (place p : ℕ) : Type 0 where
  pub asked : Asked
  pub there : asked_at groups place ≡ Some asked
  pub runs : position_run asked.command.kind ≡ p ∷ []

numbers_asked : (groups : List Group) (place p : ℕ) → numbers_at run_in (commands_of groups) place ≡ p ∷ [] → RunsThere groups place p
numbers_asked groups place p is = either (slice_get (members_of groups) place) refl
    (sym (slice_get-map (λ (m : Member). m.command) (members_of groups) place)
    ∙ ap (λ (commands : List Command). slice_get commands place) (members_commands 0 groups)) where
      either : (o : Option Member) → slice_get (members_of groups) place ≡ o
          → option_map (λ (m : Member). m.command) (slice_get (members_of groups) place) ≡ slice_get (commands_of groups) place
          → RunsThere groups place p
      either None there same = absurd (none_runs (sym (sym (ap (option_map (λ (m : Member). m.command)) there) ∙ same)) is) where
        none_runs : slice_get (commands_of groups) place ≡ None → numbers_at run_in (commands_of groups) place ≡ p ∷ [] → ⊥
        none_runs none runs =
            let nothing : [] ≡ p ∷ [] = sym (ap (λ (o : Option Command). option_map_or run_in o []) none) ∙ runs in cc
      either (Some m) there same =
          let found = asked_is groups place m there in
          let at : slice_get (commands_of groups) place ≡ Some m.command = sym (sym (ap (option_map (λ (n : Member). n.command)) there) ∙ same) in
          record {
            asked = record { number = m.group; group = found.0; command = m.command };
            there = found.2;
            runs = sym (ap (λ (o : Option Command). option_map_or run_in o []) at) ∙ is;
          }

-- ---- what leads

-- once the epoch is begun the orders lead
abbrev pub LeadsOn : Job → Controller → List Directed → Type 0
LeadsOn job c given = AreLeading job c.place c.live c.epoch c.position (is_key_from c.epoch c.instance) given c.versions c.decisions

pub leading_on : (job : Job) (c : Controller) (given : List Directed) (pending : Pending) → is_begin pending ≡ false → AreLeadingFor job c given pending
    → LeadsOn job c given
leading_on job c given Begin is leading = absurd (both_ways true is refl)
leading_on job c given Idle is leading = leading
leading_on job c given (Block block args) is leading = leading
leading_on job c given (Cell row cell) is leading = leading
leading_on job c given (Parts var) is leading = leading
leading_on job c given Ended is leading = leading

-- before it is begun no task was given
pub none_given : (job : Job) (c : Controller) (given : List Directed) (pending : Pending) → is_begin pending ≡ true → AreLeadingFor job c given pending
    → c.position ≡ 0
none_given job c given Begin is leading = leading.position
none_given job c given Idle is leading = absurd (both_ways false refl is)
none_given job c given (Block block args) is leading = absurd (both_ways false refl is)
none_given job c given (Cell row cell) is leading = absurd (both_ways false refl is)
none_given job c given (Parts var) is leading = absurd (both_ways false refl is)
none_given job c given Ended is leading = absurd (both_ways false refl is)

-- a task that a worker is asked for was given
pub within_given : (job : Job) (c : Controller) (given : List Directed) (number place p : ℕ) → LeadsOn job c given
    → is_live c.live (worker_of number) ≡ true → run_placed (orders_to number given) place ≡ p ∷ [] → p < c.position
within_given job c given number place p leading there runs =
    let first : p < leading.from + (c.position - leading.from) =
    within_runs leading.commands leading.from (c.position - leading.from) number place p leading.runs
    (subst (λ (cs : List Command). numbers_at run_in cs place ≡ p ∷ []) (leading.so_far.ask.asked (worker_of number) there)
    (asked_numbers (session_of (orders_to number given)).groups place p runs)) in
    omega (arith, first, leading.since)

-- a worker that is asked for it
pub record IsGivenTo (workers : ℕ) (given : List Directed) (p : ℕ) : Type 0 where
  pub number : ℕ
  pub below : number < workers
  pub place : ℕ
  pub runs : RunsThere (session_of (orders_to number given)).groups place p

-- each task that was given is asked for
pub given_to : (job : Job) (c : Controller) (given : List Directed) (workers p : ℕ) → c.live ≡ replicate workers true → c.epoch ≡ 0
    → LeadsOn job c given → p < c.position → IsGivenTo workers given p
given_to job c given workers p are epoch leading below =
    let none : leading.from ≡ 0 = leading.first epoch in
    let by : IsRunBy leading.commands p =
    position_run_by leading.commands leading.from (c.position - leading.from) p leading.runs (omega (arith, none)) (omega (arith, none, below)) in
    either by (is_live c.live by.worker) refl where
      either : (by : IsRunBy leading.commands p) (b : Bool) → is_live c.live by.worker ≡ b → IsGivenTo workers given p
      either by true there =
          record {
            number = by.worker.0;
            below = omega (arith, live_within c.live by.worker there, ap (λ (flags : List Bool). length flags) are, length-replicate workers true);
            place = by.place;
            runs = numbers_asked (session_of (orders_to by.worker.0 given)).groups by.place p
                (subst (λ (cs : List Command). numbers_at run_in cs by.place ≡ p ∷ []) (sym (leading.so_far.ask.asked by.worker there)) by.runs);
          }
      either by false there =
          let nothing : [] ≡ p ∷ [] =
          subst (λ (cs : List Command). numbers_at run_in cs by.place ≡ p ∷ []) (leading.so_far.ask.none by.worker there) by.runs in
          absurd cc
