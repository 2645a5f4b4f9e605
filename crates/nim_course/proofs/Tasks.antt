-- The orders of a block's tasks lead on.
use Rattle.std.proofs.Common.{◌≡◌, ℕ, ◌+◌, ◌<◌, ◌≤◌, suc, Bool, true, false, List, [], ◌∷◌, ◌++◌, length, refl, ap, sym, subst, ◌∙◌, arith, Option, None, Some}
use Rattle.std.specs.Prelude.{◌==◌, ◌&&◌, ◌||◌, nat_le, nat_lt, slice_get, IfSome}
use Rattle.std.specs.List.{list_all, list_any}
use Rattle.std.proofs.Math.ListN.{get_or-eq_default}
use Rattle.std.proofs.lemmas.Bool.{and_parts}
use Rattle.std.proofs.lemmas.Bool.Decides.{nat_tests}
use Rattle.std.proofs.lemmas.List.{append-nil, append_assoc}
use Rattle.std.proofs.lemmas.List.Elements.{All-append, All-cons, All-nil}
use Rattle.nim_base.specs.declared.number.Object.{Object}
use Rattle.nim_base.specs.declared.number.Worker.{Worker}
use Rattle.nim_base.specs.declared.task.Task.{Task}
use Rattle.nim_command.specs.declared.command.Command.{Command}
use Rattle.nim_command.specs.Numbers.{counted_from, task_of}
use Rattle.nim_message.specs.declared.order.ToWorker.{ToWorker}
use Rattle.nim_job.specs.declared.job.Job.{Job}
use Rattle.nim_job.specs.Objects.{objects_of}
use Rattle.nim_job.specs.Serial.{tasks_of}
use Rattle.nim_job.specs.Whole.{is_whole_task, is_whole}
use Rattle.nim_plan.specs.Paired.{Key}
use Rattle.nim_place.specs.declared.placement.Placement.{Placement}
use Rattle.nim_place.specs.Extends.{AskFor, HaveNone, LongerIsPaired, is_live, longer, single_with, singles_of, worker_of}
use Rattle.nim_place.specs.Schedule.{copies_of, moved_first, moves, owner_of, run_of, scheduled, source_of}
use Rattle.nim_place.specs.Stands.{commands_for}
use Rattle.nim_place.specs.TaskOrders.{IsTaskAt, is_key_of}
use Rattle.nim_place.specs.Versions.{Versions, after_commands}
use Rattle.nim_place.proofs.ByTask.{schedule_ruled}
use Rattle.nim_place.proofs.Given.{schedule_stands}
use Rattle.nim_place.proofs.GoesOn.{position_few, schedule_goes_on}
use Rattle.nim_place.proofs.Held.{for_append}
use Rattle.nim_place.proofs.Legal.{schedule_legal}
use Rattle.nim_place.proofs.Singles.{schedule_asks, singles_covered}
use Rattle.nim_place.proofs.TaskPairs.{schedule_paired}
use Rattle.nim_template.proofs.StaysBefore.{maps_stay_before}
use Rattle.nim_reuse.specs.Decisions.{Decisions}
use Rattle.nim_course.specs.Controller.{Controller}
use Rattle.nim_place.specs.Directed.{Directed, by_number, directed}
use Rattle.nim_course.specs.Leads.{AreLeading, is_key_from}
use Rattle.nim_place.specs.TaskRuns.{RunsAtHome}
use Rattle.nim_course.specs.OrdersGiven.{after_instance, instance_orders}
use Rattle.nim_course.proofs.Alone.{AreLed, decided_more, none_weaker, right_more}
use Rattle.nim_course.proofs.Asking.{AreNext}
use Rattle.nim_course.proofs.Counts.{counts_of, reads_few, task_counts, writes_some}
use Rattle.nim_course.proofs.Homes.{owner_live}
use Rattle.nim_course.proofs.Runs.{AreQuiet, once_before, once_more, quiet_homes, run_once}
use Rattle.nim_place.proofs.Directed.{more_directed}
use Rattle.nim_place.proofs.LiveOnce.{live_within}

-- ---- keys that are still to come

-- whether a key is of an epoch, and of a task from one on of this instance, or of a later instance
abbrev pub is_to_come : ℕ → ℕ → ℕ → Key → Bool
is_to_come epoch instance number key =
    (key.epoch == epoch) && (nat_lt instance key.instance || ((key.instance == instance) && nat_le number (task_of key.entry)))

not_its : (e i n f j t : ℕ) → ((f == e) && (nat_lt i j || ((j == i) && nat_le n t))) ≡ false → ((f == e) && (j == i) && (t == n)) ≡ false
not_its e i n f j t none = grind (arith, nat_tests)

not_later : (e i n f j t : ℕ) → ((f == e) && (j == i) && (t == n)) ≡ true → ((f == e) && (nat_lt i j || ((j == i) && nat_le (n + 1) t))) ≡ false
not_later e i n f j t is = grind (arith, nat_tests)

not_next : (e i n f j t : ℕ) → ((f == e) && (nat_lt i j || ((j == i) && nat_le n t))) ≡ false
    → ((f == e) && (nat_lt i j || ((j == i) && nat_le (n + 1) t))) ≡ false
not_next e i n f j t none = grind (arith, nat_tests)

not_first : (e i f j t : ℕ) → ((f == e) && nat_le i j) ≡ false → ((f == e) && (nat_lt i j || ((j == i) && nat_le 0 t))) ≡ false
not_first e i f j t none = grind (arith, nat_tests)

not_after : (e i n f j t : ℕ) → ((f == e) && (nat_lt i j || ((j == i) && nat_le n t))) ≡ false → ((f == e) && nat_le (i + 1) j) ≡ false
not_after e i n f j t none = grind (arith, nat_tests)

-- from those of an instance on
pub first_to_come : (live : List Bool) (lists : ℕ → List ToWorker) (epoch instance : ℕ) → HaveNone (is_key_from epoch instance) live lists
    → HaveNone (is_to_come epoch instance 0) live lists
first_to_come live lists epoch instance =
    none_weaker live lists (is_key_from epoch instance) (is_to_come epoch instance 0)
    (λ key none. not_first epoch instance key.epoch key.instance (task_of key.entry) none)

-- to those of the next one
pub none_from : (live : List Bool) (lists : ℕ → List ToWorker) (epoch instance number : ℕ) → HaveNone (is_to_come epoch instance number) live lists
    → HaveNone (is_key_from epoch (instance + 1)) live lists
none_from live lists epoch instance number =
    none_weaker live lists (is_to_come epoch instance number) (is_key_from epoch (instance + 1))
    (λ key none. not_after epoch instance number key.epoch key.instance (task_of key.entry) none)

-- ---- one task

behind_none : {X : Type 0} (xs ys : List X) → xs ++ ys ≡ [] → ys ≡ []
behind_none [] ys none = none
behind_none (x ∷ xs) ys none = absurd cc

-- workers past the last one get nothing
past_none : (live : List Bool) (epoch instance : ℕ) (lists : ℕ → List ToWorker) (commands more : List (Worker × Command))
    → AskFor live epoch lists (commands ++ more) → (number : ℕ) → length live ≤ number → singles_of epoch instance more number ≡ []
past_none live epoch instance lists commands more ask number past =
    ap (single_with epoch instance)
    (behind_none (commands_for (worker_of number) commands) (commands_for (worker_of number) more)
    (sym (for_append (worker_of number) commands more) ∙ ask.none (worker_of number) (get_or-eq_default live false past)))

copies_quiet : (versions : Versions) (number : ℕ) (owner : Worker) (past reads : List Object)
    → AreQuiet (copies_of versions number owner (moves versions owner past reads))
copies_quiet versions number owner past [] = tt
copies_quiet versions number owner past (next ∷ reads) =
    either (copies_quiet versions number owner (past ++ next ∷ []) reads) (source_of versions owner past next) where
      either : AreQuiet (copies_of versions number owner (moves versions owner (past ++ next ∷ []) reads)) → (o : Option Worker)
          → AreQuiet (copies_of versions number owner (moved_first (length past) next o (moves versions owner (past ++ next ∷ []) reads)))
      either rest None = rest
      either rest (Some from) = (refl, (refl, rest))

pub task_leads : (job : Job) (place : Placement) (live : List Bool) (epoch instance number position : ℕ) (given : List Directed) (versions : Versions)
    (decisions : Decisions) (task : Task)
    → list_any (λ (flag : Bool). flag) live ≡ true → is_whole_task (objects_of job.vars) task ≡ true → IsTaskAt job position task → number < 65536
    → AreLed job place live epoch position (is_to_come epoch instance number) given versions decisions
    → AreLed job place live epoch (position + 1) (is_to_come epoch instance (number + 1))
    (given ++ directed (length live) (singles_of epoch instance (scheduled versions task number position place live)))
    (after_commands versions (scheduled versions task number position place live)) decisions
task_leads job place live epoch instance number position given versions decisions task some fits next small led =
    let leading : AreLeading job place live epoch position (is_to_come epoch instance number) given versions decisions = led.leading in
    let past : List (Worker × Command) = leading.commands in
    let counts = counts_of task.func (length task.params) (length task.reads) (length task.writes) (task_counts (objects_of job.vars) task fits) in
    let owner : Worker = owner_of place task versions.objects live in
    let owns : is_live live owner ≡ true =
    owner_live place task versions.objects live some (omega (arith, counts.1, writes_some task.func)) in
    let below : owner.0 < versions.workers = omega (arith, live_within live owner owns, leading.before.rows) in
    let moved = moves versions owner [] task.reads in
    let copies : List (Worker × Command) = copies_of versions number owner moved in
    let run : Worker × Command = (owner, run_of task number position moved) in
    let commands : List (Worker × Command) = scheduled versions task number position place live in
    let after : Versions = after_commands versions commands in
    let more : ℕ → List ToWorker = singles_of epoch instance commands in
    let orders : List Directed = given ++ directed (length live) more in
    let ask : AskFor live epoch (longer (by_number given) more) (past ++ commands) =
    schedule_asks versions live owner task number position commands owns refl epoch instance (by_number given) past leading.so_far in
    let same : by_number orders ≡ longer (by_number given) more =
    more_directed given (length live) more (past_none live epoch instance (longer (by_number given) more) past commands ask) in
    let paired : LongerIsPaired (is_key_of epoch instance number) live (by_number given) more =
    schedule_paired versions live owner task number position commands small refl epoch instance (by_number given) past leading.so_far
    (omega (arith, counts.0, reads_few task.func)) in
    let Home : Worker × Command → Type 0 = λ one. RunsAtHome job place live one.0 one.1.kind in
    let at_home : Home run =
    subst (λ (o : Option Task). IfSome o (λ (t : Task). owner ≡ owner_of place t (objects_of job.vars) live)) (sym next.there)
    (ap (λ (n : ℕ). owner_of place task n live) leading.at.objects) in
    let quiet = copies_quiet versions number owner [] task.reads in
    record {
      right = right_more job live given orders more led.right same
          (schedule_legal versions live owner task number position commands below refl job epoch instance (by_number given) past leading.so_far leading.at
          next)
          (singles_covered commands (schedule_ruled versions owner task number position commands refl) epoch instance (by_number given))
          (paired.paired led.right.paired
          (none_weaker live (by_number given) (is_to_come epoch instance number) (is_key_of epoch instance number)
          (λ key none. not_its epoch instance number key.epoch key.instance (task_of key.entry) none) leading.fresh));
      leading = record {
        commands = past ++ commands;
        so_far = record {
          stands = schedule_stands versions after owner task number position commands below refl refl past leading.so_far.stands;
          ask = subst (λ (lists : ℕ → List ToWorker). AskFor live epoch lists (past ++ commands)) (sym same) ask;
        };
        before =
            maps_stay_before.task (length live) (objects_of job.vars) position number versions task place live leading.before refl some
            (omega (arith, position_few job position task next.whole next.there));
        at = schedule_goes_on versions after owner task number position commands below refl refl job past leading.so_far.stands leading.at next;
        decided = decided_more job place live epoch instance given orders commands decisions same leading.decided;
        fresh = subst (HaveNone (is_to_come epoch instance (number + 1)) live) (sym same)
            (paired.others (is_to_come epoch instance (number + 1))
            (λ key is. not_later epoch instance number key.epoch key.instance (task_of key.entry) is)
            (none_weaker live (by_number given) (is_to_come epoch instance number) (is_to_come epoch instance (number + 1))
            (λ key none. not_next epoch instance number key.epoch key.instance (task_of key.entry) none) leading.fresh));
        from = leading.from;
        first = leading.first;
        since = omega (arith, leading.since);
        runs = once_more leading.from position 1 (position + 1) past commands leading.since refl leading.runs
            (once_before position 1 copies (run ∷ []) (run_once position run refl) quiet);
        homes = All-append Home past commands leading.homes
            (All-append Home copies (run ∷ []) (quiet_homes job place live copies quiet) (All-cons Home run [] at_home (All-nil Home)));
      };
    }

-- ---- the tasks of an instance

-- the tasks that are next are so from the second on
next_rest : (job : Job) (position : ℕ) (task : Task) (tasks : List Task) → AreNext job position (task ∷ tasks) → AreNext job (position + 1) tasks
next_rest job position task tasks next = λ k below.
    let later : position + 1 + k ≡ position + suc k = omega arith in
    ap (slice_get (tasks_of job)) later ∙ next (suc k) (omega (arith, below))

-- what is pending: the tasks from one on are next, and fit the job
pub record AreReady (job : Job) (position number : ℕ) (tasks : List Task) : Type 0 where
  pub whole : is_whole job ≡ true
  pub fit : list_all (is_whole_task (objects_of job.vars)) tasks ≡ true
  pub next : AreNext job (position + number) tasks
  pub few : number + length tasks ≤ 65536

first_task : (job : Job) (position number : ℕ) (task : Task) (tasks : List Task) → AreReady job position number (task ∷ tasks)
    → IsTaskAt job (position + number) task
first_task job position number task tasks ready =
    let first : position + number ≡ position + number + 0 = omega arith in
    record { whole = ready.whole; there = ap (slice_get (tasks_of job)) first ∙ ready.next 0 (omega arith) }

rest_ready : (job : Job) (position number : ℕ) (task : Task) (tasks : List Task) → AreReady job position number (task ∷ tasks)
    → AreReady job position (number + 1) tasks
rest_ready job position number task tasks ready =
    let on : position + number + 1 ≡ position + (number + 1) = omega arith in
    record {
      whole = ready.whole;
      fit = (and_parts (is_whole_task (objects_of job.vars) task) (list_all (is_whole_task (objects_of job.vars)) tasks) ready.fit).1;
      next = subst (λ (p : ℕ). AreNext job p tasks) on (next_rest job (position + number) task tasks ready.next);
      few = omega (arith, ready.few);
    }

pub tasks_lead : (c : Controller) (number : ℕ) (given : List Directed) (versions : Versions) (tasks : List Task)
    → list_any (λ (flag : Bool). flag) c.live ≡ true → AreReady c.job c.position number tasks
    → AreLed c.job c.place c.live c.epoch (c.position + number) (is_to_come c.epoch c.instance number) given versions c.decisions
    → AreLed c.job c.place c.live c.epoch (c.position + (number + length tasks)) (is_to_come c.epoch c.instance (number + length tasks))
    (given ++ instance_orders c number versions tasks) (after_instance c number versions tasks) c.decisions
tasks_lead c number given versions [] some ready led =
    let same : number ≡ number + 0 = omega arith in
    subst (λ (ds : List Directed). AreLed c.job c.place c.live c.epoch (c.position + (number + 0)) (is_to_come c.epoch c.instance (number + 0)) ds versions
    c.decisions)
    (sym (append-nil given))
    (subst (λ (n : ℕ). AreLed c.job c.place c.live c.epoch (c.position + n) (is_to_come c.epoch c.instance n) given versions c.decisions) same led)
tasks_lead c number given versions (task ∷ tasks) some ready led =
    let at : ℕ = c.position + number in
    let there = first_task c.job c.position number task tasks ready in
    let exact : at ≡ counted_from c.position number = omega (arith, position_few c.job at task ready.whole there.there) in
    let on : at + 1 ≡ c.position + (number + 1) = omega arith in
    let end : number + 1 + length tasks ≡ number + length (task ∷ tasks) = omega arith in
    let commands : List (Worker × Command) = scheduled versions task number (counted_from c.position number) c.place c.live in
    let orders : List Directed = directed (length c.live) (singles_of c.epoch c.instance commands) in
    let fits = (and_parts (is_whole_task (objects_of c.job.vars) task) (list_all (is_whole_task (objects_of c.job.vars)) tasks) ready.fit).0 in
    let one : AreLed c.job c.place c.live c.epoch (at + 1) (is_to_come c.epoch c.instance (number + 1)) (given ++ orders)
    (after_commands versions commands) c.decisions =
    subst (λ (p : ℕ). AreLed c.job c.place c.live c.epoch (at + 1) (is_to_come c.epoch c.instance (number + 1))
    (given ++ directed (length c.live) (singles_of c.epoch c.instance (scheduled versions task number p c.place c.live)))
    (after_commands versions (scheduled versions task number p c.place c.live)) c.decisions) exact
    (task_leads c.job c.place c.live c.epoch c.instance number at given versions c.decisions task some fits there (omega (arith, ready.few)) led) in
    let rest = tasks_lead c (number + 1) (given ++ orders) (after_commands versions commands) tasks some
    (rest_ready c.job c.position number task tasks ready)
    (subst (λ (p : ℕ). AreLed c.job c.place c.live c.epoch p (is_to_come c.epoch c.instance (number + 1)) (given ++ orders)
    (after_commands versions commands) c.decisions) on one) in
    let others : List Directed = instance_orders c (number + 1) (after_commands versions commands) tasks in
    let last : Versions = after_instance c (number + 1) (after_commands versions commands) tasks in
    subst (λ (n : ℕ). AreLed c.job c.place c.live c.epoch (c.position + n) (is_to_come c.epoch c.instance n) (given ++ (orders ++ others)) last c.decisions) end
    (subst (λ (ds : List Directed). AreLed c.job c.place c.live c.epoch (c.position + (number + 1 + length tasks))
    (is_to_come c.epoch c.instance (number + 1 + length tasks)) ds last c.decisions) (append_assoc given orders others) rest)
