-- The move that asks for an instance of a block that was recorded.
use Rattle.std.proofs.Common.{◌≡◌, ℕ, ◌+◌, ◌<◌, zero, suc, true, false, ℤ, List, [], ◌∷◌, ◌++◌, drop, length, map, take, refl, ap, ap₂, sym, subst, ◌∙◌, arith, None, Some}
use Rattle.std.specs.Prelude.{◌==◌, ◌&&◌, nat_le, slice_get}
use Rattle.std.proofs.lemmas.Bool.Decides.{nat_tests}
use Rattle.std.proofs.lemmas.List.{length-map}
use Rattle.std.proofs.lemmas.List.Elements.{All-append}
use Rattle.std.proofs.lemmas.Option.{same_Some}
use Rattle.nim_base.specs.declared.number.Worker.{Worker}
use Rattle.nim_base.specs.declared.task.TaskForm.{TaskForm}
use Rattle.nim_command.specs.declared.command.Command.{Command}
use Rattle.nim_command.specs.Numbers.{counted_from}
use Rattle.nim_job.specs.declared.ask.Ask.{Ask}
use Rattle.nim_job.specs.declared.job.Job.{Job}
use Rattle.nim_job.specs.Objects.{objects_of}
use Rattle.nim_job.specs.Serial.{tasks_of}
use Rattle.nim_job.specs.Tasks.{block_forms_of, block_tasks_of, task_with_args}
use Rattle.nim_job.proofs.FewTasks.{few_tasks}
use Rattle.nim_job.proofs.Whole.{vars_sizes, whole_vars}
use Rattle.nim_place.specs.Directed.{Directed, by_number}
use Rattle.nim_place.specs.Extends.{HaveNone, longer}
use Rattle.nim_place.specs.TaskOrders.{IsAt}
use Rattle.nim_place.specs.TaskRuns.{RunsAtHome}
use Rattle.nim_place.specs.Versions.{Versions}
use Rattle.nim_template.specs.Again.{IsBefore}
use Rattle.nim_template.specs.Given.{AreTasksAt}
use Rattle.nim_reuse.specs.declared.instance.InstanceAt.{InstanceAt}
use Rattle.nim_reuse.specs.declared.reused.Reused.{Reused}
use Rattle.nim_reuse.specs.Decisions.{is_recorded}
use Rattle.nim_reuse.specs.GoesOn.{HasGoneOn, MayGoOn, is_key_at}
use Rattle.nim_reuse.specs.Reuse.{commands_at, decisions_at, reused_at, template_at, versions_at}
use Rattle.nim_course.specs.declared.pending.Pending.{Pending}
use Rattle.nim_course.specs.Controller.{Controller}
use Rattle.nim_course.specs.Leads.{AreLeading, AreLeadingFor, HasAsked, Leads, IsDriverAt, is_key_from}
use Rattle.nim_course.specs.Moves.{with_reused}
use Rattle.nim_course.specs.OrdersGiven.{instance_at, reused_flight, reused_orders}
use Rattle.nim_course.specs.Summaries.{counted_on, reused_counted}
use Rattle.nim_course.proofs.Alone.{AreLed, none_weaker, right_more}
use Rattle.nim_course.proofs.Asking.{AreNext, position_there}
use Rattle.nim_course.proofs.Blocks.{steps_few}
use Rattle.nim_reuse.proofs.GoesOn.{instances_go_on}
use Rattle.nim_reuse.proofs.Lists.{number_append}
use Rattle.nim_course.proofs.Instances.{behind_leads, few_begun, numbers_counted, tasks_ready}
use Rattle.nim_course.proofs.Runs.{once_more}
use Rattle.nim_course.proofs.Standing.{GoesOn}
use Rattle.nim_course.proofs.Tasks.{AreReady}

-- ---- the tasks

-- a list begins with those that stand at its first places
taken : {X : Type 0} (xs ys : List X) → ((k : ℕ) → k < length ys → slice_get xs k ≡ slice_get ys k) → take (length ys) xs ≡ ys
taken [] [] same = refl
taken (x ∷ xs) [] same = refl
taken [] (y ∷ ys) same = let none : None ≡ Some y = same 0 (omega arith) in absurd cc
taken (x ∷ xs) (y ∷ ys) same =
    ap₂ (λ (z : _) (zs : List _). z ∷ zs) (same_Some x y (same 0 (omega arith))) (taken xs ys (λ k below. same (suc k) (omega (arith, below))))

-- and so from a place on
taken_from : {X : Type 0} (xs ys : List X) (from : ℕ) → ((k : ℕ) → k < length ys → slice_get xs (from + k) ≡ slice_get ys k)
    → take (length ys) (drop from xs) ≡ ys
taken_from xs ys zero same = taken xs ys (λ k below. let here : k ≡ 0 + k = omega arith in ap (slice_get xs) here ∙ same k below)
taken_from [] [] (suc from) same = refl
taken_from [] (y ∷ ys) (suc from) same = let none : None ≡ Some y = same 0 (omega arith) in absurd cc
taken_from (x ∷ xs) ys (suc from) same =
    taken_from xs ys from (λ k below. let later : suc (from + k) ≡ suc from + k = omega arith in ap (slice_get (x ∷ xs)) later ∙ same k below)

-- the job's next tasks are the block's, of these forms
tasks_at : (job : Job) (position : ℕ) (args : List ℤ) (forms all : List TaskForm) → all ≡ forms → AreNext job position (map (task_with_args args) forms)
    → take (length all) (drop position (tasks_of job)) ≡ map (task_with_args args) all
tasks_at job position args forms all same next =
    subst (λ (fs : List TaskForm). take (length fs) (drop position (tasks_of job)) ≡ map (task_with_args args) fs) (sym same)
    (ap (λ (n : ℕ). take n (drop position (tasks_of job))) (sym (length-map forms (task_with_args args)))
    ∙ taken_from (tasks_of job) (map (task_with_args args) forms) position next)

-- ---- keys

not_at : (e i f j : ℕ) → ((f == e) && nat_le i j) ≡ false → ((f == e) && (j == i)) ≡ false
not_at e i f j none = grind (arith, nat_tests)

not_behind : (e i f j : ℕ) → ((f == e) && (j == i)) ≡ true → ((f == e) && nat_le (i + 1) j) ≡ false
not_behind e i f j is = grind (arith, nat_tests)

not_further : (e i f j : ℕ) → ((f == e) && nat_le i j) ≡ false → ((f == e) && nat_le (i + 1) j) ≡ false
not_further e i f j none = grind (arith, nat_tests)

-- ---- the orders

-- the recorded block may be reused
may_go : (c : Controller) (given : List Directed) (block : ℕ) (args : List ℤ) → GoesOn c given
    → (leading : AreLeading c.job c.place c.live c.epoch c.position (is_key_from c.epoch c.instance) given c.versions c.decisions)
    → HasAsked c.job (Ask.Run block args) c.machine c.position → is_recorded c.decisions block ≡ true
    → MayGoOn c.place c.live (objects_of c.job.vars) (block_forms_of c.job) (instance_at c block) given leading.commands c.versions c.decisions
may_go c given block args on leading asked recorded = record {
  so_far = leading.so_far;
  before = leading.before;
  room = omega (
    arith,
    position_there c.job asked.before c.position block args on.whole asked.opened asked.asks,
    few_tasks c.job on.whole,
    steps_few c.job on.whole,
  );
  holders = λ object below. leading.at.holders object (omega (arith, below, leading.at.objects));
  decided = leading.decided;
  recorded = recorded;
  some = on.some;
  few = on.few;
  few_objects = (vars_sizes c.job.vars (whole_vars c.job on.whole)).0;
}

-- an instance that goes on leads to the position behind the block's tasks
reused_led : (c : Controller) (given : List Directed) (block : ℕ) (args : List ℤ) (behind instance : ℕ) → GoesOn c given
    → AreReady c.job c.position 0 (block_tasks_of c.job block args)
    → (leading : AreLeading c.job c.place c.live c.epoch c.position (is_key_from c.epoch c.instance) given c.versions c.decisions)
    → HasGoneOn c.place c.live (objects_of c.job.vars) (block_forms_of c.job) (instance_at c block) args given leading.commands c.versions c.decisions
    → behind ≡ c.position + length (block_forms_of c.job block) → instance ≡ c.instance + 1
    → AreLed c.job c.place c.live c.epoch behind (is_key_from c.epoch instance) (given ++ reused_orders c block args)
    (versions_at c.place c.live (instance_at c block) c.versions c.decisions) (decisions_at c.place c.live (instance_at c block) c.versions c.decisions)
reused_led c given block args behind instance on ready leading gone is counts =
    let at : InstanceAt = instance_at c block in
    let orders : List Directed = reused_orders c block args in
    let more : List (Worker × Command) = commands_at c.place c.live at args c.versions c.decisions in
    let after : Versions = versions_at c.place c.live at c.versions c.decisions in
    let forms : List TaskForm = block_forms_of c.job block in
    let Home : Worker × Command → Type 0 = λ one. RunsAtHome c.job c.place c.live one.0 one.1.kind in
    let here : c.position + 0 ≡ c.position = omega arith in
    let tasks : AreTasksAt c.job c.position args (template_at c.place c.live at c.versions c.decisions) = record {
      whole = on.whole;
      tasks = tasks_at c.job c.position args forms (template_at c.place c.live at c.versions c.decisions).forms gone.has_forms
          (subst (λ (p : ℕ). AreNext c.job p (block_tasks_of c.job block args)) here ready.next);
    } in
    let same : by_number (given ++ orders) ≡ longer (by_number given) (by_number orders) = number_append given orders in
    record {
      right = right_more c.job c.live given (given ++ orders) (by_number orders) on.right same (gone.legal c.job leading.at tasks) gone.covered
          (gone.paired.paired on.right.paired
          (none_weaker c.live (by_number given) (is_key_from c.epoch c.instance) (is_key_at at)
          (λ key none. not_at c.epoch c.instance key.epoch key.instance none) leading.fresh));
      leading = record {
        commands = leading.commands ++ more;
        so_far = gone.so_far;
        before = subst (λ (p : ℕ). IsBefore (length c.live) (objects_of c.job.vars) p after) (sym is) gone.before;
        at = subst (λ (p : ℕ). IsAt c.job p after) (sym is) (gone.next c.job leading.at tasks);
        decided = gone.decided;
        fresh = subst (λ (n : ℕ). HaveNone (is_key_from c.epoch n) c.live (by_number (given ++ orders))) (sym counts)
            (subst (HaveNone (is_key_from c.epoch (c.instance + 1)) c.live) (sym same)
            (gone.paired.others (is_key_from c.epoch (c.instance + 1))
            (λ key is. not_behind c.epoch c.instance key.epoch key.instance is)
            (none_weaker c.live (by_number given) (is_key_from c.epoch c.instance) (is_key_from c.epoch (c.instance + 1))
            (λ key none. not_further c.epoch c.instance key.epoch key.instance none) leading.fresh)));
        from = leading.from;
        first = leading.first;
        since = omega (arith, leading.since, is);
        runs = once_more leading.from c.position (length forms) behind leading.commands more leading.since is leading.runs gone.runs;
        homes = All-append Home leading.commands more leading.homes (gone.homes c.job tasks refl);
      };
    }

-- ---- the move

pub reused_leads : (c : Controller) (given : List Directed) (block : ℕ) (args : List ℤ) → c.outcome ≡ None → c.pending ≡ Pending.Block block args
    → is_recorded c.decisions block ≡ true → GoesOn c given → Leads c.job (with_reused c block) (given ++ reused_orders c block args)
reused_leads c given block args none is recorded on =
    let at : InstanceAt = instance_at c block in
    let reused : Reused = reused_at c.place c.live at c.versions c.decisions in
    let asked : HasAsked c.job (Ask.Run block args) c.machine c.position = subst (IsDriverAt c.job c) is on.driver in
    let counted = numbers_counted c given block args on asked (few_begun c given block args is on) in
    let many : length (block_tasks_of c.job block args) ≡ length (block_forms_of c.job block) = length-map (block_forms_of c.job block) (task_with_args args) in
    let behind : counted_from c.position (length (block_forms_of c.job block)) ≡ c.position + length (block_tasks_of c.job block args) =
    ap (counted_from c.position) (sym many) ∙ counted.position in
    let leading : AreLeading c.job c.place c.live c.epoch c.position (is_key_from c.epoch c.instance) given c.versions c.decisions =
    subst (AreLeadingFor c.job c given) is on.leading in
    let gone = instances_go_on c.place c.live (objects_of c.job.vars) (block_forms_of c.job) at args given leading.commands c.versions c.decisions
    (may_go c given block args on leading asked recorded) in
    behind_leads c given (given ++ reused_orders c block args) block args (versions_at c.place c.live at c.versions c.decisions)
    (decisions_at c.place c.live at c.versions c.decisions) (counted_from c.position (length (block_forms_of c.job block)))
    (c.flight ++ reused_flight c reused.awaited) (reused_counted reused.is_new reused.patched c.summary) none is on behind counted.instance
    (reused_led c given block args (counted_from c.position (length (block_forms_of c.job block))) (counted_on c.instance 1) on
    (tasks_ready c given block args on asked) leading gone (behind ∙ ap (λ (n : ℕ). c.position + n) many) counted.instance)
