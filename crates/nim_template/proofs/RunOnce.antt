-- An instance of a built template runs each task of its block once, at its home.
use Rattle.std.proofs.Common.{◌≡◌, ℕ, ◌+◌, ◌≤◌, Bool, true, false, cond, List, [], ◌∷◌, ◌++◌, drop, length, map, refl, ap, sym, subst, ◌∙◌, arith, Option}
use Rattle.std.specs.Prelude.{◌==◌, ◌&&◌, ◌||◌, if◌then◌else◌, nat_le, nat_lt, slice_get, take, count_by, IfSome, IsPermutation, ℤ}
use Rattle.std.specs.List.{AllByRecursion, list_all, list_any}
use Rattle.std.specs.Ordering.{is_le}
use Rattle.std.proofs.lemmas.Bool.Decides.{nat_tests}
use Rattle.std.proofs.lemmas.List.{length-map}
use Rattle.std.proofs.lemmas.List.Elements.{All-from_recursion}
use Rattle.std.proofs.lemmas.List.Sorted.{All-permutation, IsPermutation-cons, IsPermutation-middle, IsPermutation-refl, IsPermutation-sym, IsPermutation-trans}
use Rattle.std.proofs.lemmas.List.Sorted.{sum_by-IsPermutation}
use Rattle.std.proofs.lemmas.List.Sums.{sum_by-cons}
use Rattle.nim_base.specs.declared.number.Worker.{Worker}
use Rattle.nim_base.specs.declared.task.Task.{Task}
use Rattle.nim_base.specs.declared.task.TaskForm.{TaskForm}
use Rattle.nim_command.specs.declared.command.Command.{Command}
use Rattle.nim_command.specs.declared.command.Kind.{Kind}
use Rattle.nim_command.specs.declared.command.Kind.TheVariants.{Create, Load, Send, Receive, Copy, Run, Fetch}
use Rattle.nim_command.specs.declared.template.WorkerTemplate.{WorkerTemplate}
use Rattle.nim_command.specs.Ranks.{rank_of, ranks_compared}
use Rattle.nim_job.specs.declared.job.Job.{Job}
use Rattle.nim_job.specs.Objects.{objects_of}
use Rattle.nim_job.specs.Serial.{tasks_of}
use Rattle.nim_place.specs.declared.placement.Placement.{Placement}
use Rattle.nim_place.specs.Schedule.{owner_of}
use Rattle.nim_place.specs.Sound.{by_rank, owned_from, put_by_rank, run_by}
use Rattle.nim_place.specs.TaskRuns.{RunsAtHome, position_run, times_run}
use Rattle.nim_place.specs.Versions.{latest_of}
use Rattle.nim_template.specs.declared.template.ControllerTemplate.{ControllerTemplate}
use Rattle.nim_template.specs.Built.{built}
use Rattle.nim_template.specs.Fits.{is_fit}
use Rattle.nim_template.specs.Given.{AreTasksAt}
use Rattle.nim_template.specs.Instance.{instance_of}
use Rattle.nim_template.specs.Runs.{RunTasks}
use Rattle.nim_template.specs.Tasks.{task_with}
use Rattle.nim_template.specs.Walk.{home_of}
use Rattle.nim_template.proofs.Given.{tasks_from}
use Rattle.nim_template.proofs.InOrder.{AreInOrder, are_in_order}
use Rattle.nim_template.proofs.InTurn.{AreTasksFrom}
use Rattle.nim_template.proofs.Left.{IsDoneBy, done_by}
use Rattle.nim_template.proofs.Ranked.{runs_of}

-- ---- by rank they are the same commands

put_shuffles : (base : ℕ) (c : Worker × Command) (cs : List (Worker × Command)) → IsPermutation (c ∷ cs) (put_by_rank base c cs)
put_shuffles base c [] = IsPermutation-refl (c ∷ [])
put_shuffles base c (d ∷ ds) = either (is_le (ranks_compared (rank_of base c.1) (rank_of base d.1))) (put_shuffles base c ds) where
  either : (b : Bool) → IsPermutation (c ∷ ds) (put_by_rank base c ds)
      → IsPermutation (c ∷ d ∷ ds) (if b then c ∷ d ∷ ds else d ∷ put_by_rank base c ds)
  either true rest = IsPermutation-refl (c ∷ d ∷ ds)
  either false rest =
      IsPermutation-trans (c ∷ d ∷ ds) (d ∷ c ∷ ds) (d ∷ put_by_rank base c ds) (IsPermutation-middle (c ∷ []) d ds)
      (IsPermutation-cons d (c ∷ ds) (put_by_rank base c ds) rest)

rank_shuffles : (base : ℕ) (cs : List (Worker × Command)) → IsPermutation cs (by_rank base cs)
rank_shuffles base [] = IsPermutation-refl []
rank_shuffles base (c ∷ cs) =
    IsPermutation-trans (c ∷ cs) (c ∷ by_rank base cs) (put_by_rank base c (by_rank base cs))
    (IsPermutation-cons c cs (by_rank base cs) (rank_shuffles base cs)) (put_shuffles base c (by_rank base cs))

-- ---- how often a position is run

abbrev is_at : ℕ → Worker × ℕ → Bool
is_at position run = run.1 == position

one_alone : (b : Bool) (n : ℕ) → cond (b || false) 1 0 + n ≡ cond b 1 0 + n
one_alone true n = refl
one_alone false n = refl

runs_counted : (position : ℕ) (cs : List (Worker × Command)) → times_run position cs ≡ count_by (is_at position) (runs_of cs)
runs_counted position [] = refl
runs_counted position (c ∷ cs) =
    sum_by-cons weight c cs ∙ ap (λ (n : ℕ). weight c + n) (runs_counted position cs) ∙ one c.0 c.1.kind (runs_of cs) where
      weight : Worker × Command → ℕ
      weight d = cond (list_any (λ (p : ℕ). p == position) (position_run d.1.kind)) 1 0

      one : (worker : Worker) (kind : Kind) (rest : List (Worker × ℕ))
          → cond (list_any (λ (p : ℕ). p == position) (position_run kind)) 1 0 + count_by (is_at position) rest
          ≡ count_by (is_at position) (run_by worker kind ++ rest)
      one worker (Run p func params reads writes) rest =
          one_alone (p == position) (count_by (is_at position) rest)
          ∙ sym (sum_by-cons (λ (run : Worker × ℕ). cond (is_at position run) 1 0) (worker, p) rest)
      one worker (Create slot iota number) rest = omega arith
      one worker (Load slot version value) rest = omega arith
      one worker (Send slot peer entry) rest = omega arith
      one worker (Receive slot version) rest = omega arith
      one worker (Copy from to) rest = omega arith
      one worker (Fetch slot ticket) rest = omega arith

-- whether a position is one of so many
abbrev is_within : ℕ → ℕ → ℕ → Bool
is_within base count position = nat_le base position && nat_lt position (base + count)

none_within : (base position : ℕ) → (nat_le base position && nat_lt position (base + 0)) ≡ false
none_within base position = grind (arith, nat_tests)

first_is : (base n position : ℕ) → (base == position) ≡ true → (nat_le base position && nat_lt position (base + (n + 1))) ≡ true
first_is base n position is = grind (arith, nat_tests)

rest_not : (base n position : ℕ) → (base == position) ≡ true → (nat_le (base + 1) position && nat_lt position (base + 1 + n)) ≡ false
rest_not base n position is = grind (arith, nat_tests)

others_same : (base n position : ℕ) → (base == position) ≡ false
    → (nat_le (base + 1) position && nat_lt position (base + 1 + n)) ≡ (nat_le base position && nat_lt position (base + (n + 1)))
others_same base n position is = grind (arith, nat_tests)

none_more : (n : ℕ) → 0 + n ≡ n
none_more n = omega arith

one_more : (base n position : ℕ) (b : Bool) → (base == position) ≡ b
    → cond b 1 0 + (if is_within (base + 1) n position then 1 else 0) ≡ (if is_within base (n + 1) position then 1 else 0)
one_more base n position true is =
    ap (λ (b : Bool). 1 + (if b then 1 else 0)) (rest_not base n position is) ∙ ap (λ (b : Bool). if b then 1 else 0) (sym (first_is base n position is))
one_more base n position false is =
    none_more (if is_within (base + 1) n position then 1 else 0) ∙ ap (λ (b : Bool). if b then 1 else 0) (others_same base n position is)

owned_once : (position base : ℕ) (owners : List Worker)
    → count_by (is_at position) (owned_from base owners) ≡ (if is_within base (length owners) position then 1 else 0)
owned_once position base [] = ap (λ (b : Bool). if b then 1 else 0) (sym (none_within base position))
owned_once position base (owner ∷ owners) =
    let one : length owners + 1 ≡ length (owner ∷ owners) = omega arith in
    sum_by-cons (λ (run : Worker × ℕ). cond (is_at position run) 1 0) (owner, base) (owned_from (base + 1) owners)
    ∙ ap (λ (n : ℕ). cond (base == position) 1 0 + n) (owned_once position (base + 1) owners)
    ∙ one_more base (length owners) position (base == position) refl
    ∙ ap (λ (n : ℕ). if is_within base n position then 1 else 0) one

-- ---- where it is run

-- a job's task at a position is run at its home
abbrev IsAtHome : Job → Placement → List Bool → Worker × ℕ → Type 0
IsAtHome job place live run =
    IfSome (slice_get (tasks_of job) run.1) (λ (task : Task). run.0 ≡ owner_of place task (objects_of job.vars) live)

owned_at_home : (job : Job) (place : Placement) (objects : ℕ) (live : List Bool) (base : ℕ) (args : List ℤ) (number : ℕ) (forms : List TaskForm)
    → objects ≡ objects_of job.vars → AreTasksFrom job base args number forms
    → AllByRecursion (IsAtHome job place live) (owned_from (base + number) (map (home_of place objects live) forms))
owned_at_home job place objects live base args number [] same are = tt
owned_at_home job place objects live base args number (form ∷ forms) same are = (
  subst (λ (o : Option Task). IfSome o (λ (task : Task). home_of place objects live form ≡ owner_of place task (objects_of job.vars) live)) (sym are.0)
      (ap (λ (n : ℕ). owner_of place (task_with args form) n live) same),
  subst (λ (n : ℕ). AllByRecursion (IsAtHome job place live) (owned_from n (map (home_of place objects live) forms))) (omega arith)
      (owned_at_home job place objects live base args (number + 1) forms same are.1),
)

runs_at_home : (job : Job) (place : Placement) (live : List Bool) (cs : List (Worker × Command)) → AllByRecursion (IsAtHome job place live) (runs_of cs)
    → AllByRecursion (λ (one : Worker × Command). RunsAtHome job place live one.0 one.1.kind) cs
runs_at_home job place live [] each = tt
runs_at_home job place live (c ∷ cs) each = (let parts = one c.0 c.1.kind (runs_of cs) each in (parts.0, runs_at_home job place live cs parts.1)) where
  one : (worker : Worker) (kind : Kind) (rest : List (Worker × ℕ)) → AllByRecursion (IsAtHome job place live) (run_by worker kind ++ rest)
      → RunsAtHome job place live worker kind × AllByRecursion (IsAtHome job place live) rest
  one worker (Run p func params reads writes) rest all = all
  one worker (Create slot iota number) rest all = (tt, all)
  one worker (Load slot version value) rest all = (tt, all)
  one worker (Send slot peer entry) rest all = (tt, all)
  one worker (Receive slot version) rest all = (tt, all)
  one worker (Copy from to) rest all = (tt, all)
  one worker (Fetch slot ticket) rest all = (tt, all)

-- ---- the template

-- an instance of it runs each task once, at its home
pub built_runs : (place : Placement) (objects : ℕ) (live : List Bool) (template : ControllerTemplate) → list_any (λ (flag : Bool). flag) live ≡ true
    → length live ≤ 16 → objects ≤ 512 → length template.forms ≤ 1024 → list_all (is_fit objects) template.forms ≡ true
    → RunTasks place live objects (built place objects live template)
built_runs place objects live template some workers_few objects_few few fit base args versions before room now =
    record {
      once = λ position.
          sym (sum_by-IsPermutation
          (λ (one : Worker × Command). cond (list_any (λ (p : ℕ). p == position) (position_run one.1.kind)) 1 0) commands listed shuffled)
          ∙ runs_counted position listed ∙ ap (count_by (is_at position)) are.runs ∙ owned_once position base made.owners
          ∙ ap (λ (n : ℕ). if is_within base n position then 1 else 0) (length-map forms (home_of place objects live));
      homes = λ job tasks same.
          All-permutation (λ (one : Worker × Command). RunsAtHome job place live one.0 one.1.kind) listed commands
          (IsPermutation-sym commands listed shuffled)
          (All-from_recursion (λ (one : Worker × Command). RunsAtHome job place live one.0 one.1.kind) listed
          (runs_at_home job place live listed
          (subst (AllByRecursion (IsAtHome job place live)) (sym are.runs)
          (subst (λ (n : ℕ). AllByRecursion (IsAtHome job place live) (owned_from n made.owners)) (base_is base)
          (owned_at_home job place objects live base args 0 forms same (job_tasks job tasks))))));
    } where
      forms : List TaskForm
      forms = template.forms

      made : WorkerTemplate
      made = built place objects live template

      commands : List (Worker × Command)
      commands = instance_of made base args versions

      listed : List (Worker × Command)
      listed = by_rank base commands

      shuffled : IsPermutation commands listed
      shuffled = rank_shuffles base commands

      is : IsDoneBy place objects live template base args versions
      is = done_by place objects live template base args versions some few fit before room now

      are : AreInOrder place objects live template base args versions (latest_of versions)
      are =
          are_in_order place objects live template base args versions (latest_of versions) workers_few objects_few few fit before.columns room is

      base_is : (n : ℕ) → n + 0 ≡ n
      base_is n = omega arith

      job_tasks : (job : Job) → AreTasksAt job base args made → AreTasksFrom job base args 0 forms
      job_tasks job tasks =
          tasks_from job base args 0 forms (drop (base + 0) (tasks_of job)) refl
          (ap (λ (n : ℕ). take (length forms) (drop n (tasks_of job))) (base_is base) ∙ tasks.tasks)
