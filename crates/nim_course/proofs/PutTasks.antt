-- How many tasks the orders of a worker stand for: each Single adds the runs of its commands.
use Rattle.std.proofs.Common.{◌≡◌, ℕ, ◌+◌, ◌<◌, ◌≤◌, zero, suc, Bool, true, false, cond, List, [], ◌∷◌, ◌++◌, map, refl, ap, ap₂, sym, subst, ◌∙◌, arith}
use Rattle.std.specs.Prelude.{◌==◌, if◌then◌else◌, nat_lt}
use Rattle.std.specs.List.{AllByRecursion, filter, flat_map, range_with_len, sum_by}
use Rattle.std.proofs.lemmas.Bool.{cond-false, cond-true, le-ltb, lt-ltb}
use Rattle.std.proofs.lemmas.List.{append-nil, append_assoc}
use Rattle.std.proofs.lemmas.List.Concat.{flat_map-append}
use Rattle.std.proofs.lemmas.List.Sums.{sum_by-append, sum_by-cons}
use Rattle.nim_base.specs.declared.number.Worker.{Worker}
use Rattle.nim_command.specs.declared.command.Command.{Command}
use Rattle.nim_command.specs.Waits.{Group, commands_of, single_group}
use Rattle.nim_message.specs.declared.order.ToWorker.{ToWorker}
use Rattle.nim_message.specs.declared.order.ToWorker.TheVariants.{Single, InstallTemplate, Instantiate, InstallPatch, RunPatch, Reset, Stop}
use Rattle.nim_message.specs.Orders.{Session, session_of}
use Rattle.nim_place.specs.Directed.{Directed, directed, for_worker, orders_to}
use Rattle.nim_place.specs.Extends.{worker_of}
use Rattle.nim_reuse.specs.Decisions.{Decisions}
use Rattle.nim_course.specs.Summaries.{is_run, runs_among, tasks_for}
use Rattle.nim_base.proofs.Lists.{each_append}
use Rattle.nim_place.proofs.Directed.{to_append, to_directed}
use Rattle.nim_place.proofs.Singles.{single_counts}

-- the tasks that orders stand for
abbrev pub runs_of : List ToWorker → ℕ
runs_of orders = runs_among (commands_of (session_of orders).groups)

-- the session of orders is of an epoch, and they stand for so many tasks
pub record ComeToTasks (current : ℕ) (orders : List ToWorker) (tasks : ℕ) : Type 0 where
  pub begun : (session_of orders).begun ≡ true
  pub epoch : (session_of orders).epoch ≡ current
  pub runs : runs_of orders ≡ tasks

-- ---- Singles

-- one more group
pub runs_more : (groups : List Group) (group : Group)
    → runs_among (commands_of (groups ++ group ∷ [])) ≡ runs_among (commands_of groups) + runs_among group.commands
runs_more groups group =
    ap runs_among (flat_map-append (λ (g : Group). g.commands) groups (group ∷ [])
    ∙ ap (λ (rest : List Command). commands_of groups ++ rest) (append-nil group.commands))
    ∙ sum_by-append (λ (command : Command). cond (is_run command.kind) 1 0) (commands_of groups) group.commands

-- an order is a Single of an epoch
abbrev pub IsSingleOf : ℕ → ToWorker → Type 0
IsSingleOf current (Single epoch instance commands) = epoch ≡ current
IsSingleOf current _ = ⊥

-- one Single adds the runs of its commands
single_adds : (decisions : Decisions) (worker : Worker) (epoch : ℕ) (orders : List ToWorker) (tasks : ℕ) (order : ToWorker) → ComeToTasks epoch orders tasks
    → IsSingleOf epoch order → ComeToTasks epoch (orders ++ order ∷ []) (tasks + tasks_for decisions worker order)
single_adds decisions worker epoch orders tasks (Single current instance commands) at is =
    let same = single_counts current instance orders commands at.begun (at.epoch ∙ sym is) in
    record {
      begun = ap (λ (s : Session). s.begun) same ∙ at.begun;
      epoch = ap (λ (s : Session). s.epoch) same ∙ at.epoch;
      runs =
          ap (λ (s : Session). runs_among (commands_of s.groups)) same ∙ runs_more (session_of orders).groups (single_group current instance commands)
          ∙ ap (λ (n : ℕ). n + runs_among commands) at.runs;
    }
single_adds decisions worker epoch orders tasks (InstallTemplate current block entries) at is = absurd is
single_adds decisions worker epoch orders tasks (Instantiate current instance block base args versions edits) at is = absurd is
single_adds decisions worker epoch orders tasks (InstallPatch current patch copies) at is = absurd is
single_adds decisions worker epoch orders tasks (RunPatch current instance patch versions) at is = absurd is
single_adds decisions worker epoch orders tasks (Reset current number workers shapes) at is = absurd is
single_adds decisions worker epoch orders tasks Stop at is = absurd is

-- and so do many
pub singles_add : (decisions : Decisions) (worker : Worker) (epoch : ℕ) (orders : List ToWorker) (tasks : ℕ) (more : List ToWorker)
    → ComeToTasks epoch orders tasks → AllByRecursion (IsSingleOf epoch) more
    → ComeToTasks epoch (orders ++ more) (tasks + sum_by (tasks_for decisions worker) more)
singles_add decisions worker epoch orders tasks [] at are =
    let same : tasks ≡ tasks + 0 = omega arith in
    subst (λ (os : List ToWorker). ComeToTasks epoch os (tasks + 0)) (sym (append-nil orders)) (subst (ComeToTasks epoch orders) same at)
singles_add decisions worker epoch orders tasks (order ∷ more) at are =
    let own : ℕ = tasks_for decisions worker order in
    let total : List ToWorker → ℕ = sum_by (tasks_for decisions worker) in
    let all : (tasks + own) + total more ≡ tasks + total (order ∷ more) = omega (arith, sum_by-cons (tasks_for decisions worker) order more) in
    subst (ComeToTasks epoch (orders ++ order ∷ more)) all
    (subst (λ (os : List ToWorker). ComeToTasks epoch os ((tasks + own) + total more)) (append_assoc orders (order ∷ []) more)
    (singles_add decisions worker epoch (orders ++ order ∷ []) (tasks + own) more (single_adds decisions worker epoch orders tasks order at are.0) are.1))

-- ---- the orders of one worker

-- what is true of all orders is true of a worker's
pub to_all : (P : ToWorker → Type 0) (number : ℕ) (ds : List Directed) → AllByRecursion (λ (d : Directed). P d.1) ds → AllByRecursion P (orders_to number ds)
to_all P number [] all = tt
to_all P number (d ∷ ds) all = either (d.0.0 == number) all.0 (to_all P number ds all.1) where
  either : (b : Bool) → P d.1 → AllByRecursion P (orders_to number ds)
      → AllByRecursion P (map (λ (e : Directed). e.1) (if b then d ∷ filter (λ (e : Directed). e.0.0 == number) ds
      else filter (λ (e : Directed). e.0.0 == number) ds))
  either true own rest = (own, rest)
  either false own rest = rest

-- what is true of each worker's list is true of all orders
each_for : (P : ToWorker → Type 0) (worker : Worker) (orders : List ToWorker) → AllByRecursion P orders
    → AllByRecursion (λ (d : Directed). P d.1) (map (λ (order : ToWorker). (worker, order)) orders)
each_for P worker [] all = tt
each_for P worker (order ∷ orders) all = (all.0, each_for P worker orders all.1)

-- so for each worker of so many
each_among : (P : ToWorker → Type 0) (lists : ℕ → List ToWorker) (first count : ℕ) → ((number : ℕ) → AllByRecursion P (lists number))
    → AllByRecursion (λ (d : Directed). P d.1) (flat_map (for_worker lists) (range_with_len first count))
each_among P lists first zero all = tt
each_among P lists first (suc count) all =
    each_append (λ (d : Directed). P d.1) (for_worker lists first) (flat_map (for_worker lists) (range_with_len (first + 1) count))
    (each_for P (worker_of first) (lists first) (all first)) (each_among P lists (first + 1) count all)

-- and so for all
pub directed_all : (P : ToWorker → Type 0) (workers : ℕ) (lists : ℕ → List ToWorker) → ((number : ℕ) → AllByRecursion P (lists number))
    → AllByRecursion (λ (d : Directed). P d.1) (directed workers lists)
directed_all P workers lists all = each_among P lists 0 workers all

-- lists of so many workers, and of no more
abbrev pub cut : ℕ → (ℕ → List ToWorker) → ℕ → List ToWorker
cut workers lists = λ number. if nat_lt number workers then lists number else []

-- those of the workers stay
cut_same : (workers : ℕ) (lists : ℕ → List ToWorker) (first count : ℕ) → first + count ≤ workers
    → flat_map (for_worker (cut workers lists)) (range_with_len first count) ≡ flat_map (for_worker lists) (range_with_len first count)
cut_same workers lists first zero within = refl
cut_same workers lists first (suc count) within =
    ap₂ (λ (own : List ToWorker) (rest : List Directed). map (λ (order : ToWorker). (worker_of first, order)) own ++ rest)
    (cond-true (nat_lt first workers) (lists first) [] (lt-ltb first workers (omega (arith, within))))
    (cut_same workers lists (first + 1) count (omega (arith, within)))

-- each worker has its own list
pub to_own : (workers : ℕ) (lists : ℕ → List ToWorker) (number : ℕ) → number < workers → orders_to number (directed workers lists) ≡ lists number
to_own workers lists number below =
    ap (orders_to number) (sym (cut_same workers lists 0 workers (omega arith)))
    ∙ to_directed workers (cut workers lists)
    (λ other past. cond-false (nat_lt other workers) (lists other) [] (le-ltb other workers past)) number
    ∙ cond-true (nat_lt number workers) (lists number) [] (lt-ltb number workers below)

-- Singles behind orders so far
pub more_singles : (decisions : Decisions) (worker : Worker) (epoch : ℕ) (given more : List Directed) (tasks : ℕ)
    → ComeToTasks epoch (orders_to worker.0 given) tasks → AllByRecursion (λ (d : Directed). IsSingleOf epoch d.1) more
    → ComeToTasks epoch (orders_to worker.0 (given ++ more)) (tasks + sum_by (tasks_for decisions worker) (orders_to worker.0 more))
more_singles decisions worker epoch given more tasks at are =
    subst (λ (os : List ToWorker). ComeToTasks epoch os (tasks + sum_by (tasks_for decisions worker) (orders_to worker.0 more)))
    (sym (to_append worker.0 given more))
    (singles_add decisions worker epoch (orders_to worker.0 given) tasks (orders_to worker.0 more) at (to_all (IsSingleOf epoch) worker.0 more are))
