-- What is true of each order of a move that gives Singles, where it is true of each Single.
use Rattle.std.proofs.Common.{ℕ, ◌+◌, Bool, true, false, cond, List, [], ◌∷◌, length, map}
use Rattle.std.specs.Prelude.{◌==◌}
use Rattle.std.specs.List.{AllByRecursion, filter, flat_map, range_with_len}
use Rattle.nim_base.specs.declared.number.Worker.{Worker}
use Rattle.nim_base.specs.declared.task.Task.{Task}
use Rattle.nim_command.specs.declared.command.Command.{Command}
use Rattle.nim_message.specs.declared.order.ToWorker.{ToWorker}
use Rattle.nim_message.specs.declared.order.ToWorker.TheVariants.{Single}
use Rattle.nim_job.specs.declared.ask.Ask.{Ask}
use Rattle.nim_place.specs.Directed.{Directed, directed, orders_to}
use Rattle.nim_place.specs.Extends.{single_with, singles_of, worker_of}
use Rattle.nim_place.specs.Stands.{commands_for}
use Rattle.nim_place.specs.Versions.{Versions, after_commands}
use Rattle.nim_course.specs.Controller.{Controller}
use Rattle.nim_course.specs.Moves.{objects_in, orders_asked}
use Rattle.nim_course.specs.OrdersGiven.{fetch_commands, instance_orders, single_for, task_commands}
use Rattle.nim_base.proofs.Lists.{each_append}

-- it is true of each order
abbrev pub Each : (ToWorker → Type 0) → List Directed → Type 0
Each Q orders = AllByRecursion (λ (d : Directed). Q d.1) orders

-- it is true of each Single
abbrev pub OfSingles : (ToWorker → Type 0) → Type 0
OfSingles Q = (epoch instance : ℕ) (commands : List Command) → Q (Single epoch instance commands)

-- those for one worker
pub each_to : (Q : ToWorker → Type 0) (number : ℕ) (orders : List Directed) → Each Q orders → AllByRecursion Q (orders_to number orders)
each_to Q number [] each = tt
each_to Q number (d ∷ orders) each = either (d.0.0 == number) (each_to Q number orders each.1) where
  either : (b : Bool) → AllByRecursion Q (orders_to number orders)
      → AllByRecursion Q
      (map (λ (e : Directed). e.1)
      (cond b (d ∷ filter (λ (e : Directed). e.0.0 == number) orders) (filter (λ (e : Directed). e.0.0 == number) orders)))
  either true rest = (each.0, rest)
  either false rest = rest

pub singles_each : (Q : ToWorker → Type 0) → OfSingles Q → (epoch : ℕ) (commands : List (Worker × Command)) → Each Q (map (single_for epoch) commands)
singles_each Q single epoch [] = tt
singles_each Q single epoch (c ∷ commands) = (single epoch _ (c.1 ∷ []), singles_each Q single epoch commands)

one_each : (Q : ToWorker → Type 0) → OfSingles Q → (worker epoch instance : ℕ) (commands : List Command)
    → Each Q (map (λ (order : ToWorker). (worker_of worker, order)) (single_with epoch instance commands))
one_each Q single worker epoch instance [] = tt
one_each Q single worker epoch instance (c ∷ commands) = (single epoch instance (c ∷ commands), tt)

directed_each : (Q : ToWorker → Type 0) → OfSingles Q → (epoch instance : ℕ) (commands : List (Worker × Command)) (numbers : List ℕ)
    → Each Q (flat_map (λ (number : ℕ). map (λ (order : ToWorker). (worker_of number, order)) (singles_of epoch instance commands number)) numbers)
directed_each Q single epoch instance commands [] = tt
directed_each Q single epoch instance commands (number ∷ numbers) =
    each_append (λ (d : Directed). Q d.1) (map (λ (order : ToWorker). (worker_of number, order)) (singles_of epoch instance commands number))
    (flat_map (λ (n : ℕ). map (λ (order : ToWorker). (worker_of n, order)) (singles_of epoch instance commands n)) numbers)
    (one_each Q single number epoch instance (commands_for (worker_of number) commands)) (directed_each Q single epoch instance commands numbers)

pub instance_each : (Q : ToWorker → Type 0) → OfSingles Q → (c : Controller) (number : ℕ) (versions : Versions) (tasks : List Task)
    → Each Q (instance_orders c number versions tasks)
instance_each Q single c number versions [] = tt
instance_each Q single c number versions (task ∷ tasks) =
    let commands : List (Worker × Command) = task_commands c number versions task in
    each_append (λ (d : Directed). Q d.1) (directed (length c.live) (singles_of c.epoch c.instance commands))
    (instance_orders c (number + 1) (after_commands versions commands) tasks)
    (directed_each Q single c.epoch c.instance commands (range_with_len 0 (length c.live)))
    (instance_each Q single c (number + 1) (after_commands versions commands) tasks)

pub asked_each : (Q : ToWorker → Type 0) → OfSingles Q → (c : Controller) (ask : Ask) → Each Q (orders_asked c ask)
asked_each Q single c (Ask.Get object row cell) = singles_each Q single c.epoch (fetch_commands c.versions c.ticket (object ∷ []))
asked_each Q single c (Ask.Output var) = singles_each Q single c.epoch (fetch_commands c.versions c.ticket (objects_in c var))
asked_each Q single c ask = tt
