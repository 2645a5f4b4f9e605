-- Orders, each with the worker that it is for.
use Rattle.std.specs.Prelude.{ℕ, ◌==◌, List, map}
use Rattle.std.specs.List.{filter, flat_map, range_with_len}
use Rattle.nim_base.specs.declared.number.Worker.{Worker}
use Rattle.nim_message.specs.declared.order.ToWorker.{ToWorker}
use Rattle.nim_place.specs.Extends.{worker_of}

-- an order, and the worker that it is for
abbrev pub Directed : Type 0
Directed = Worker × ToWorker

-- the orders for a worker, in order
abbrev pub orders_to : ℕ → List Directed → List ToWorker
orders_to number given = map (λ (d : Directed). d.1) (filter (λ (d : Directed). d.0.0 == number) given)

-- the orders for each worker, by its number
abbrev pub by_number : List Directed → ℕ → List ToWorker
by_number given = λ number. orders_to number given

-- the list of one worker
abbrev pub for_worker : (ℕ → List ToWorker) → ℕ → List Directed
for_worker lists number = map (λ (order : ToWorker). (worker_of number, order)) (lists number)

-- lists of orders of so many workers, one worker after another
abbrev pub directed : ℕ → (ℕ → List ToWorker) → List Directed
directed workers lists = flat_map (for_worker lists) (range_with_len 0 workers)
