-- Lists of orders to workers that get longer: what they ask for, and that they stay legal, covered and paired.
use Rattle.std.specs.Prelude.{◌≡◌, ℕ, Bool, true, false, List, [], ◌∷◌, ◌++◌, length, map, filter, slice_index_or, All}
use Rattle.std.specs.List.{range_with_len}
use Rattle.nim_base.specs.declared.number.Worker.{Worker}
use Rattle.nim_command.specs.declared.command.Command.{Command}
use Rattle.nim_command.specs.Covered.{is_covered}
use Rattle.nim_command.specs.Waits.{commands_of, placed_commands}
use Rattle.nim_message.specs.declared.order.ToWorker.{ToWorker}
use Rattle.nim_message.specs.declared.order.ToWorker.TheVariants.{Single}
use Rattle.nim_message.specs.Orders.{session_of}
use Rattle.nim_order.specs.Orders.{IsOrderByRule}
use Rattle.nim_job.specs.declared.job.Job.{Job}
use Rattle.nim_plan.specs.Legal.{IsLegal}
use Rattle.nim_plan.specs.Paired.{ArePaired, Given, Key, keys_received, keys_sent}
use Rattle.nim_place.specs.Stands.{commands_for}

-- the worker with a number
abbrev pub worker_of : ℕ → Worker
worker_of number = record { 0 = number }

-- whether a worker is live, by the flags of all workers
abbrev pub is_live : List Bool → Worker → Bool
is_live live worker = slice_index_or live worker.0 false

-- All orders so far to each worker, by its number, ask for these commands: the sessions of live workers are of this
-- epoch, each asks for its worker's commands, and no other worker has any.
pub record AskFor (live : List Bool) (current : ℕ) (lists : ℕ → List ToWorker)
    (given : List (Worker × Command)) : Type 0 where
  pub begun : (worker : Worker) → is_live live worker ≡ true → (session_of (lists worker.0)).begun ≡ true
  pub epoch : (worker : Worker) → is_live live worker ≡ true → (session_of (lists worker.0)).epoch ≡ current
  pub asked : (worker : Worker) → is_live live worker ≡ true
      → commands_of (session_of (lists worker.0)).groups ≡ commands_for worker given
  pub none : (worker : Worker) → is_live live worker ≡ false → commands_for worker given ≡ []

-- lists of orders that are longer by these
abbrev pub longer : (ℕ → List ToWorker) → (ℕ → List ToWorker) → ℕ → List ToWorker
longer lists more = λ number. lists number ++ more number

-- each of these commands is a live worker's
abbrev pub AreOfLive : List Bool → List (Worker × Command) → Type 0
AreOfLive live commands = All (λ (c : Worker × Command). is_live live c.0 ≡ true) commands

-- one Single with these commands, and no order where there are none
abbrev pub single_with : ℕ → ℕ → List Command → List ToWorker
single_with epoch instance [] = []
single_with epoch instance (command ∷ commands) = Single epoch instance (command ∷ commands) ∷ []

-- the commands of each worker in one Single
abbrev pub singles_of : ℕ → ℕ → List (Worker × Command) → ℕ → List ToWorker
singles_of epoch instance commands = λ number. single_with epoch instance (commands_for (worker_of number) commands)

-- Each live worker's list that may be given for a job may be given with these orders behind it.
abbrev pub LongerIsLegal : Job → List Bool → (ℕ → List ToWorker) → (ℕ → List ToWorker) → Type 0
LongerIsLegal job live lists more =
    (worker : Worker) → is_live live worker ≡ true → IsLegal job (lists worker.0)
    → IsLegal job (longer lists more worker.0)

-- Orders have the before sets of the rule, so that the commands that they come to are covered.
pub record AreCoveredByRule (orders : List ToWorker) : Type 0 where
  pub by_rule : All IsOrderByRule orders
  pub covered : is_covered (placed_commands (session_of orders).groups) ≡ true

-- Each worker's list that has the before sets of the rule has them with these orders behind it.
abbrev pub LongerIsCovered : (ℕ → List ToWorker) → (ℕ → List ToWorker) → Type 0
LongerIsCovered lists more =
    (worker : Worker) → All IsOrderByRule (lists worker.0) → AreCoveredByRule (longer lists more worker.0)

-- the live workers, in order
abbrev pub live_workers : List Bool → List Worker
live_workers live = filter (is_live live) (map worker_of (range_with_len 0 (length live)))

-- all live workers, each with its list
abbrev pub live_lists : List Bool → (ℕ → List ToWorker) → List Given
live_lists live lists =
    map (λ (worker : Worker). record { worker = worker; orders = lists worker.0 }) (live_workers live)

-- no key of what live workers send and receive passes a test
pub record HaveNone (test : Key → Bool) (live : List Bool) (lists : ℕ → List ToWorker) : Type 0 where
  pub sent : (worker to : Worker) → is_live live worker ≡ true
      → All (λ (key : Key). test key ≡ false) (keys_sent to (lists worker.0))
  pub received : (worker : Worker) → is_live live worker ≡ true
      → All (λ (key : Key). test key ≡ false) (keys_received (lists worker.0))

-- Lists of orders are longer, and each key that is new passes a test.
pub record LongerIsPaired (test : Key → Bool) (live : List Bool) (lists more : ℕ → List ToWorker) : Type 0 where
  -- lists that are paired stay so where no key passes the test yet
  pub paired : ArePaired (live_lists live lists) → HaveNone test live lists
      → ArePaired (live_lists live (longer lists more))
  -- keys that can't be new aren't there where they weren't before
  pub others : (other : Key → Bool) → ((key : Key) → test key ≡ true → other key ≡ false) → HaveNone other live lists
      → HaveNone other live (longer lists more)
