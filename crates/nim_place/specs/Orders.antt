-- The orders that begin an epoch, and Singles of any commands: what they keep true of all orders so far.
use Rattle.std.specs.Prelude.{◌≡◌, ℕ, Bool, true, false, if◌then◌else◌, List, [], ◌∷◌, ◌++◌, slice_index_or, All}
use Rattle.nim_base.specs.declared.number.Shape.{Shape}
use Rattle.nim_base.specs.declared.number.Worker.{Worker}
use Rattle.nim_command.specs.declared.command.Command.{Command}
use Rattle.nim_command.specs.declared.command.Kind.{Kind}
use Rattle.nim_command.specs.declared.command.Kind.TheVariants.{Send, Receive}
use Rattle.nim_message.specs.declared.order.ToWorker.{ToWorker}
use Rattle.nim_message.specs.declared.order.ToWorker.TheVariants.{Reset}
use Rattle.nim_job.specs.declared.job.Job.{Job}
use Rattle.nim_job.specs.Objects.{shapes_of}
use Rattle.nim_plan.specs.Legal.{AreLegal}
use Rattle.nim_plan.specs.Paired.{ArePaired, Key}
use Rattle.nim_place.specs.Extends.{AreOfLive, AskFor, HaveNone, LongerIsCovered, LongerIsLegal, LongerIsPaired, is_live, live_lists, longer, singles_of, worker_of}
use Rattle.nim_place.specs.Stands.{AreByRule, commands_for}

-- a Reset to each live worker
abbrev pub resets_of : List Bool → ℕ → ℕ → List Shape → ℕ → List ToWorker
resets_of live epoch workers shapes =
    λ number. if slice_index_or live number false then Reset epoch (worker_of number) workers shapes ∷ [] else []

-- Resets begin an epoch, whatever the orders before them.
pub record IsEpochBegun (live : List Bool) (current workers : ℕ) (shapes : List Shape)
    (lists : ℕ → List ToWorker) : Type 0 where
  -- nothing is asked for
  pub asked : AskFor live current (longer lists (resets_of live current workers shapes)) []
  -- they are legal for each job that has these shapes
  pub legal : (job : Job) → shapes ≡ shapes_of job.vars
      → LongerIsLegal job live lists (resets_of live current workers shapes)
  pub covered : LongerIsCovered lists (resets_of live current workers shapes)
  -- no key is there, so the lists are paired
  pub none : (test : Key → Bool) → HaveNone test live (longer lists (resets_of live current workers shapes))
  pub paired : ArePaired (live_lists live (longer lists (resets_of live current workers shapes)))

-- whether a command has no key
abbrev pub has_no_key : Kind → Bool
has_no_key (Send slot peer entry) = false
has_no_key (Receive slot version) = false
has_no_key _ = true

-- Singles of live workers' commands extend orders so far that ask for others.
pub record AreExtended (live : List Bool) (current instance : ℕ) (lists : ℕ → List ToWorker)
    (given commands : List (Worker × Command)) : Type 0 where
  -- they ask for these commands too
  pub asked : AskFor live current (longer lists (singles_of current instance commands)) (given ++ commands)
  -- they are legal where the commands are, behind the others
  pub legal : (job : Job)
      → ((worker : Worker) → is_live live worker ≡ true
      → AreLegal job (commands_for worker given) (commands_for worker commands))
      → LongerIsLegal job live lists (singles_of current instance commands)
  -- they are covered where the commands have the before sets of the rule
  pub covered : AreByRule commands → LongerIsCovered lists (singles_of current instance commands)
  -- where nothing is sent or received no key is new
  pub paired : All (λ (c : Worker × Command). has_no_key c.1.kind ≡ true) commands
      → LongerIsPaired (λ (key : Key). false) live lists (singles_of current instance commands)

-- So Resets begin an epoch.
abbrev pub ResetsBegin : Type 0
ResetsBegin =
    (live : List Bool) (epoch workers : ℕ) (shapes : List Shape) (lists : ℕ → List ToWorker)
    → IsEpochBegun live epoch workers shapes lists

-- So Singles extend lists of orders.
abbrev pub SinglesExtend : Type 0
SinglesExtend =
    (live : List Bool) (epoch instance : ℕ) (lists : ℕ → List ToWorker) (given commands : List (Worker × Command))
    → AskFor live epoch lists given → AreOfLive live commands → AreExtended live epoch instance lists given commands
