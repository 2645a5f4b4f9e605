-- Behind a block, what it needs at entry holds again, so it may follow itself.
use Rattle.std.specs.Prelude.{◌≡◌, ℕ, ◌*◌, ◌^◌, ◌<◌, ◌≤◌, Bool, true, List, length, Some}
use Rattle.std.specs.List.{list_all}
use Rattle.nim_base.specs.declared.number.Object.{Object}
use Rattle.nim_base.specs.declared.number.Worker.{Worker}
use Rattle.nim_command.specs.declared.template.WorkerTemplate.{WorkerTemplate}
use Rattle.nim_command.specs.Numbers.{main_slot}
use Rattle.nim_place.specs.Versions.{Versions, after_effect, held_at, is_current, latest_of}

-- a map of so many workers and objects before the task at a position: no version is one of this task's or a later one's
pub record IsBefore (workers objects base : ℕ) (versions : Versions) : Type 0 where
  pub rows : versions.workers ≡ workers
  pub columns : versions.objects ≡ objects
  pub slots : length versions.held ≡ versions.objects * versions.workers
  pub all : length versions.latest ≡ versions.objects
  pub latest : (object : Object) → object.0 < objects → latest_of versions object ≤ base
  pub held : (worker : Worker) (object : Object) (version : ℕ)
      → held_at versions worker (main_slot object) ≡ Some version → version ≤ base
  pub room : base < 2 ^ 64

-- whether each of these main slots has the latest version of its object
abbrev pub are_current : Versions → List (Worker × Object) → Bool
are_current versions needs = list_all (λ (need : Worker × Object). is_current versions need.1 need.0) needs

-- where the preconditions hold before an instance, they hold behind its effect
abbrev pub HoldAgain : ℕ → ℕ → WorkerTemplate → Type 0
HoldAgain workers objects template =
    (base : ℕ) (versions : Versions) → IsBefore workers objects base versions
    → are_current versions template.preconditions ≡ true
    → are_current (after_effect base versions template.effect) template.preconditions ≡ true
