-- A map of versions stays before the position that its commands reach.
use Rattle.std.specs.Prelude.{◌≡◌, ℕ, ◌+◌, ◌^◌, ◌<◌, ◌≤◌, Bool, true, List, length, All}
use Rattle.std.specs.List.{list_any}
use Rattle.nim_base.specs.declared.number.Worker.{Worker}
use Rattle.nim_base.specs.declared.task.Task.{Task}
use Rattle.nim_command.specs.declared.command.Command.{Command}
use Rattle.nim_place.specs.declared.placement.Placement.{Placement}
use Rattle.nim_place.specs.Schedule.{scheduled}
use Rattle.nim_place.specs.Versions.{Versions, after_commands, no_versions, version_of}
use Rattle.nim_template.specs.Again.{IsBefore}

-- Maps of versions stay before the positions that their commands reach.
pub record MapsStayBefore : Type 0 where
  -- a new map is before each position
  pub new : (workers objects base : ℕ) → base < 2 ^ 64 → IsBefore workers objects base (no_versions workers objects)
  -- it is before a position that no command of its workers puts a version past
  pub commands : (workers objects base next : ℕ) (versions : Versions) (commands : List (Worker × Command))
      → IsBefore workers objects base versions → base ≤ next → next < 2 ^ 64
      → All (λ (c : Worker × Command). (c.0.0 < workers) × (version_of c.1.kind ≤ next)) commands
      → IsBefore workers objects next (after_commands versions commands)
  -- so behind a task it is before the next position
  pub task : (workers objects position number : ℕ) (versions : Versions) (task : Task) (place : Placement)
      (live : List Bool)
      → IsBefore workers objects position versions → length live ≡ workers
      → list_any (λ (flag : Bool). flag) live ≡ true → position + 1 < 2 ^ 64
      → IsBefore workers objects (position + 1)
      (after_commands versions (scheduled versions task number position place live))
