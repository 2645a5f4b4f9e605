-- When a map of versions stands for the commands that were given so far.
use Rattle.std.specs.Prelude.{◌≡◌, ℕ, ◌*◌, ◌<◌, ◌==◌, nat_lt, max, Bool, true, not, if◌then◌else◌, List, ◌++◌, length, map}
use Rattle.std.specs.List.{filter, fold}
use Rattle.std.specs.Option.{option_map}
use Rattle.nim_base.specs.declared.number.Object.{Object}
use Rattle.nim_base.specs.declared.number.Slot.{Slot}
use Rattle.nim_base.specs.declared.number.Worker.{Worker}
use Rattle.nim_command.specs.declared.command.Command.{Command}
use Rattle.nim_command.specs.declared.command.Kind.{Kind}
use Rattle.nim_command.specs.declared.command.Kind.TheVariants.{Copy}
use Rattle.nim_command.specs.Before.{IsByRule}
use Rattle.nim_command.specs.Holds.{holds}
use Rattle.nim_command.specs.Numbers.{main_slot}
use Rattle.nim_command.specs.Slots.{is_among, object_of}
use Rattle.nim_place.specs.Versions.{Versions, held_at, is_kept, latest_of, puts_of, version_of}

-- the commands of one worker, in order
abbrev pub commands_for : Worker → List (Worker × Command) → List Command
commands_for worker given =
    map (λ (c : Worker × Command). c.1) (filter (λ (c : Worker × Command). c.0.0 == worker.0) given)

-- the greater of a version and the one that a command puts into a slot, if it puts one there
abbrev pub greater_put : Slot → ℕ → Worker × Command → ℕ
greater_put slot version c = if is_among (puts_of c.1.kind) slot then max version (version_of c.1.kind) else version

-- the greatest version that one of the commands puts into a worker's slot, 0 before any
abbrev pub greatest_put : Slot → List (Worker × Command) → ℕ
greatest_put slot given = fold (greater_put slot) 0 given

-- Each main slot holds what its worker's commands leave there when they run in order, and the latest version of each
-- object is the greatest that one of them puts into a main slot of it.
pub record MapStands (given : List (Worker × Command)) (versions : Versions) : Type 0 where
  pub slots : length versions.held ≡ versions.objects * versions.workers
  pub all : length versions.latest ≡ versions.objects
  pub held : (worker : Worker) (slot : Slot) → is_kept versions worker slot ≡ true
      → holds (commands_for worker given) (length (commands_for worker given)) slot
      ≡ option_map (λ (version : ℕ). (object_of slot, version)) (held_at versions worker slot)
  pub latest : (object : Object) → object.0 < versions.objects
      → latest_of versions object ≡ greatest_put (main_slot object) given

-- a Copy goes to no main slot
abbrev pub is_aside : Versions → Kind → Bool
is_aside versions (Copy from to) = not (nat_lt to.0 versions.objects)
is_aside versions _ = true

-- what stood for some commands stands for these too then
abbrev pub StandsOn : Versions → Versions → List (Worker × Command) → Type 0
StandsOn before after more = (given : List (Worker × Command)) → MapStands given before
    → MapStands (given ++ more) after

-- each worker's commands have the before sets of the rule
abbrev pub AreByRule : List (Worker × Command) → Type 0
AreByRule given = (worker : Worker) → IsByRule (commands_for worker given)
