-- Which version of each object a worker's main slot holds, and the latest version of each.
use Rattle.std.specs.Prelude.{ℕ, zero, suc, ◌+◌, ◌*◌, ◌==◌, nat_lt, max, Bool, false}
use Rattle.std.specs.Prelude.{◌&&◌, if◌then◌else◌, List, [], replicate, slice_index_or, slice_set, Option, None, Some}
use Rattle.std.specs.List.{fold}
use Rattle.std.specs.Option.{option_map_or}
use Rattle.nim_base.specs.declared.number.Object.{Object}
use Rattle.nim_base.specs.declared.number.Slot.{Slot}
use Rattle.nim_base.specs.declared.number.Worker.{Worker}
use Rattle.nim_command.specs.declared.command.Command.{Command}
use Rattle.nim_command.specs.declared.command.Kind.{Kind}
use Rattle.nim_command.specs.declared.command.Kind.TheVariants.{Load, Receive, Copy, Run}
use Rattle.nim_command.specs.Holds.{version_after}
use Rattle.nim_command.specs.Numbers.{counted_from, main_slot}
use Rattle.nim_command.specs.Slots.{writes_of}

-- The numbers of workers and of objects; what main slots hold, worker by worker and there object by object; and the
-- latest version of each object.
pub record Versions : Type 0 where
  pub workers : ℕ
  pub objects : ℕ
  pub held : List (Option ℕ)
  pub latest : List ℕ

-- no slot holds anything
abbrev pub no_versions : ℕ → ℕ → Versions
no_versions workers objects =
    record {
      workers = workers;
      objects = objects;
      held = replicate (objects * workers) None;
      latest =
          replicate objects 0;
    }

-- whether the map has this worker and this slot, as the main slot of an object
abbrev pub is_kept : Versions → Worker → Slot → Bool
is_kept versions worker slot = nat_lt worker.0 versions.workers && nat_lt slot.0 versions.objects

-- where the map has a worker's main slot
abbrev pub place_of : Versions → Worker → Slot → ℕ
place_of versions worker slot = worker.0 * versions.objects + slot.0

-- what a worker's main slot holds
abbrev pub held_at : Versions → Worker → Slot → Option ℕ
held_at versions worker slot =
    if is_kept versions worker slot then slice_index_or versions.held (place_of versions worker slot) None else None

-- the latest version of an object
abbrev pub latest_of : Versions → Object → ℕ
latest_of versions object = slice_index_or versions.latest object.0 0

-- whether a worker's main slot of an object holds its latest version
abbrev pub is_current : Versions → Object → Worker → Bool
is_current versions object worker =
    option_map_or (λ (version : ℕ). version == latest_of versions object) (held_at versions worker (main_slot object))
    false

-- the lowest of so many workers from one on whose main slot holds the latest version
abbrev pub holder_from : Versions → Object → ℕ → ℕ → Option Worker
holder_from versions object from zero = None
holder_from versions object from (suc more) =
    let worker : Worker = record { 0 = from } in
    if is_current versions object worker then Some worker else holder_from versions object (from + 1) more

-- the lowest worker whose main slot holds the latest version of an object
abbrev pub holder : Versions → Object → Option Worker
holder versions object = holder_from versions object 0 versions.workers

-- a version was put into a main slot; other slots aren't in the map
abbrev pub with_version : Worker → ℕ → Versions → Slot → Versions
with_version worker version versions slot =
    if is_kept versions worker slot
    then record versions {
      held = slice_set versions.held (place_of versions worker slot) (Some version);
      latest = slice_set versions.latest slot.0 (max (slice_index_or versions.latest slot.0 0) version);
    }
    else versions

-- The slots into which a command puts a version. A Copy puts one into a scratch slot, which isn't in the map.
abbrev pub puts_of : Kind → List Slot
puts_of (Copy from to) = []
puts_of kind = writes_of kind

-- the version that it puts there
abbrev pub version_of : Kind → ℕ
version_of (Load slot version value) = version
version_of (Receive slot version) = version
version_of (Run position func params reads writes) = version_after position
version_of _ = 0

-- what a worker's command leaves
abbrev pub after_kind : Worker → Versions → Kind → Versions
after_kind worker versions kind = fold (with_version worker (version_of kind)) versions (puts_of kind)

-- what commands leave, one after another
abbrev pub after_commands : Versions → List (Worker × Command) → Versions
after_commands versions commands =
    fold (λ (before : Versions) (c : Worker × Command). after_kind c.0 before c.1.kind) versions commands

-- what an effect says of a main slot that has what its block began with: the version that is the latest then
abbrev pub with_kept : Versions → Worker × Slot × ℕ → Versions
with_kept versions item =
    if item.2 == 0 then with_version item.0 (slice_index_or versions.latest item.1.0 0) versions item.1 else versions

-- what an effect says of a main slot that has what a task of its block writes
abbrev pub with_written : ℕ → Versions → Worker × Slot × ℕ → Versions
with_written base versions item =
    if item.2 == 0 then versions else with_version item.0 (counted_from base item.2) versions item.1

-- What an effect leaves, its block's task 0 at this position: first what the block began with, then what its tasks
-- write.
abbrev pub after_effect : ℕ → Versions → List (Worker × Slot × ℕ) → Versions
after_effect base versions effect = fold (with_written base) (fold with_kept versions effect) effect
