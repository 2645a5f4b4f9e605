-- What a task's run finds in the slots that it reads.
use Rattle.std.specs.Prelude.{◌≡◌, ℕ, ◌<◌, true, List, [], ◌++◌, length, Some}
use Rattle.std.specs.Option.{is_some}
use Rattle.nim_base.specs.declared.number.Object.{Object}
use Rattle.nim_base.specs.declared.number.Worker.{Worker}
use Rattle.nim_base.specs.declared.task.Task.{Task}
use Rattle.nim_command.specs.declared.command.Command.{Command}
use Rattle.nim_command.specs.Holds.{holds}
use Rattle.nim_command.specs.Numbers.{main_slot}
use Rattle.nim_command.specs.Slots.{object_of}
use Rattle.nim_place.specs.Schedule.{copies_of, is_one_of, moves}
use Rattle.nim_place.specs.Stands.{MapStands, commands_for}
use Rattle.nim_place.specs.Versions.{Versions, holder, latest_of}

-- After a task's copies, the owner's main slot of each object that the task reads, and that some worker holds, holds
-- the version that was the latest before them, whatever commands the map stood for.
abbrev pub FindsLatest : Versions → Worker → Task → ℕ → Type 0
FindsLatest versions owner task number =
    (given : List (Worker × Command)) → MapStands given versions → (object : Object)
    → is_one_of task.reads object ≡ true
    → object.0 < versions.objects
    → is_some (holder versions object) ≡ true
    → let commands : List Command =
    commands_for owner (given ++ copies_of versions number owner (moves versions owner [] task.reads)) in
    holds commands (length commands) (main_slot object) ≡ Some (object_of (main_slot object), latest_of versions object)
