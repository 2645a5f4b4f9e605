-- The commands that one task needs: what has to move to its owner, and its run.
use Rattle.std.specs.Prelude.{ℕ, ◌==◌, Bool, ◌||◌, if◌then◌else◌, List, [], ◌∷◌, ◌++◌, length, map, Option, None, Some, slice_get}
use Rattle.std.specs.List.{flat_map, list_any}
use Rattle.std.specs.Option.{option_map_or}
use Rattle.nim_base.specs.declared.number.Object.{Object}
use Rattle.nim_base.specs.declared.number.Worker.{Worker}
use Rattle.nim_base.specs.declared.task.Task.{Task}
use Rattle.nim_command.specs.declared.command.Command.{Command}
use Rattle.nim_command.specs.declared.command.Kind.{Kind}
use Rattle.nim_command.specs.Numbers.{entry_number, main_slot}
use Rattle.nim_place.specs.declared.placement.Placement.{Placement}
use Rattle.nim_place.specs.declared.schedule.Moved.{Moved}
use Rattle.nim_place.specs.Placement.{home}
use Rattle.nim_place.specs.Versions.{Versions, holder, is_current, latest_of}

-- the home of the first object that a task writes
abbrev pub owner_of : Placement → Task → ℕ → List Bool → Worker
owner_of place task objects live =
    option_map_or (λ (object : Object). home place object objects live) (slice_get task.writes 0) (record { 0 = 0 })

-- whether an object is one of these
abbrev pub is_one_of : List Object → Object → Bool
is_one_of objects object = list_any (λ (o : Object). o.0 == object.0) objects

-- Who sends an object that is read, behind other reads: the lowest worker that holds its latest version, unless the
-- owner holds it too, or the object was read before.
abbrev pub source_of : Versions → Worker → List Object → Object → Option Worker
source_of versions owner past object =
    if is_one_of past object || is_current versions object owner then None else holder versions object

-- an object's move before others, if it comes from anywhere, by the index of its read
abbrev pub moved_first : ℕ → Object → Option Worker → List Moved → List Moved
moved_first index object None rest = rest
moved_first index object (Some from) rest = record { index = index; object = object; from = from } ∷ rest

-- what has to move to the owner for reads behind others, in their order
abbrev pub moves : Versions → Worker → List Object → List Object → List Moved
moves versions owner past [] = []
moves versions owner past (object ∷ reads) =
    moved_first (length past) object (source_of versions owner past object)
    (moves versions owner (past ++ object ∷ []) reads)

-- it is sent by the worker that holds it
abbrev pub send_of : ℕ → Worker → Moved → Worker × Command
send_of number owner moved = (
  moved.from,
  record {
    id = entry_number number 0 moved.index;
    kind =
        Kind.Send (main_slot moved.object) owner (entry_number number 1 moved.index);
    before = [];
  },
)

-- and received by the owner
abbrev pub receive_of : Versions → ℕ → Worker → Moved → Worker × Command
receive_of versions number owner moved = (
  owner,
  record {
    id = entry_number number 1 moved.index;
    kind =
        Kind.Receive (main_slot moved.object) (latest_of versions moved.object);
    before = [];
  },
)

-- what moves for a task: each Send, and its Receive right behind it
abbrev pub copies_of : Versions → ℕ → Worker → List Moved → List (Worker × Command)
copies_of versions number owner moved =
    flat_map (λ (m : Moved). send_of number owner m ∷ receive_of versions number owner m ∷ []) moved

-- the run over main slots, behind all that is received
abbrev pub run_of : Task → ℕ → ℕ → List Moved → Command
run_of task number position moved = record {
  id = entry_number number 4 0;
  kind = Kind.Run position task.func task.params (map main_slot task.reads) (map main_slot task.writes);
  before = map (λ (m : Moved). entry_number number 1 m.index) moved;
}

-- The commands of a task, each with its worker: a Send and a Receive for each object that has to move, then the run.
abbrev pub scheduled : Versions → Task → ℕ → ℕ → Placement → List Bool → List (Worker × Command)
scheduled versions task number position place live =
    let owner : Worker = owner_of place task versions.objects live in
    let moved : List Moved = moves versions owner [] task.reads in
    copies_of versions number owner moved ++ (owner, run_of task number position moved) ∷ []
