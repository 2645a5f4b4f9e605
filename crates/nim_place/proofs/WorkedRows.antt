-- Worked by hand, and computed. Two workers, a[0] with version 1 at worker 0 and a[1] with version 2 at worker 1: the
-- task at position 2 adds both into a[0]. And an instance at base 8 of a block that adds 4 to each part, whose task 1
-- was moved from worker 1 to worker 0.
use Rattle.std.proofs.Common.{◌≡◌, ℕ, true, List, [], ◌∷◌, map, refl, pos, None, Some}
use Rattle.std.specs.Prelude.{◌==◌, if◌then◌else◌}
use Rattle.nim_base.specs.declared.number.Object.{Object}
use Rattle.nim_base.specs.declared.number.Shape.{Shape}
use Rattle.nim_base.specs.declared.number.Slot.{Slot}
use Rattle.nim_base.specs.declared.number.Worker.{Worker}
use Rattle.nim_base.specs.declared.task.Func.TheVariants.{Add, Addc}
use Rattle.nim_base.specs.declared.task.Param.TheVariants.{Const}
use Rattle.nim_base.specs.declared.task.Task.{Task}
use Rattle.nim_command.specs.declared.command.Command.{Command}
use Rattle.nim_command.specs.declared.command.Kind.{Kind}
use Rattle.nim_command.specs.declared.entry.Entry.{Entry}
use Rattle.nim_command.specs.declared.entry.EntryKind.{EntryKind}
use Rattle.nim_message.specs.declared.order.ToWorker.{ToWorker}
use Rattle.nim_plan.specs.Paired.{Key, keys_received, keys_sent}
use Rattle.nim_place.specs.declared.placement.Placement.{Placement}
use Rattle.nim_place.specs.Extends.{longer, singles_of, worker_of}
use Rattle.nim_place.specs.Orders.{resets_of}
use Rattle.nim_place.specs.Schedule.{scheduled}
use Rattle.nim_place.specs.Sound.{Plane, by_rank, commands_from, first_plane, plane_left}
use Rattle.nim_place.specs.Versions.{Versions, after_commands}

abbrev slot : ℕ → Slot
slot n = record { 0 = n }

abbrev object : ℕ → Object
object n = record { 0 = n }

-- ---- a task by itself

abbrev versions : Versions
versions = record { workers = 2; objects = 2; held = Some 1 ∷ None ∷ None ∷ Some 2 ∷ []; latest = 1 ∷ 2 ∷ [] }

abbrev task : Task
task = record { func = Add; params = []; reads = object 0 ∷ object 1 ∷ []; writes = object 0 ∷ [] }

abbrev commands : List (Worker × Command)
commands = scheduled versions task 2 2 Placement.Cyclic (true ∷ true ∷ [])

given : commands ≡ (worker_of 1, record { id = 129; kind = Kind.Send (slot 1) (worker_of 0) 137; before = [] })
    ∷ (worker_of 0, record { id = 137; kind = Kind.Receive (slot 1) 2; before = [] })
    ∷ (worker_of 0, record { id = 160; kind = Kind.Run 2 Add [] (slot 0 ∷ slot 1 ∷ []) (slot 0 ∷ []); before = 137 ∷ [] }) ∷ []
given = refl

map_after : after_commands versions commands ≡ record versions { held = Some 3 ∷ Some 2 ∷ None ∷ Some 2 ∷ []; latest = 3 ∷ 2 ∷ [] }
map_after = refl

-- ---- its orders

abbrev shape : Shape
shape = record { width = 1; rows = 1 }

abbrev run : ℕ → ℕ → ℕ → Command
run id position at = record { id = id; kind = Kind.Run position Addc (pos 4 ∷ []) (slot at ∷ []) (slot at ∷ []); before = [] }

-- a Reset, and a run of each worker
abbrev lists : ℕ → List ToWorker
lists = longer (longer (λ number. []) (resets_of (true ∷ true ∷ []) 0 2 (shape ∷ shape ∷ [])))
    (singles_of 0 0 ((worker_of 0, run 32 0 0) ∷ (worker_of 1, run 96 1 1) ∷ []))

abbrev key : Key
key = record { epoch = 0; instance = 0; entry = 137; object = object 1; version = 2 }

sends_to_0 : keys_sent (worker_of 0) (longer lists (singles_of 0 0 commands) 1) ≡ key ∷ []
sends_to_0 = refl

receives_at_0 : keys_received (longer lists (singles_of 0 0 commands) 0) ≡ key ∷ []
receives_at_0 = refl

receives_at_1 : keys_received (longer lists (singles_of 0 0 commands) 1) ≡ []
receives_at_1 = refl

-- ---- a walk by rank

abbrev entry_run : ℕ → ℕ → List ℕ → Entry
entry_run id at before = record { id = id; kind = EntryKind.Run Addc (Const (pos 4) ∷ []) (slot at ∷ []) (slot at ∷ []); before = before }

abbrev halves : List (List Entry)
halves = (entry_run 32 0 [] ∷ record { id = 88; kind = EntryKind.Receive (slot 513) 0; before = [] } ∷ entry_run 96 513 (88 ∷ [])
    ∷ record { id = 104; kind = EntryKind.Send (slot 513) (worker_of 1) 112; before = 96 ∷ [] } ∷ [])
    ∷ (record { id = 80; kind = EntryKind.Send (slot 1) (worker_of 0) 88; before = [] } ∷ record {
      id = 112;
      kind = EntryKind.Receive
          (slot 1) 2;
      before = 80 ∷ [];
    } ∷ []) ∷ []

-- the tasks at positions 6 and 7 wrote a[0] and a[1]
abbrev read : Object → ℕ
read o = if o.0 == 0 then 7 else 8

abbrev first : Plane
first = first_plane (λ (w : Worker) (s : Slot). if w.0 == s.0 then Some (object s.0, read (object s.0)) else None)

abbrev ranked : List (Worker × Command)
ranked = by_rank 8 (commands_from read 8 [] 0 halves)

ranked_numbers : map (λ (c : Worker × Command). c.1.id) ranked ≡ 32 ∷ 80 ∷ 88 ∷ 96 ∷ 104 ∷ 112 ∷ []
ranked_numbers = refl

home_holds : (plane_left first ranked).slots (worker_of 1) (slot 1) ≡ Some (object 1, 10)
home_holds = refl

owner_holds : (plane_left first ranked).slots (worker_of 0) (slot 513) ≡ Some (object 1, 10)
owner_holds = refl

other_holds : (plane_left first ranked).slots (worker_of 0) (slot 0) ≡ Some (object 0, 9)
other_holds = refl
