-- The tasks of a block, walked in order: single scheduling over offsets in place of versions. Offset 0 is what an
-- object has at entry, offset j + 1 what task j of the block writes.
use Rattle.std.specs.Prelude.{ℕ, ◌+◌, ◌-◌, ◌^◌, ◌==◌, min, Bool, if◌then◌else◌, List, [], ◌∷◌, ◌++◌, Option, None, Some}
use Rattle.std.specs.List.{flat_map, fold}
use Rattle.nim_base.specs.declared.number.Object.{Object}
use Rattle.nim_base.specs.declared.number.Worker.{Worker}
use Rattle.nim_base.specs.declared.task.Task.{Task}
use Rattle.nim_base.specs.declared.task.TaskForm.{TaskForm}
use Rattle.nim_command.specs.declared.command.Command.{Command}
use Rattle.nim_command.specs.declared.command.Kind.{Kind}
use Rattle.nim_command.specs.declared.command.Kind.TheVariants.{Send, Receive, Run}
use Rattle.nim_command.specs.declared.entry.Entry.{Entry}
use Rattle.nim_command.specs.declared.entry.EntryKind.{EntryKind}
use Rattle.nim_command.specs.Edits.{entry_of}
use Rattle.nim_command.specs.Numbers.{main_slot}
use Rattle.nim_place.specs.declared.placement.Placement.{Placement}
use Rattle.nim_place.specs.Schedule.{owner_of, scheduled}
use Rattle.nim_place.specs.Versions.{Versions, after_commands, latest_of, no_versions, with_version}
use Rattle.nim_template.specs.declared.walk.Walk.{Walk}

-- a form as a task, its parameters aside
abbrev pub task_for : TaskForm → Task
task_for form = record { func = form.func; params = []; reads = form.reads; writes = form.writes }

-- the home of a form's task
abbrev pub home_of : Placement → ℕ → List Bool → TaskForm → Worker
home_of place objects live form = owner_of place (task_for form) objects live

-- nothing is written yet, and nothing needed
abbrev pub empty_walk : ℕ → ℕ → Walk
empty_walk workers objects =
    record { offsets = no_versions workers objects; needed = no_versions workers objects; entries = [] }

-- a worker's main slot of an object has this offset
abbrev pub with_offset : Worker → Object → ℕ → Versions → Versions
with_offset worker object offset versions = with_version worker offset versions (main_slot object)

-- A read of an object at a worker: where no task so far writes it, the worker's main slot has to have what the object
-- has at entry.
abbrev pub with_need : Worker → Walk → Object → Walk
with_need worker walk object =
    if latest_of walk.offsets object == 0
    then record {
      offsets = with_offset worker object 0 walk.offsets;
      needed =
          with_offset worker object 0 walk.needed;
      entries = walk.entries;
    }
    else walk

-- an offset as an entry has it
abbrev pub offset_for : ℕ → ℕ
offset_for offset = min offset (2 ^ 16 - 1)

-- What a command of a form's task is as an entry: what is received is an offset, and the parameters are the form's. A
-- Create, a Load, a Copy and a Fetch are none.
abbrev pub entry_kind : TaskForm → Kind → Option EntryKind
entry_kind form (Send slot peer entry) = Some (EntryKind.Send slot peer entry)
entry_kind form (Receive slot offset) = Some (EntryKind.Receive slot (offset_for offset))
entry_kind form (Run position func params reads writes) = Some (EntryKind.Run func form.params reads writes)
entry_kind form _ = None

-- the entry of a kind, with its worker
abbrev pub entry_if : Worker → ℕ → Option EntryKind → List (Worker × Entry)
entry_if worker number None = []
entry_if worker number (Some kind) = (worker, entry_of number kind) ∷ []

-- the entry of a command
abbrev pub entry_for : TaskForm → Worker × Command → List (Worker × Entry)
entry_for form c = entry_if c.0 c.1.id (entry_kind form c.1.kind)

-- Task `number` of a block: what it needs at entry, and then the commands that single scheduling gives it at its home,
-- at the position of its number.
abbrev pub walked_past : Placement → List Bool → ℕ → Walk → TaskForm → Walk
walked_past place live number walk form =
    let ready : Walk = fold (with_need (home_of place walk.offsets.objects live form)) walk form.reads in
    let commands : List (Worker × Command) = scheduled ready.offsets (task_for form) number number place live in
    record {
      offsets = after_commands ready.offsets commands;
      needed = ready.needed;
      entries = ready.entries ++ flat_map (entry_for form) commands;
    }

-- the tasks of a block from one of this number on
abbrev pub walked : Placement → List Bool → ℕ → Walk → List TaskForm → Walk
walked place live number walk [] = walk
walked place live number walk (form ∷ forms) =
    walked place live (number + 1) (walked_past place live number walk form) forms
