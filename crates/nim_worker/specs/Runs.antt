-- What the Runs among commands read.
use Rattle.std.specs.Prelude.{ℕ, List, [], ◌∷◌, Option}
use Rattle.std.specs.List.{flat_map}
use Rattle.std.specs.Option.{option_map_or}
use Rattle.nim_base.specs.declared.number.Object.{Object}
use Rattle.nim_base.specs.declared.number.Slot.{Slot}
use Rattle.nim_command.specs.declared.command.Kind.{Kind}
use Rattle.nim_command.specs.declared.command.Kind.TheVariants.{Run}
use Rattle.nim_store.specs.declared.held.Held.{Held}
use Rattle.nim_history.specs.History.{Asked, WorkerState, asked_at}
use Rattle.nim_history.specs.Kept.{contents_read}
use Rattle.nim_worker.specs.declared.batch.Work.{Work}

-- the position of a task that is run, and what it reads: an object and its version for each read
abbrev pub RunRead : Type 0
RunRead = ℕ × List (Object × ℕ)

-- what a command reads of these slots, if it is a Run
abbrev pub run_read : (Slot → Option Held) → Kind → List RunRead
run_read slots (Run position func params reads writes) = (position, contents_read func params reads writes slots) ∷ []
run_read slots kind = []

-- what the command at a place reads of a worker's slots
abbrev pub run_read_at : WorkerState → ℕ → List RunRead
run_read_at state place =
    option_map_or (λ (asked : Asked). run_read state.slots asked.command.kind) (asked_at state.session.groups place) []

-- what the commands at these places read there, in order
abbrev pub runs_read : WorkerState → List ℕ → List RunRead
runs_read state places = flat_map (run_read_at state) places

-- what a work has read
abbrev pub reads_of_work : Work → List RunRead
reads_of_work work = option_map_or
    (λ (position : ℕ). (position, work.inputs.value.contents.items) ∷ []) work.position []

-- what works have read, in order
abbrev pub all_read_by : List Work → List RunRead
all_read_by works = flat_map reads_of_work works
