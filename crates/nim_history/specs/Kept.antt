-- What a command leaves in the slots of its worker, values too, and what it gives.
use Rattle.std.specs.Prelude.{ℕ, nat_lt, ℤ, Bool, true, false, if◌then◌else◌, List, [], ◌∷◌, length, map, Option, None, Some, slice_get}
use Rattle.std.specs.Option.{option_and_then, option_map_or, is_some}
use Rattle.nim_base.specs.declared.number.Object.{Object}
use Rattle.nim_base.specs.declared.number.Shape.{Shape}
use Rattle.nim_base.specs.declared.number.Slot.{Slot}
use Rattle.nim_base.specs.declared.task.Func.{Func}
use Rattle.nim_base.specs.Apply.{apply_of, has_counts}
use Rattle.nim_base.specs.Value.{Grid, empty_grid}
use Rattle.nim_command.specs.declared.command.Kind.{Kind}
use Rattle.nim_command.specs.declared.command.Kind.TheVariants.{Create, Load, Send, Receive, Copy, Run, Fetch}
use Rattle.nim_command.specs.Created.{created}
use Rattle.nim_command.specs.Holds.{put_at, version_after}
use Rattle.nim_command.specs.Slots.{object_of}
use Rattle.nim_command.specs.Waits.{Group, Source, FromSingle}
use Rattle.nim_message.specs.declared.frame.Data.{Data}
use Rattle.nim_message.specs.declared.report.FromWorker.TheVariants.{Ran, Value}
use Rattle.nim_store.specs.declared.held.Held.{Held}
use Rattle.nim_history.specs.declared.out.Out.{Out}

-- a version of the slot's object
abbrev pub held_version : Slot → ℕ → Grid → Held
held_version slot version value = record { object = object_of slot; version = version; value = value }

-- what is read of a slot: an empty one has no rows
abbrev pub held_or_empty : (Slot → Option Held) → Slot → Held
held_or_empty before slot = option_map_or (λ (held : Held). held) (before slot) (held_version slot 0 empty_grid)

-- the object and version that are read of a slot
abbrev pub content_seen : (Slot → Option Held) → Slot → Object × ℕ
content_seen before slot = ((held_or_empty before slot).object, (held_or_empty before slot).version)

-- the shape of a slot's object, if it has one with columns
abbrev pub shape_of : List Shape → Slot → Option Shape
shape_of shapes slot =
    option_and_then (λ (shape : Shape). if nat_lt 0 shape.width then Some shape else None)
    (slice_get shapes (object_of slot).0)

-- the shape that a result is fitted to; where there is none the result isn't kept
abbrev pub fitting_shape : List Shape → Slot → Shape
fitting_shape shapes slot =
    option_map_or (λ (shape : Shape). shape) (shape_of shapes slot) (record { width = 1; rows = 0 })

-- a value put into a slot, where the slot has a shape
abbrev pub put_shaped : List Shape → Slot → Held → (Slot → Option Held) → Slot → Option Held
put_shaped shapes slot held before = if is_some (shape_of shapes slot) then put_at slot (Some held) before else before

-- the results of a task put into slots, one after another
abbrev pub put_results : List Shape → ℕ → List Slot → List Grid → (Slot → Option Held) → Slot → Option Held
put_results shapes version (slot ∷ slots) (value ∷ values) before =
    put_results shapes version slots values (put_shaped shapes slot (held_version slot version value) before)
put_results shapes version _ _ before = before

-- what a task gives for what it reads
abbrev pub results_for : List Shape → Func → List ℤ → List Slot → List Slot → (Slot → Option Held) → List Grid
results_for shapes func params reads writes before =
    apply_of func params (map (λ slot. (held_or_empty before slot).value) reads) (map (fitting_shape shapes) writes)

-- What a command leaves in the slots, with the value of the frame that it receives, if it receives one. A Run whose
-- counts aren't its function's leaves them as they are.
abbrev pub kept_by : List Shape → Option Grid → Kind → (Slot → Option Held) → Slot → Option Held
kept_by shapes frame (Create slot iota number) before =
    put_shaped shapes slot (held_version slot 0 (created (fitting_shape shapes slot) iota number)) before
kept_by shapes frame (Load slot version value) before = put_at slot (Some (held_version slot version value)) before
kept_by shapes frame (Receive slot version) before =
    option_map_or (λ (value : Grid). put_at slot (Some (held_version slot version value)) before) frame before
kept_by shapes frame (Copy from to) before = put_at to (before from) before
kept_by shapes frame (Run position func params reads writes) before =
    if has_counts func (length params) (length reads) (length writes)
    then put_results shapes (version_after position) writes (results_for shapes func params reads writes before) before
    else before
kept_by shapes frame _ before = before

-- what a Run reads: nothing where its counts aren't its function's
abbrev pub contents_read : Func → List ℤ → List Slot → List Slot → (Slot → Option Held) → List (Object × ℕ)
contents_read func params reads writes before =
    if has_counts func (length params) (length reads) (length writes) then map (content_seen before) reads else []

-- the frame that a Send sends to an entry: what its slot has
abbrev pub frame_of : Group → ℕ → Held → Data
frame_of group entry held = record {
  epoch = group.epoch;
  instance = group.instance;
  entry = entry;
  object = held.object;
  version = held.version;
  value = held.value;
}

-- whether each Run of a group is reported
abbrev pub is_single : Source → Bool
is_single FromSingle = true
is_single _ = false

-- What a command gives of its own: a Send a frame, a Fetch what its slot has, a Run of a Single what it read.
abbrev pub own_outs : Group → Kind → (Slot → Option Held) → List Out
own_outs group (Send slot peer entry) before = Out.Data peer (frame_of group entry (held_or_empty before slot)) ∷ []
own_outs group (Fetch slot ticket) before =
    let held : Held =
    held_or_empty before slot in Out.Report (Value group.epoch ticket held.object held.version held.value) ∷ []
own_outs group (Run position func params reads writes) before =
    if is_single group.source
    then Out.Report (Ran group.epoch position (contents_read func params reads writes before)) ∷ []
    else []
own_outs group _ before = []
