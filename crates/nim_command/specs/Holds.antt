-- What slots hold when commands run in the order of their list: an object and its version, or nothing.
use Rattle.std.specs.Prelude.{ℕ, zero, suc, ◌+◌, ◌-◌, ◌^◌, ◌==◌, min, if◌then◌else◌, List, Option, None, Some, slice_get}
use Rattle.std.specs.Option.{option_map_or}
use Rattle.nim_base.specs.declared.number.Object.{Object}
use Rattle.nim_base.specs.declared.number.Slot.{Slot}
use Rattle.nim_command.specs.declared.command.Command.{Command}
use Rattle.nim_command.specs.declared.command.Kind.{Kind}
use Rattle.nim_command.specs.declared.command.Kind.TheVariants.{Create, Load, Send, Receive, Copy, Run, Fetch}
use Rattle.nim_command.specs.Slots.{is_among, object_of}

-- the content of a slot, if it isn't empty
abbrev pub Content : Type 0
Content = Option (Object × ℕ)

-- a version of the slot's object
abbrev pub content_at : Slot → ℕ → Content
content_at slot version = Some (object_of slot, version)

-- what the task at a position writes has the next version; the greatest number stays
abbrev pub version_after : ℕ → ℕ
version_after position = min (position + 1) (2 ^ 64 - 1)

-- what a slot has once another content was put into a slot
abbrev pub put_at : {X : Type 0} → Slot → X → (Slot → X) → Slot → X
put_at written content before slot = if slot.0 == written.0 then content else before slot

-- what a slot has after a command, from what the slots had before it
abbrev pub left_by : Kind → (Slot → Content) → Slot → Content
left_by (Create slot iota number) before = put_at slot (content_at slot 0) before
left_by (Load slot version value) before = put_at slot (content_at slot version) before
left_by (Receive slot version) before = put_at slot (content_at slot version) before
left_by (Copy from to) before = put_at to (before from) before
left_by (Run position func params reads writes) before =
    λ slot. if is_among writes slot then content_at slot (version_after position) else before slot
left_by (Send slot peer entry) before = before
left_by (Fetch slot ticket) before = before

-- what a slot has before the command at a place, empty at first
abbrev pub holds : List Command → ℕ → Slot → Content
holds commands zero slot = None
holds commands (suc place) slot =
    option_map_or (λ (c : Command). left_by c.kind (holds commands place) slot) (slice_get commands place)
    (holds commands place slot)
