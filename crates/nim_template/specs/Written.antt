-- The effect of a template, by its halves: each main slot that they write, with the offset of its last content.
use Rattle.std.specs.Prelude.{◌≡◌, ℕ, ◌==◌, if◌then◌else◌, List, [], ◌∷◌, Option, None, Some, slice_index_or}
use Rattle.std.specs.List.{flat_map, fold}
use Rattle.nim_base.specs.declared.number.Object.{Object}
use Rattle.nim_base.specs.declared.number.Slot.{Slot}
use Rattle.nim_base.specs.declared.number.Worker.{Worker}
use Rattle.nim_command.specs.declared.entry.Entry.{Entry}
use Rattle.nim_command.specs.declared.entry.EntryKind.{EntryKind}
use Rattle.nim_command.specs.declared.template.WorkerTemplate.{WorkerTemplate}
use Rattle.nim_command.specs.Numbers.{main_slot, offset_after, task_of}
use Rattle.nim_command.specs.Slots.{is_among}
use Rattle.nim_template.specs.Built.{all_slots}

-- the offset of what a main slot has after an entry of this number: a Copy goes to a scratch slot
abbrev pub offset_left : Slot → Option ℕ → ℕ → EntryKind → Option ℕ
offset_left slot before number (EntryKind.Receive to offset) = if to.0 == slot.0 then Some offset else before
offset_left slot before number (EntryKind.Run func params reads writes) =
    if is_among writes slot then Some (offset_after (task_of number)) else before
offset_left slot before number (EntryKind.Copy from to) = before
offset_left slot before number (EntryKind.Send from peer entry) = before

-- the offset of a slot's last content, if one of these entries writes it
abbrev pub last_written : List Entry → Slot → Option ℕ
last_written entries slot =
    fold (λ (before : Option ℕ) (entry : Entry). offset_left slot before entry.id entry.kind) None entries

-- an item of an effect
abbrev pub item_of : Worker × Object → Option ℕ → List (Worker × Slot × ℕ)
item_of slot None = []
item_of slot (Some offset) = (slot.0, main_slot slot.1, offset) ∷ []

-- the item of a main slot, by what the half of its worker wrote last
abbrev pub item_for : List (List Entry) → Worker × Object → List (Worker × Slot × ℕ)
item_for halves slot = item_of slot (last_written (slice_index_or halves slot.0.0 []) (main_slot slot.1))

-- A template's effect is what its halves write last, over the main slots of so many workers and objects.
abbrev pub HasEffect : ℕ → ℕ → WorkerTemplate → Type 0
HasEffect workers objects template = template.effect ≡ flat_map (item_for template.halves) (all_slots workers objects)
