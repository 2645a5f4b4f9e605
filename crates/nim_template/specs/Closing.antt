-- The closing copies of a block, behind its last task: they bring each main slot that the block needs at entry, and
-- that has an older version by now, to the last one.
use Rattle.std.specs.Prelude.{ℕ, ◌+◌, ◌-◌, ◌^◌, min, if◌then◌else◌, List, [], ◌∷◌, ◌++◌, Option, None, Some}
use Rattle.std.specs.List.{fold}
use Rattle.nim_base.specs.declared.number.Object.{Object}
use Rattle.nim_base.specs.declared.number.Worker.{Worker}
use Rattle.nim_command.specs.declared.entry.Entry.{Entry}
use Rattle.nim_command.specs.declared.entry.EntryKind.{EntryKind}
use Rattle.nim_command.specs.Edits.{entry_of}
use Rattle.nim_command.specs.Numbers.{main_slot}
use Rattle.nim_place.specs.Versions.{Versions, holder, is_current, latest_of}
use Rattle.nim_template.specs.declared.closing.Closing.{Closing}
use Rattle.nim_template.specs.Walk.{offset_for, with_offset}

-- Who sends a worker an object that it needs at entry: the lowest worker that has the object's last version, unless
-- the worker has it too.
abbrev pub closing_from : Versions → Worker × Object → Option Worker
closing_from offsets need = if is_current offsets need.1 need.0 then None else holder offsets need.1

-- the copy, if it comes from anywhere
abbrev pub copy_from : Versions → Worker × Object → Option Worker → List Closing
copy_from offsets need None = []
copy_from offsets need (Some from) =
    record { from = from; to = need.0; object = need.1; offset = offset_for (latest_of offsets need.1) } ∷ []

-- the closing copy that a need asks for, if any
abbrev pub closing_for : Versions → Worker × Object → List Closing
closing_for offsets need = copy_from offsets need (closing_from offsets need)

-- what main slots have then
abbrev pub received_from : Versions → Worker × Object → Option Worker → Versions
received_from offsets need None = offsets
received_from offsets need (Some from) = with_offset need.0 need.1 (latest_of offsets need.1) offsets

-- what main slots have behind the closing copy for a need
abbrev pub closed_for : Versions → Worker × Object → Versions
closed_for offsets need = received_from offsets need (closing_from offsets need)

-- the closing copies for needs in order; the receiver of one may send a later one
abbrev pub closings : Versions → List (Worker × Object) → List Closing
closings offsets [] = []
closings offsets (need ∷ needs) = closing_for offsets need ++ closings (closed_for offsets need) needs

-- what main slots have behind them
abbrev pub after_closings : Versions → List (Worker × Object) → Versions
after_closings offsets needs = fold closed_for offsets needs

-- the number of a closing copy, at both its ends
abbrev pub closing_number : ℕ → ℕ
closing_number copy = min (65536 + copy) (2 ^ 32 - 1)

-- the entry that sends a closing copy, by the copy's number
abbrev pub closing_send : ℕ → Closing → Worker × Entry
closing_send copy c =
    (c.from, entry_of (closing_number copy) (EntryKind.Send (main_slot c.object) c.to (closing_number copy)))

-- the entry that receives it
abbrev pub closing_receive : ℕ → Closing → Worker × Entry
closing_receive copy c = (c.to, entry_of (closing_number copy) (EntryKind.Receive (main_slot c.object) c.offset))

-- the entries of closing copies, from one of this number on
abbrev pub closing_entries : ℕ → List Closing → List (Worker × Entry)
closing_entries copy [] = []
closing_entries copy (c ∷ cs) = closing_send copy c ∷ closing_receive copy c ∷ closing_entries (copy + 1) cs
