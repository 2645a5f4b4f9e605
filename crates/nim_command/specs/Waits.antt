-- Which earlier commands a command waits for.
use Rattle.std.specs.Prelude.{ℕ, ◌+◌, ◌==◌, Bool, false, not, ◌&&◌, ◌||◌, if◌then◌else◌, List, [], ◌∷◌, ◌++◌, map, filter, length, slice_get, slice_range}
use Rattle.std.specs.List.{flat_map, list_any, range_with_len}
use Rattle.std.specs.Option.{option_map_or}
use Rattle.nim_base.specs.declared.number.Slot.{Slot}
use Rattle.nim_command.specs.declared.command.Command.{Command}
use Rattle.nim_command.specs.Slots.{does_touch, does_write, reads_of, writes_of}

-- Which order a group came from. Of an instance it has the position of the block's task 0.
pub data Source : Type 0 where
  FromSingle : Source
  FromInstance : (base : ℕ) → Source
  FromPatch : Source

-- what one order stands for: commands that name each other by their numbers
pub record Group : Type 0 where
  pub epoch : ℕ
  pub instance : ℕ
  pub source : Source
  pub commands : List Command

-- what a Single stands for
abbrev pub single_group : ℕ → ℕ → List Command → Group
single_group epoch instance commands =
    record { epoch = epoch; instance = instance; source = FromSingle; commands = commands }

-- a command, and which of the groups it is of
pub record Member : Type 0 where
  pub group : ℕ
  pub command : Command

-- the commands of the groups in order, the first group with this number
abbrev pub members_from : ℕ → List Group → List Member
members_from number [] = []
members_from number (group ∷ groups) =
    map (λ command. record { group = number; command = command }) group.commands ++ members_from (number + 1) groups

-- the commands of all groups in order, each with the number of its group from 0 on
abbrev pub members_of : List Group → List Member
members_of groups = members_from 0 groups

-- the commands alone
abbrev pub commands_of : List Group → List Command
commands_of groups = flat_map (λ (group : Group). group.commands) groups

-- whether one of these commands writes the slot
abbrev pub is_written_by : List Member → Slot → Bool
is_written_by members slot = list_any (λ (m : Member). does_write m.command.kind slot) members

-- The earlier command writes a slot that the later one touches, or reads one that the later one writes, and no
-- command between them writes this slot.
abbrev pub is_border : Member → List Member → Member → Bool
is_border earlier between later =
    list_any (λ slot. does_touch later.command.kind slot && not (is_written_by between slot))
    (writes_of earlier.command.kind)
    || list_any (λ slot. does_write later.command.kind slot && not (is_written_by between slot))
    (reads_of earlier.command.kind)

-- Whether a command waits for an earlier one: in its own group where it names its number, else where they border.
abbrev pub is_waited : Member → List Member → Member → Bool
is_waited earlier between later =
    if earlier.group == later.group then list_any (λ number. number == earlier.command.id) later.command.before
    else is_border earlier between later

-- whether the command at a place waits for the one at an earlier place
abbrev pub waits_for : List Member → ℕ → ℕ → Bool
waits_for members later earlier =
    option_map_or
    (λ (l : Member). option_map_or (λ (e : Member). is_waited e (slice_range members (earlier + 1) later) l)
    (slice_get members earlier) false)
    (slice_get members later)
    false

-- the places of the earlier commands that the one at a place waits for
abbrev pub waits_of : List Member → ℕ → List ℕ
waits_of members place = filter (waits_for members place) (range_with_len 0 place)

-- the commands, each with its place in place of its number, and the places that it waits for
abbrev pub placed : List Member → List ℕ → List Member → List Command
placed members (place ∷ places) (m ∷ ms) =
    record m.command { id = place; before = waits_of members place } ∷ placed members places ms
placed members _ _ = []

-- the commands of all groups as one list, numbered by their places, with the places that each waits for
abbrev pub placed_commands : List Group → List Command
placed_commands groups =
    let members : List Member = members_of groups in
    placed members (range_with_len 0 (length members)) members
