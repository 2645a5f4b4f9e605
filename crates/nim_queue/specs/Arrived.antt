-- Commands of a group that come behind those that wait: whom each of them waits for.
use Rattle.std.specs.Prelude.{◌≡◌, ℕ, ◌+◌, ◌==◌, Bool, not, ◌&&◌, ◌||◌, if◌then◌else◌, List, [], ◌∷◌, ◌++◌, length, map, Option, is_some}
use Rattle.std.specs.List.{list_any}
use Rattle.nim_base.specs.declared.number.Slot.{Slot}
use Rattle.nim_command.specs.declared.command.Command.{Command}
use Rattle.nim_command.specs.Slots.{does_write, reads_of, writes_of}
use Rattle.nim_command.specs.Waits.{Member}
use Rattle.nim_queue.specs.Counts.{is_in}
use Rattle.nim_queue.specs.Stands.{is_reader, is_writer}
use Rattle.nim_queue.specs.declared.arrivals.Arrival.{Arrival}
use Rattle.nim_queue.specs.declared.arrivals.Link.{Link}
use Rattle.nim_queue.specs.declared.arrivals.Reading.{Reading}
use Rattle.nim_queue.specs.declared.slot_use.SlotUse.{SlotUse}
use Rattle.nim_queue.specs.declared.waiting.Waiting.{Waiting}

-- commands as members of a group
abbrev pub as_members : ℕ → List Command → List Member
as_members group commands = map (λ command. record { group = group; command = command }) commands

-- a wait for an earlier command, with what its followers get
abbrev pub link_to : ℕ → ℕ → Link
link_to ticket earlier = record { earlier = earlier; later = ticket ∷ [] }

-- a slot that is read, with what its readers get
abbrev pub reading_of : ℕ → Slot → Reading
reading_of ticket slot = record { slot = slot; reader = ticket ∷ [] }

-- the tickets of those of some commands that have a number, the first of them with this ticket
abbrev pub named_in : ℕ → List Command → ℕ → List ℕ
named_in ticket [] number = []
named_in ticket (c ∷ rest) number =
    if c.id == number then ticket ∷ named_in (ticket + 1) rest number else named_in (ticket + 1) rest number

-- whether one of some commands writes a slot
abbrev pub is_written_in : List Command → ℕ → Bool
is_written_in commands slot = list_any (λ (c : Command). does_write c.kind (record { 0 = slot })) commands

-- What a group's command is held against: the commands that wait, the uses of slots, and of its own group the tickets
-- by number and which slots are written.
pub record Sight : Type 0 where
  pub kept : ℕ → Option Waiting
  pub used : ℕ → Option SlotUse
  pub named : ℕ → List ℕ
  pub written : ℕ → Bool

-- whether a waiting command is met as a user of one of these slots, where none of the group writes it before
abbrev pub is_user_met : Sight → (ℕ → Option SlotUse → Bool) → List Slot → ℕ → Bool
is_user_met sight is_user slots ticket =
    list_any (λ (slot : Slot). not (sight.written slot.0)
    && (is_user ticket (sight.used slot.0) && is_some (sight.kept ticket))) slots

-- whether a command of the group waits for the one of a ticket
abbrev pub does_await : Sight → Command → ℕ → Bool
does_await sight command ticket =
    ((list_any (λ number. is_in ticket (sight.named number)) command.before
    || is_user_met sight is_writer (reads_of command.kind) ticket)
    || is_user_met sight is_writer (writes_of command.kind) ticket)
    || is_user_met sight is_reader (writes_of command.kind) ticket

-- A command has arrived with this ticket.
pub record HasArrived (sight : Sight) (ticket : ℕ) (arrival : Arrival) : Type 0 where
  pub reads : arrival.reads.items ≡ map (reading_of ticket) (reads_of arrival.command.kind)
  pub waits : List ℕ
  pub links : arrival.waits.items ≡ map (link_to ticket) waits
  pub reached : (earlier : ℕ) → is_in earlier waits ≡ does_await sight arrival.command earlier

-- what the next command of a group is held against, when these have arrived
abbrev pub sight_of : (ℕ → Option Waiting) → (ℕ → Option SlotUse) → ℕ → List Command → Sight
sight_of kept used first past =
    record { kept = kept; used = used; named = named_in first past; written = is_written_in past }

-- Commands of a group have arrived behind these ones of it, each behind the ones before it.
abbrev pub HaveArrived : (ℕ → Option Waiting) → (ℕ → Option SlotUse) → ℕ → List Command → List Arrival → Type 0
HaveArrived kept used first past [] = Unit {0}
HaveArrived kept used first past (a ∷ rest) =
    HasArrived (sight_of kept used first past) (first + length past) a
    × HaveArrived kept used first (past ++ a.command ∷ []) rest

-- the commands that have arrived
abbrev pub commands_of : List Arrival → List Command
commands_of arrived = map (λ (a : Arrival). a.command) arrived
