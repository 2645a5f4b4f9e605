-- What a queue stands for: the groups that it was given, and which of their commands are complete.
use Rattle.std.specs.Prelude.{◌≡◌, ℕ, ◌+◌, ◌≤◌, ◌==◌, Bool, true, false, not, ◌&&◌, ◌||◌, if◌then◌else◌, List, [], ◌∷◌, drop, length, nat_eq, nat_lt, Option, None, Some, slice_get}
use Rattle.std.specs.HashMap.{get}
use Rattle.std.specs.List.{filter, list_all, range_with_len}
use Rattle.std.specs.Option.{option_map, option_map_or}
use Rattle.nim_base.specs.declared.number.Slot.{Slot}
use Rattle.nim_command.specs.declared.command.Command.{Command}
use Rattle.nim_command.specs.declared.command.Kind.{Kind}
use Rattle.nim_command.specs.Slots.{does_read, does_write}
use Rattle.nim_command.specs.Waits.{Group, Member, is_written_by, members_of, waits_of}
use Rattle.nim_queue.specs.Used.{used_in}
use Rattle.nim_queue.specs.Counts.{AreBrief, AreReleased, AreShort, is_in, kept_ones, times}
use Rattle.nim_queue.specs.declared.queue.BeforeQueue.{BeforeQueue}
use Rattle.nim_queue.specs.declared.slot_use.SlotUse.{SlotUse}
use Rattle.nim_queue.specs.declared.waiting.Waiting.{Waiting}

-- how many commands the groups have: the ticket of the next one
abbrev pub command_count : List Group → ℕ
command_count groups = length (members_of groups)

-- Whether the command of a ticket is released: it isn't complete, and all that it waits for is.
abbrev pub is_released : List Group → (ℕ → Bool) → ℕ → Bool
is_released groups done ticket = not (done ticket) && list_all done (waits_of (members_of groups) ticket)

-- whether a ticket comes after the given one; all do where none is given
abbrev pub is_after : Option ℕ → ℕ → Bool
is_after None ticket = true
is_after (Some after) ticket = nat_lt after ticket

-- the first of some numbers that passes a test
abbrev pub first_to_pass : (ℕ → Bool) → List ℕ → Option ℕ
first_to_pass test [] = None
first_to_pass test (n ∷ rest) = if test n then Some n else first_to_pass test rest

-- the first released command after the given one, in the order given
abbrev pub ready_of : List Group → (ℕ → Bool) → Option ℕ → Option ℕ
ready_of groups done after =
    first_to_pass (λ ticket. is_after after ticket && is_released groups done ticket)
    (range_with_len 0 (command_count groups))

-- the command of a ticket while it isn't complete
abbrev pub outstanding_command : List Group → (ℕ → Bool) → ℕ → Option Command
outstanding_command groups done ticket =
    if done ticket then None else option_map (λ (m : Member). m.command) (slice_get (members_of groups) ticket)

-- which of the groups, from 0 on, the command of a ticket is of while it isn't complete
abbrev pub outstanding_group : List Group → (ℕ → Bool) → ℕ → Option ℕ
outstanding_group groups done ticket =
    if done ticket then None else option_map (λ (m : Member). m.group) (slice_get (members_of groups) ticket)

-- What is complete once the command of a ticket is. A ticket that was never given changes nothing.
abbrev pub done_with : List Group → (ℕ → Bool) → ℕ → ℕ → Bool
done_with groups done ticket =
    if nat_lt ticket (command_count groups) then (λ place. done place || (ticket == place)) else done

-- nothing is complete
abbrev pub nothing_done : ℕ → Bool
nothing_done ticket = false

-- the tickets of those that a command still waits for
abbrev pub open_waits : List Member → (ℕ → Bool) → ℕ → List ℕ
open_waits members done ticket = filter (λ earlier. not (done earlier)) (waits_of members ticket)

-- a command as the queue keeps it, with those that it waits for and those that wait for it
abbrev pub kept_at : (ℕ → List ℕ) → (ℕ → List ℕ) → ℕ → Member → Waiting
kept_at waits followers ticket m = record {
  group = m.group;
  command = m.command;
  pending = length (waits ticket);
  followers = followers ticket;
}

-- whether the command at a place uses a slot, and no later one writes it
abbrev pub does_use_last : (Kind → Slot → Bool) → List Member → ℕ → Slot → Bool
does_use_last uses members place slot =
    option_map_or (λ (m : Member). uses m.command.kind slot && not (is_written_by (drop (place + 1) members) slot))
    (slice_get members place) false

-- whether a slot's last writer is the command of a ticket
abbrev pub is_writer : ℕ → Option SlotUse → Bool
is_writer ticket used =
    option_map_or (λ (u : SlotUse). option_map_or (λ writer. ticket == writer) u.writer false) used false

-- whether the command of a ticket is among a slot's readers
abbrev pub is_reader : ℕ → Option SlotUse → Bool
is_reader ticket used = option_map_or (λ (u : SlotUse). is_in ticket u.readers) used false

-- how many commands of a queue aren't complete: those of its tickets that it keeps a command of
abbrev pub waiting_count : BeforeQueue → ℕ
waiting_count queue = length (kept_ones (get nat_eq queue.waiting) queue.given)

-- The queue keeps what it has to of these groups, of which just these commands are complete.
pub record KeepsGroups (queue : BeforeQueue) (groups : List Group) (done : ℕ → Bool) : Type 0 where
  -- whom each command waits for, and who waits for it, as often as they were met
  pub waits : ℕ → List ℕ
  pub followers : ℕ → List ℕ
  pub kept : (ticket : ℕ) → get nat_eq queue.waiting ticket
      ≡ (if done ticket then None else option_map (kept_at waits followers ticket)
      (slice_get (members_of groups) ticket))
  -- they are those whom it has to wait for, and that aren't complete
  pub left : (ticket earlier : ℕ) → done ticket ≡ false
      → is_in earlier (waits ticket) ≡ is_in earlier (open_waits (members_of groups) done ticket)
  -- one waits for another as often as that one is followed by it
  pub mirrored : (earlier later : ℕ) → done earlier ≡ false → done later ≡ false
      → times later (followers earlier) ≡ times earlier (waits later)
  pub released : AreReleased (get nat_eq queue.waiting) queue.released queue.given
  -- the last writer of each slot, and the readers since, where they aren't complete
  pub written : (ticket slot : ℕ) → done ticket ≡ false
      → is_writer ticket (used_in queue.slots.items slot)
      ≡ does_use_last does_write (members_of groups) ticket (record { 0 = slot })
  pub read : (ticket slot : ℕ) → done ticket ≡ false
      → is_reader ticket (used_in queue.slots.items slot)
      ≡ does_use_last does_read (members_of groups) ticket (record { 0 = slot })
  -- no list is longer than was counted
  pub short : AreShort (get nat_eq queue.waiting) queue.links
  pub brief : AreBrief (used_in queue.slots.items) queue.links
  pub given : queue.given ≡ command_count groups
  pub numbered : queue.groups ≡ length groups
  -- no command is complete before it is given
  pub later : (ticket : ℕ) → command_count groups ≤ ticket → done ticket ≡ false

-- the same, as one fact to those who call the queue
unfoldable pub AreGroupsKept : BeforeQueue → List Group → (ℕ → Bool) → Type 0
AreGroupsKept queue groups done = KeepsGroups queue groups done

-- The queue was given these groups, and just these of their commands are complete, each by its place in the order
-- given, which is its ticket. It keeps nothing of those but their number, and their tickets where they used a slot
-- last.
pub record StandsForGroups (queue : BeforeQueue) (groups : List Group) (done : ℕ → Bool) : Type 0 where
  pub kept : AreGroupsKept queue groups done
  -- no command is complete before it is given
  pub later : (ticket : ℕ) → command_count groups ≤ ticket → done ticket ≡ false
