-- What one more command changes of those that wait and of the uses of slots.
use Rattle.std.specs.Prelude.{◌≡◌, ℕ, ◌+◌, ◌==◌, ◌&&◌, Bool, false, true, if◌then◌else◌, List, [], ◌∷◌, ◌++◌, length, Option, None, Some, is_some, sum_by}
use Rattle.std.specs.List.{list_all}
use Rattle.nim_base.specs.declared.number.Slot.{Slot}
use Rattle.nim_command.specs.declared.command.Command.{Command}
use Rattle.nim_command.specs.Slots.{reads_of, writes_of}
pub use Rattle.nim_queue.specs.Counts.{AreBrief, AreShort, AreWithin}
use Rattle.nim_queue.specs.Stands.{is_reader, is_writer}
use Rattle.nim_queue.specs.declared.arrivals.Arrival.{Arrival}
use Rattle.nim_queue.specs.declared.arrivals.Link.{Link}
use Rattle.nim_queue.specs.declared.arrivals.Reading.{Reading}
use Rattle.nim_queue.specs.declared.slot_use.SlotUse.{SlotUse}
use Rattle.nim_queue.specs.declared.waiting.Waiting.{Waiting}

-- the lists of those that have a number, one after the other
abbrev pub gathered_by : {X : Type 0} → (X → ℕ) → (X → List ℕ) → ℕ → List X → List ℕ
gathered_by key own number [] = []
gathered_by key own number (x ∷ rest) = (if key x == number then own x else []) ++ gathered_by key own number rest

-- a command that more wait for
abbrev pub followed : List ℕ → Waiting → Waiting
followed more w = record w { followers = w.followers ++ more }

-- what links add to a command
abbrev pub gathered : ℕ → List Link → List ℕ
gathered = gathered_by (λ (link : Link). link.earlier) (λ (link : Link). link.later)

-- a slot that a command writes
abbrev pub rewritten : ℕ → SlotUse → SlotUse
rewritten ticket u = record { writer = Some ticket; readers = [] }

-- a slot that more read
abbrev pub more_read : List ℕ → SlotUse → SlotUse
more_read more u = record u { readers = u.readers ++ more }

-- what readings add to a slot
abbrev pub gathered_reads : ℕ → List Reading → List ℕ
gathered_reads = gathered_by (λ (reading : Reading). reading.slot.0) (λ (reading : Reading). reading.reader)

-- whether all slots that a command uses have a use
abbrev pub are_covered : (ℕ → Option SlotUse) → Arrival → Bool
are_covered used arrival =
    list_all (λ (slot : Slot). is_some (used slot.0)) (reads_of arrival.command.kind)
    && list_all (λ (slot : Slot). is_some (used slot.0)) (writes_of arrival.command.kind)

-- how many waits and readings commands have
abbrev pub link_count : List Arrival → ℕ
link_count arrived = sum_by (λ (a : Arrival). length a.waits.items + length a.reads.items) arrived

-- readers without those in front that don't wait any more
abbrev pub without_front : (ℕ → Option Waiting) → List ℕ → List ℕ
without_front kept [] = []
without_front kept (t ∷ rest) = if is_some (kept t) then t ∷ rest else without_front kept rest

-- a slot's use with these readers left
abbrev pub with_readers_left : (ℕ → Option Waiting) → SlotUse → SlotUse
with_readers_left kept u = record u { readers = without_front kept u.readers }

-- a use that nobody has
abbrev pub no_use : SlotUse
no_use = record { writer = None; readers = [] }

-- what a slot has once it is to be used
abbrev pub use_at : (ℕ → Option Waiting) → Option SlotUse → Option SlotUse
use_at kept None = Some no_use
use_at kept (Some u) = Some (with_readers_left kept u)

-- The uses of slots are those that there were, and maybe some that nobody has, or without readers that don't wait.
pub record HaveSameUses (kept : ℕ → Option Waiting) (old new : ℕ → Option SlotUse) : Type 0 where
  pub written : (ticket slot : ℕ) → is_writer ticket (new slot) ≡ is_writer ticket (old slot)
  pub read : (ticket slot : ℕ) → is_some (kept ticket) ≡ true
      → is_reader ticket (new slot) ≡ is_reader ticket (old slot)
  pub fewer : (ticket slot : ℕ) → is_reader ticket (old slot) ≡ false → is_reader ticket (new slot) ≡ false
  pub stays : (slot : ℕ) → is_some (old slot) ≡ true → is_some (new slot) ≡ true
  pub brief : (most : ℕ) → AreBrief old most → AreBrief new most

-- a command that joins, with so many waits and nobody behind it
abbrev pub kept_new : ℕ → Command → ℕ → Waiting
kept_new group command pending = record { group = group; command = command; pending = pending; followers = [] }
