-- What main slots hold while the commands of an instance as built run by rank: what the last entry so far left, or what they
-- held at first.
use Rattle.std.proofs.Common.{◌≡◌, ℕ, ◌≤◌, ◌<◌, Bool, true, false, List, [], ◌∷◌, ◌++◌, map, refl, ap, ap₂, sym, ◌∙◌, arith}
use Rattle.std.proofs.Common.{Option, None, Some}
use Rattle.std.specs.Prelude.{◌==◌, ◌||◌, nat_le, nat_lt, not, if◌then◌else◌, ℤ}
use Rattle.std.specs.List.{filter, fold}
use Rattle.std.proofs.lemmas.Bool.{eq-eqb, eqb-false, eqb-true, leb-false, leb-true, ltb-false, ltb-true, ne_eqb}
use Rattle.std.proofs.lemmas.List.Elements.{filter-append}
use Rattle.nim_base.specs.declared.number.Object.{Object}
use Rattle.nim_base.specs.declared.number.Slot.{Slot}
use Rattle.nim_base.specs.declared.number.Worker.{Worker}
use Rattle.nim_command.specs.declared.command.Command.{Command}
use Rattle.nim_command.specs.declared.command.Kind.{Kind}
use Rattle.nim_command.specs.declared.command.Kind.TheVariants.{Create, Load, Send, Receive, Copy, Run, Fetch}
use Rattle.nim_command.specs.declared.entry.Entry.{Entry}
use Rattle.nim_command.specs.declared.entry.EntryKind.{EntryKind}
use Rattle.nim_command.specs.Expansion.{version_at}
use Rattle.nim_command.specs.Holds.{Content, content_at, left_by, put_at, version_after}
use Rattle.nim_command.specs.Numbers.{counted_from, offset_after, task_of}
use Rattle.nim_command.specs.Slots.{is_among, object_of}
use Rattle.nim_job.specs.declared.job.Job.{Job}
use Rattle.nim_place.specs.Sound.{AreFound, IsFound, Plane, sent_to, step_of, plane_left}
use Rattle.nim_place.specs.Stands.{commands_for}
use Rattle.nim_place.specs.Versions.{puts_of, version_of}
use Rattle.nim_place.proofs.History.{one_left}
use Rattle.nim_template.specs.Tasks.{without_before}
use Rattle.nim_template.specs.Written.{offset_left}
use Rattle.nim_edit.proofs.Between.{after_append, after_entries, cut_at, onward, under}
use Rattle.nim_edit.proofs.Cells.{Ascend}
use Rattle.nim_edit.proofs.InOrder.{AreOfHalf, bare_command}
use Rattle.nim_edit.proofs.Leaves.{same_version}
use Rattle.nim_edit.proofs.Listed.{IsCopyOf}
use Rattle.nim_edit.proofs.Puts.{task_is}
use Rattle.nim_edit.proofs.SamePlanes.{AreCopies, at_slots, same_worker_slots}

-- ---- commands

-- a Send, a Receive or a Run
abbrev pub IsPlain : Kind → Type 0
IsPlain (Send slot peer entry) = Unit {0}
IsPlain (Receive slot version) = Unit {0}
IsPlain (Run position func params reads writes) = Unit {0}
IsPlain (Create slot iota first) = ⊥
IsPlain (Load slot version value) = ⊥
IsPlain (Copy from to) = ⊥
IsPlain (Fetch slot ticket) = ⊥

abbrev pub ArePlain : List (Worker × Command) → Type 0
ArePlain [] = Unit {0}
ArePlain (c ∷ cs) = IsPlain c.1.kind × ArePlain cs

copy_plain : (number : ℕ) (kind : Kind) → IsCopyOf number kind → IsPlain kind
copy_plain number (Send slot peer entry) copy = tt
copy_plain number (Receive slot version) copy = tt
copy_plain number (Run position func params reads writes) copy = absurd copy
copy_plain number (Create slot iota first) copy = absurd copy
copy_plain number (Load slot version value) copy = absurd copy
copy_plain number (Copy from to) copy = absurd copy
copy_plain number (Fetch slot ticket) copy = absurd copy

pub copies_plain : (cs : List (Worker × Command)) → AreCopies cs → ArePlain cs
copies_plain [] are = tt
copies_plain (c ∷ cs) are = (copy_plain c.1.id c.1.kind are.0, copies_plain cs are.2)

-- what a slot has behind a command of its worker
abbrev left_slot : Slot → Content → Kind → Content
left_slot slot before kind = if is_among (puts_of kind) slot then content_at slot (version_of kind) else before

abbrev slot_after : Slot → Content → List Command → Content
slot_after slot before commands = fold (λ (content : Content) (c : Command). left_slot slot content c.kind) before commands

after_bare : (slot : Slot) (before : Content) (commands : List Command) → slot_after slot before (map without_before commands) ≡ slot_after slot before commands
after_bare slot before [] = refl
after_bare slot before (c ∷ commands) = after_bare slot (left_slot slot before c.kind) commands

-- one command
one_slot : (job : Job) (plane : Plane) (worker : Worker) (number : ℕ) (kind : Kind) → IsPlain kind → IsFound job plane worker number kind
    → (other : Worker) (slot : Slot) (b : Bool) → (other.0 == worker.0) ≡ b
    → (step_of worker number kind plane).slots other slot ≡ (if b then left_slot slot (plane.slots other slot) kind else plane.slots other slot)
one_slot job plane worker number (Send at peer entry) plain found other slot true here = refl
one_slot job plane worker number (Send at peer entry) plain found other slot false here = refl
one_slot job plane worker number (Receive at version) plain found other slot true here =
    at_slots worker other (put_at at (sent_to plane.frames worker number) (plane.slots worker)) plane slot true here
    ∙ ap₂ (λ (content rest : Content). if slot.0 == at.0 then content else rest) found.1 (sym (same_worker_slots plane worker other slot here))
    ∙ one_left at slot version (plane.slots other slot) (slot.0 == at.0) (at.0 == slot.0) refl refl
one_slot job plane worker number (Receive at version) plain found other slot false here =
    at_slots worker other (put_at at (sent_to plane.frames worker number) (plane.slots worker)) plane slot false here
one_slot job plane worker number (Run position func params reads writes) plain found other slot true here =
    at_slots worker other (left_by (Run position func params reads writes) (plane.slots worker)) plane slot true here
    ∙ ap (λ (rest : Content). if is_among writes slot then content_at slot (version_after position) else rest)
    (sym (same_worker_slots plane worker other slot here))
one_slot job plane worker number (Run position func params reads writes) plain found other slot false here =
    at_slots worker other (left_by (Run position func params reads writes) (plane.slots worker)) plane slot false here
one_slot job plane worker number (Create at iota first) plain found other slot b here = absurd plain
one_slot job plane worker number (Load at version value) plain found other slot b here = absurd plain
one_slot job plane worker number (Copy from to) plain found other slot b here = absurd plain
one_slot job plane worker number (Fetch at ticket) plain found other slot b here = absurd plain

-- either way round
pub turned : (a b : ℕ) (c : Bool) → (a == b) ≡ c → (b == a) ≡ c
turned a b true is = eq-eqb b a (sym (eqb-true a b is))
turned a b false is = ne_eqb b a (λ same. eqb-false a b is (sym same))

-- a slot is left by the commands of its worker
pub walked_slots : (job : Job) (plane : Plane) (cs : List (Worker × Command)) → ArePlain cs → AreFound job plane cs → (worker : Worker) (slot : Slot)
    → (plane_left plane cs).slots worker slot ≡ slot_after slot (plane.slots worker slot) (commands_for worker cs)
walked_slots job plane [] plain found worker slot = refl
walked_slots job plane (c ∷ cs) plain found worker slot =
    walked_slots job (step_of c.0 c.1.id c.1.kind plane) cs plain.1 found.1 worker slot
    ∙ chosen (c.0.0 == worker.0) refl where
      others : List (Worker × Command)
      others = filter (λ (d : Worker × Command). d.0.0 == worker.0) cs

      only : List (Worker × Command) → List Command
      only ds = map (λ (d : Worker × Command). d.1) ds

      chosen : (b : Bool) → (c.0.0 == worker.0) ≡ b
          → slot_after slot ((step_of c.0 c.1.id c.1.kind plane).slots worker slot) (commands_for worker cs)
          ≡ slot_after slot (plane.slots worker slot) (only (if c.0.0 == worker.0 then c ∷ others else others))
      chosen true here =
          ap (λ (content : Content). slot_after slot content (commands_for worker cs))
          (one_slot job plane c.0 c.1.id c.1.kind plain.0 found.0 worker slot true (turned c.0.0 worker.0 true here))
          ∙ sym (ap (λ (b : Bool). slot_after slot (plane.slots worker slot) (only (if b then c ∷ others else others))) here)
      chosen false here =
          ap (λ (content : Content). slot_after slot content (commands_for worker cs))
          (one_slot job plane c.0 c.1.id c.1.kind plain.0 found.0 worker slot false (turned c.0.0 worker.0 false here))
          ∙ sym (ap (λ (b : Bool). slot_after slot (plane.slots worker slot) (only (if b then c ∷ others else others))) here)

-- ---- entries

-- what a slot has whose last content has this offset, if an entry wrote it
abbrev pub held_by : (Object → ℕ) → ℕ → Content → Slot → Option ℕ → Content
held_by before base first slot None = first
held_by before base first slot (Some offset) = content_at slot (version_at base (before (object_of slot)) offset)

-- each is of one of 1,024 tasks
abbrev pub AreOfTasks : List Entry → Type 0
AreOfTasks [] = Unit {0}
AreOfTasks (e ∷ es) = (task_of e.id < 1024) × AreOfTasks es

entry_slot : (before : Object → ℕ) (base : ℕ) (args : List ℤ) (first : Content) (slot : Slot) (last : Option ℕ) (id : ℕ) (kind : EntryKind) (waits : List ℕ)
    → task_of id < 1024
    → left_slot slot (held_by before base first slot last) (bare_command before base args (record { id = id; kind = kind; before = waits })).kind
    ≡ held_by before base first slot (offset_left slot last id kind)
entry_slot before base args first slot last id (EntryKind.Send at peer entry) waits few = refl
entry_slot before base args first slot last id (EntryKind.Copy from to) waits few = refl
entry_slot before base args first slot last id (EntryKind.Receive at offset) waits few = either (at.0 == slot.0) refl where
  either : (b : Bool) → (at.0 == slot.0) ≡ b
      → (if b || false then content_at slot (version_at base (before (object_of at)) offset) else held_by before base first slot last)
      ≡ held_by before base first slot (if b then Some offset else last)
  either true same = ap (λ (n : ℕ). content_at slot (version_at base (before (object_of (record { 0 = n }))) offset)) (eqb-true at.0 slot.0 same)
  either false apart = refl
entry_slot before base args first slot last id (EntryKind.Run func params reads writes) waits few = either (is_among writes slot) where
  version : version_after (counted_from base (task_of id)) ≡ version_at base (before (object_of slot)) (offset_after (task_of id))
  version =
      sym (same_version base (before (object_of slot)) (task_of id) few
      ∙ ap (λ (t : ℕ). version_after (counted_from base t)) (task_is (task_of id) 4 0 few (omega arith) (omega arith)))

  either : (b : Bool)
      → (if b then content_at slot (version_after (counted_from base (task_of id))) else held_by before base first slot last)
      ≡ held_by before base first slot (if b then Some (offset_after (task_of id)) else last)
  either true = ap (content_at slot) version
  either false = refl

pub entries_slot : (before : Object → ℕ) (base : ℕ) (args : List ℤ) (first : Content) (slot : Slot) (last : Option ℕ) (es : List Entry) → AreOfTasks es
    → slot_after slot (held_by before base first slot last) (map (bare_command before base args) es)
    ≡ held_by before base first slot (after_entries (offset_left slot) last es)
entries_slot before base args first slot last [] few = refl
entries_slot before base args first slot last (e ∷ es) few =
    ap (λ (content : Content). slot_after slot content (map (bare_command before base args) es))
    (entry_slot before base args first slot last e.id e.kind e.before few.0)
    ∙ entries_slot before base args first slot (offset_left slot last e.id e.kind) es few.1

-- ---- so far

-- main slots hold what the entries so far left
abbrev pub IsSo : (Object → ℕ) → ℕ → (Worker → Slot → Content) → (Worker → List Entry) → Plane → Type 0
IsSo before base slots so_far plane =
    (worker : Worker) (slot : Slot) → slot.0 < 512
    → plane.slots worker slot ≡ held_by before base (slots worker slot) slot (after_entries (offset_left slot) None (so_far worker))

-- commands that are, worker by worker, those of more entries
pub still_so : (job : Job) (before : Object → ℕ) (base : ℕ) (args : List ℤ) (slots : Worker → Slot → Content) (so_far more : Worker → List Entry)
    (plane : Plane) (cs : List (Worker × Command)) → ArePlain cs → AreFound job plane cs
    → ((worker : Worker) → AreOfHalf before base args worker cs (more worker)) → ((worker : Worker) → AreOfTasks (more worker))
    → IsSo before base slots so_far plane → IsSo before base slots (λ worker. so_far worker ++ more worker) (plane_left plane cs)
still_so job before base args slots so_far more plane cs plain found are few so worker slot main =
    walked_slots job plane cs plain found worker slot
    ∙ sym (after_bare slot (plane.slots worker slot) (commands_for worker cs))
    ∙ ap₂ (λ (content : Content) (ds : List Command). slot_after slot content ds) (so worker slot main) (are worker)
    ∙ entries_slot before base args (slots worker slot) slot (after_entries (offset_left slot) None (so_far worker)) (more worker) (few worker)
    ∙ ap (held_by before base (slots worker slot) slot) (sym (after_append (offset_left slot) None (so_far worker) (more worker)))

-- the same, where the entries leave the same
pub same_so : (before : Object → ℕ) (base : ℕ) (slots : Worker → Slot → Content) (first second : Worker → List Entry) (plane : Plane)
    → ((worker : Worker) (slot : Slot) → after_entries (offset_left slot) None (first worker) ≡ after_entries (offset_left slot) None (second worker))
    → IsSo before base slots first plane → IsSo before base slots second plane
same_so before base slots first second plane same so worker slot main =
    so worker slot main ∙ ap (held_by before base (slots worker slot) slot) (same worker slot)

-- ---- entries below a number

under_twice : (low high : ℕ) (entries : List Entry) → low ≤ high → under high (under low entries) ≡ under low entries
under_twice low high [] below = refl
under_twice low high (e ∷ entries) below = either (nat_le low e.id) refl (under_twice low high entries below) where
  either : (b : Bool) → nat_le low e.id ≡ b → under high (under low entries) ≡ under low entries
      → under high (if not b then e ∷ under low entries else under low entries) ≡ (if not b then e ∷ under low entries else under low entries)
  either true past rest = rest
  either false less rest =
      ap (λ (b : Bool). if not b then e ∷ under high (under low entries) else under high (under low entries)) (small (nat_le high e.id) refl)
      ∙ ap (λ (es : List Entry). e ∷ es) rest where
        small : (b : Bool) → nat_le high e.id ≡ b → b ≡ false
        small true more = absurd (omega (arith, below, leb-false low e.id less, leb-true high e.id more))
        small false more = refl

pub under_more : (low high from : ℕ) (entries : List Entry) → Ascend from entries → low ≤ high
    → under high entries ≡ under low entries ++ under high (onward low entries)
under_more low high from entries are below =
    ap (under high) (cut_at low from entries are)
    ∙ filter-append (λ (e : Entry). not (nat_le high e.id)) (under low entries) (onward low entries)
    ∙ ap (λ (es : List Entry). es ++ under high (onward low entries)) (under_twice low high entries below)

pub under_tasks : (high : ℕ) (entries : List Entry) → high ≤ 65536 → AreOfTasks (under high entries)
under_tasks high [] few = tt
under_tasks high (e ∷ entries) few = either (nat_le high e.id) refl (under_tasks high entries few) where
  either : (b : Bool) → nat_le high e.id ≡ b → AreOfTasks (under high entries)
      → AreOfTasks (if not b then e ∷ under high entries else under high entries)
  either true past rest = rest
  either false less rest = let below = leb-false high e.id less in (omega (arith, below, few), rest)

-- the test of a mask cuts at the same place
pub before_is : (number : ℕ) (entries : List Entry) → filter (λ (e : Entry). nat_lt e.id number) entries ≡ under number entries
before_is number [] = refl
before_is number (e ∷ entries) =
    ap₂ (λ (b : Bool) (es : List Entry). if b then e ∷ es else es) (either (nat_lt e.id number) refl (nat_le number e.id) refl) (before_is number entries) where
      either : (b : Bool) → nat_lt e.id number ≡ b → (c : Bool) → nat_le number e.id ≡ c → b ≡ not c
      either true less true past = absurd (omega (arith, ltb-true e.id number less, leb-true number e.id past))
      either true less false past = refl
      either false less true past = refl
      either false less false past = absurd (omega (arith, ltb-false e.id number less, leb-false number e.id past))
