-- What an edit does to a half: which entries it takes away, and which it puts in their place.
use Rattle.std.specs.Prelude.{ℕ, ◌+◌, ◌/◌, ◌%◌, ◌==◌, nat_le, Bool, true, false, not, ◌&&◌, if◌then◌else◌, List, [], ◌∷◌, ◌++◌, length, map}
use Rattle.std.specs.List.{filter, fold, insert, list_any}
use Rattle.nim_base.specs.declared.number.Object.{Object}
use Rattle.nim_base.specs.declared.number.Slot.{Slot}
use Rattle.nim_base.specs.declared.number.Worker.{Worker}
use Rattle.nim_command.specs.declared.edit.Edit.{Edit}
use Rattle.nim_command.specs.declared.edit.Edit.TheVariants.{Away, Here, Gone, Home}
use Rattle.nim_command.specs.declared.edit.Spec.{Spec}
use Rattle.nim_command.specs.declared.entry.Entry.{Entry}
use Rattle.nim_command.specs.declared.entry.EntryKind.{EntryKind}
use Rattle.nim_command.specs.declared.moved.FirstRead.{FirstRead}
use Rattle.nim_command.specs.Numbers.{entry_number, main_slot, offset_after, phase_of, scratch_slot, task_of}
use Rattle.nim_command.specs.Ruled.{entries_by_rule}

-- whether an object is among reads
abbrev pub is_read : List (Object × ℕ) → Object → Bool
is_read reads object = list_any (λ (r : Object × ℕ). r.0.0 == object.0) reads

-- Of reads behind others those of objects that weren't read before: each with its index, and whether the new owner has
-- what it needs. The mask's lowest bit is that of the first read.
abbrev pub first_reads : List (Object × ℕ) → ℕ → List (Object × ℕ) → List FirstRead
first_reads past mask [] = []
first_reads past mask (read ∷ reads) =
    let rest : List FirstRead = first_reads (past ++ read ∷ []) (mask / 2) reads in
    if is_read past read.0 then rest
    else record { index = length past; object = read.0; offset = read.1; there = mask % 2 == 1 } ∷ rest

-- an entry with no before set yet
abbrev pub entry_of : ℕ → EntryKind → Entry
entry_of number kind = record { id = number; kind = kind; before = [] }

-- at the home, what the new owner lacks is sent there
abbrev pub forward_send : ℕ → Worker → FirstRead → Entry
forward_send task to read =
    entry_of (entry_number task 2 read.index) (EntryKind.Send (main_slot read.object) to
    (entry_number task 3 read.index))

-- at the new owner, what a read needs is received into its scratch slot, or copied there
abbrev pub forward_receive : ℕ → FirstRead → Entry
forward_receive task read =
    entry_of (entry_number task 3 read.index)
    (if read.there then EntryKind.Copy (main_slot read.object) (scratch_slot read.object)
    else EntryKind.Receive (scratch_slot read.object) read.offset)

-- the scratch slot of an object, or its main slot
abbrev pub slot_for : Bool → Object → Slot
slot_for scratch object = if scratch then scratch_slot object else main_slot object

-- the slots of what is read
abbrev pub read_slots : Bool → List (Object × ℕ) → List Slot
read_slots scratch reads = map (λ (r : Object × ℕ). slot_for scratch r.0) reads

-- the slots of what is written
abbrev pub written_slots : Bool → List Object → List Slot
written_slots scratch objects = map (slot_for scratch) objects

-- the run, over scratch slots or over main slots
abbrev pub run_over : Bool → ℕ → Spec → Entry
run_over scratch task spec =
    entry_of (entry_number task 4 0) (EntryKind.Run spec.func spec.params (read_slots scratch spec.reads)
    (written_slots scratch spec.writes))

-- at the new owner, what the task wrote is sent to the home
abbrev pub return_sends : ℕ → Worker → ℕ → List Object → List Entry
return_sends task home index [] = []
return_sends task home index (object ∷ objects) =
    entry_of (entry_number task 5 index) (EntryKind.Send (scratch_slot object) home (entry_number task 6 index))
    ∷ return_sends task home (index + 1) objects

-- at the home, it is received into the main slots
abbrev pub return_receives : ℕ → ℕ → List Object → List Entry
return_receives task index [] = []
return_receives task index (object ∷ objects) =
    entry_of (entry_number task 6 index) (EntryKind.Receive (main_slot object) (offset_after task))
    ∷ return_receives task (index + 1) objects

-- the entries that an edit puts
abbrev pub put_by : Edit → List Entry
put_by (Away task to mask spec) =
    map (forward_send task to) (filter (λ (r : FirstRead). not r.there) (first_reads [] mask spec.reads))
    ++ return_receives task 0 spec.writes
put_by (Here task from mask spec) =
    map (forward_receive task) (first_reads [] mask spec.reads) ++ run_over true task spec
    ∷ return_sends task from 0 spec.writes
put_by (Gone task) = []
put_by (Home task spec) = run_over false task spec ∷ []

-- whether a number is that of a task's entry, of one of these phases
abbrev pub is_of_number : ℕ → List ℕ → ℕ → Bool
is_of_number task phases number = (task_of number == task) && list_any (λ (phase : ℕ). phase_of number == phase) phases

-- Whether an edit takes an entry away: at the home what sent, ran and received there, at an owner what received, ran
-- and sent.
abbrev pub is_taken : Edit → Entry → Bool
is_taken (Away task to mask spec) entry = is_of_number task (2 ∷ 4 ∷ 6 ∷ []) entry.id
is_taken (Here task from mask spec) entry = is_of_number task (3 ∷ 4 ∷ 5 ∷ []) entry.id
is_taken (Gone task) entry = is_of_number task (3 ∷ 4 ∷ 5 ∷ []) entry.id
is_taken (Home task spec) entry = is_of_number task (2 ∷ 4 ∷ 6 ∷ []) entry.id

-- those that an edit doesn't take away
abbrev pub entries_kept : Edit → List Entry → List Entry
entries_kept edit entries = filter (λ (e : Entry). not (is_taken edit e)) entries

-- the place of the first entry of a greater number
abbrev pub place_for : List Entry → ℕ → ℕ
place_for [] number = 0
place_for (first ∷ rest) number = if nat_le first.id number then place_for rest number + 1 else 0

-- with one entry more, before the first of a greater number
abbrev pub with_entry : List Entry → Entry → List Entry
with_entry entries entry = insert entries (place_for entries entry.id) entry

-- the entries of a half after an edit, all before sets those of the rule
abbrev pub edited : Edit → List Entry → List Entry
edited edit entries = entries_by_rule [] (fold with_entry (entries_kept edit entries) (put_by edit))

-- after edits in order
abbrev pub edited_by : List Edit → List Entry → List Entry
edited_by edits entries = fold (λ (half : List Entry) (edit : Edit). edited edit half) entries edits
