-- Which of the versions that a task reads are at its new owner already, without what is sent on for it.
use Rattle.std.specs.Prelude.{ℕ, ◌+◌, ◌*◌, ◌==◌, nat_lt, Bool, ◌&&◌, if◌then◌else◌, List, [], ◌∷◌, slice_index_or}
use Rattle.std.specs.Prelude.{Option, None, Some}
use Rattle.std.specs.List.{filter, list_any}
use Rattle.nim_base.specs.declared.number.Object.{Object}
use Rattle.nim_base.specs.declared.number.Worker.{Worker}
use Rattle.nim_command.specs.declared.entry.Entry.{Entry}
use Rattle.nim_command.specs.declared.template.WorkerTemplate.{WorkerTemplate}
use Rattle.nim_command.specs.Numbers.{main_slot}
use Rattle.nim_template.specs.Written.{last_written}

-- the entries of a half before a number
abbrev pub entries_before : ℕ → List Entry → List Entry
entries_before number half = filter (λ (e : Entry). nat_lt e.id number) half

-- whether a worker's main slot of an object has to have the version at entry
abbrev pub is_needed : List (Worker × Object) → Worker → Object → Bool
is_needed preconditions worker object =
    list_any (λ (need : Worker × Object). (need.0.0 == worker.0) && (need.1.0 == object.0)) preconditions

-- whether a slot has an offset: that of its last writer, or where nothing wrote it, the one at entry, if this is needed
abbrev pub has_offset : Bool → ℕ → Option ℕ → Bool
has_offset needed offset None = (offset == 0) && needed
has_offset needed offset (Some last) = last == offset

-- Whether a worker's half as it was built leaves the version of a read in the object's main slot, before the task's
-- forward sends.
abbrev pub is_left : WorkerTemplate → ℕ → Worker → Object × ℕ → Bool
is_left template task worker read =
    let half : List Entry = slice_index_or template.built worker.0 [] in
    has_offset (is_needed template.preconditions worker read.0) read.1
    (last_written (entries_before (64 * task + 16) half) (main_slot read.0))

-- bits as a number, the first one lowest
abbrev pub mask_of : List Bool → ℕ
mask_of [] = 0
mask_of (bit ∷ bits) = 2 * mask_of bits + (if bit then 1 else 0)
