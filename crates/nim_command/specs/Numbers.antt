-- The numbers of entries, and the slots of objects. A sum that would pass its type is the greatest number of the type.
use Rattle.std.specs.Prelude.{ℕ, ◌+◌, ◌-◌, ◌*◌, ◌/◌, ◌%◌, ◌^◌, min}
use Rattle.nim_base.specs.declared.number.Object.{Object}
use Rattle.nim_base.specs.declared.number.Slot.{Slot}

-- The number of a task's entry: of phase 0 a send, 1 a receive, 2 a forward send, 3 a forward receive or a copy,
-- 4 the run, 5 a return send, 6 a return receive; the index is that of the read or the write, 0 of the run.
abbrev pub entry_number : ℕ → ℕ → ℕ → ℕ
entry_number task phase index = min (64 * task + 8 * phase + index) (2 ^ 32 - 1)

-- the task that an entry is of
abbrev pub task_of : ℕ → ℕ
task_of number = number / 64

-- its phase
abbrev pub phase_of : ℕ → ℕ
phase_of number = number % 64 / 8

-- the number of a patch's copy, at both its ends
abbrev pub patch_number : ℕ → ℕ
patch_number copy = 131072 + copy

-- the version at an offset from the first position of a block, and the position of one of its tasks
abbrev pub counted_from : ℕ → ℕ → ℕ
counted_from base more = min (base + more) (2 ^ 64 - 1)

-- the offset of what a task of a block writes
abbrev pub offset_after : ℕ → ℕ
offset_after task = min (task + 1) (2 ^ 16 - 1)

-- the first of an object's two slots at a worker, which has the object's number
abbrev pub main_slot : Object → Slot
main_slot object = record { 0 = object.0 }

-- the second of an object's two slots at a worker, 512 behind the first
abbrev pub scratch_slot : Object → Slot
scratch_slot object = record { 0 = min (512 + object.0) (2 ^ 16 - 1) }
