-- Worked by hand, and computed: tasks of blocks on two and three workers that move, objects placed in turn.
use Rattle.std.proofs.Common.{◌≡◌, ℕ, List, [], ◌∷◌, map, refl, pos, None, Some}
use Rattle.std.specs.Prelude.{Bool, true, false}
use Rattle.std.specs.List.{range_with_len}
use Rattle.nim_base.specs.declared.number.Object.{Object}
use Rattle.nim_base.specs.declared.number.Slot.{Slot}
use Rattle.nim_base.specs.declared.number.Worker.{Worker}
use Rattle.nim_base.specs.declared.task.Func.TheVariants.{Add, Addc}
use Rattle.nim_base.specs.declared.task.Param.TheVariants.{Const}
use Rattle.nim_base.specs.declared.task.TaskForm.{TaskForm}
use Rattle.nim_command.specs.declared.edit.Edit.TheVariants.{Away, Here, Gone, Home}
use Rattle.nim_command.specs.declared.edit.Spec.{Spec}
use Rattle.nim_command.specs.declared.entry.Entry.{Entry}
use Rattle.nim_command.specs.declared.entry.EntryKind.{EntryKind}
use Rattle.nim_command.specs.declared.template.WorkerTemplate.{WorkerTemplate}
use Rattle.nim_place.specs.declared.placement.Placement.TheVariants.{Cyclic}
use Rattle.nim_place.specs.Versions.{Versions, after_commands, after_effect}
use Rattle.nim_template.specs.Built.{built}
use Rattle.nim_template.specs.Instance.{instance_of}
use Rattle.nim_edit.specs.declared.fault.EditRefused.TheVariants.{NoSuchTask, NotLive, SamePlace, TooMany}
use Rattle.nim_edit.specs.Moves.{edits_of, migrated}
use Rattle.nim_edit.specs.Refusals.{refusal_of}

abbrev slot : ℕ → Slot
slot n = record { 0 = n }

abbrev object : ℕ → Object
object n = record { 0 = n }

abbrev worker : ℕ → Worker
worker n = record { 0 = n }

abbrev adds : ℕ → ℕ → ℕ → TaskForm
adds first second result = record { func = Add; params = []; reads = object first ∷ object second ∷ []; writes = object result ∷ [] }

abbrev counts : ℕ → TaskForm
counts o = record { func = Addc; params = Const (pos 4) ∷ []; reads = object o ∷ []; writes = object o ∷ [] }

abbrev run_counts : ℕ → ℕ → List ℕ → Entry
run_counts id s before = record { id = id; kind = EntryKind.Run Addc (Const (pos 4) ∷ []) (slot s ∷ []) (slot s ∷ []); before = before }

abbrev run_adds : ℕ → ℕ → ℕ → ℕ → List ℕ → Entry
run_adds id first second result before =
    record { id = id; kind = EntryKind.Run Add [] (slot first ∷ slot second ∷ []) (slot result ∷ []); before = before }

abbrev sends : ℕ → ℕ → ℕ → ℕ → List ℕ → Entry
sends id s to entry before = record { id = id; kind = EntryKind.Send (slot s) (worker to) entry; before = before }

abbrev receives : ℕ → ℕ → ℕ → List ℕ → Entry
receives id s offset before = record { id = id; kind = EntryKind.Receive (slot s) offset; before = before }

abbrev copies : ℕ → ℕ → ℕ → List ℕ → Entry
copies id from to before = record { id = id; kind = EntryKind.Copy (slot from) (slot to); before = before }

-- the template of a block on so many objects, a flag for each worker
abbrev of_block : List Bool → ℕ → List TaskForm → WorkerTemplate
of_block live objects forms = built Cyclic objects live (record { block = 0; forms = forms })

-- the tasks of these numbers move to a worker
abbrev moved : WorkerTemplate → List ℕ → ℕ → WorkerTemplate
moved template [] to = template
moved template (task ∷ tasks) to = moved (migrated template task (worker to)) tasks to

abbrev two : List Bool
two = true ∷ true ∷ []

-- ---- two parts that count up by themselves

abbrev count_block : WorkerTemplate
count_block = of_block two 2 (counts 0 ∷ counts 1 ∷ [])

abbrev count_spec : Spec
count_spec = record { func = Addc; params = Const (pos 4) ∷ []; reads = (object 1, 0) ∷ []; writes = object 1 ∷ [] }

-- task 1 moves from its home to worker 0, which doesn't have what it reads
count_edits : edits_of count_block 1 (worker 0)
    ≡ (worker 1, Away 1 (worker 0) 0 count_spec) ∷ (worker 0, Here 1 (worker 1) 0 count_spec) ∷ []
count_edits = refl

count_halves : (migrated count_block 1 (worker 0)).halves
    ≡ (run_counts 32 0 [] ∷ receives 88 513 0 [] ∷ run_counts 96 513 (88 ∷ []) ∷ sends 104 513 1 112 (96 ∷ []) ∷ [])
    ∷ (sends 80 1 0 88 [] ∷ receives 112 1 2 (80 ∷ []) ∷ []) ∷ []
count_halves = refl

count_owners : (migrated count_block 1 (worker 0)).owners ≡ worker 0 ∷ worker 0 ∷ []
count_owners = refl

-- From a map in which each object is at its worker, what an instance at position 7 asks for leaves what the effect says.
abbrev count_map : Versions
count_map = record { workers = 2; objects = 2; held = Some 5 ∷ None ∷ None ∷ Some 6 ∷ []; latest = 5 ∷ 6 ∷ [] }

abbrev count_after : Versions
count_after = record { workers = 2; objects = 2; held = Some 8 ∷ None ∷ None ∷ Some 9 ∷ []; latest = 8 ∷ 9 ∷ [] }

count_effect : after_effect 7 count_map (migrated count_block 1 (worker 0)).effect ≡ count_after
count_effect = refl

count_left : after_commands count_map (instance_of (migrated count_block 1 (worker 0)) 7 [] count_map) ≡ count_after
count_left = refl

-- and back to its home
count_back : edits_of (migrated count_block 1 (worker 0)) 1 (worker 1) ≡ (worker 0, Gone 1) ∷ (worker 1, Home 1 count_spec) ∷ []
count_back = refl

count_as_built : (moved count_block (1 ∷ []) 0).built ≡ (migrated (migrated count_block 1 (worker 0)) 1 (worker 1)).halves
count_as_built = refl

count_refusals : map (λ (asked : ℕ × ℕ). refusal_of count_block asked.0 (worker asked.1) two)
    ((9, 7) ∷ (2, 0) ∷ (1, 7) ∷ (1, 2) ∷ (1, 1) ∷ (1, 0) ∷ [])
    ≡ Some NoSuchTask ∷ Some NoSuchTask ∷ Some NotLive ∷ Some NotLive ∷ Some SamePlace ∷ None ∷ []
count_refusals = refl

-- a worker that isn't live is told before it is told that it is the owner
count_lost : refusal_of count_block 1 (worker 1) (true ∷ false ∷ []) ≡ Some NotLive
count_lost = refl

-- of ten parts, five are to move to worker 0: four edits may wait at a worker
abbrev ten_block : WorkerTemplate
ten_block = of_block two 10 (map counts (range_with_len 0 10))

ten_taken : refusal_of (moved ten_block (1 ∷ 3 ∷ 5 ∷ []) 0) 7 (worker 0) two ≡ None
ten_taken = refl

ten_refused : refusal_of (moved ten_block (1 ∷ 3 ∷ 5 ∷ 7 ∷ []) 0) 9 (worker 0) two ≡ Some TooMany
ten_refused = refl

-- ---- each of three parts adds the next one to itself, in turn

abbrev ring_block : WorkerTemplate
ring_block = of_block two 3 (adds 0 1 0 ∷ adds 1 2 1 ∷ adds 2 0 2 ∷ [])

-- Worker 0 needs both reads of task 1 at entry and has them still: nothing is sent on.
ring_halves : (migrated ring_block 1 (worker 0)).halves
    ≡ (run_adds 32 0 1 0 [] ∷ copies 88 1 513 [] ∷ copies 89 2 514 [] ∷ run_adds 96 513 514 513 (88 ∷ 89 ∷ []) ∷ sends 104 513 1 112 (96 ∷ [])
    ∷ run_adds 160 2 0 2 (32 ∷ 89 ∷ []) ∷ receives 65536 1 2 (32 ∷ 88 ∷ []) ∷ sends 65537 2 1 65537 (160 ∷ []) ∷ [])
    ∷ (receives 112 1 2 [] ∷ sends 65536 1 0 65536 (112 ∷ []) ∷ receives 65537 2 3 [] ∷ []) ∷ []
ring_halves = refl

-- Worker 1 has a[2] as at entry, and not what task 0 writes into a[0].
ring_away : edits_of ring_block 2 (worker 1)
    ≡ (let spec : Spec = record { func = Add; params = []; reads = (object 2, 0) ∷ (object 0, 1) ∷ []; writes = object 2 ∷ [] } in
    (worker 0, Away 2 (worker 1) 1 spec) ∷ (worker 1, Here 2 (worker 0) 1 spec) ∷ [])
ring_away = refl

-- what an earlier task of the block writes is there, at its home, and nothing else
abbrev sum_block : WorkerTemplate
sum_block = of_block two 3 (counts 0 ∷ counts 1 ∷ adds 1 0 2 ∷ [])

sum_edits : edits_of sum_block 2 (worker 1)
    ≡ (let spec : Spec = record { func = Add; params = []; reads = (object 1, 2) ∷ (object 0, 1) ∷ []; writes = object 2 ∷ [] } in
    (worker 0, Away 2 (worker 1) 1 spec) ∷ (worker 1, Here 2 (worker 0) 1 spec) ∷ [])
sum_edits = refl

-- ---- three workers

abbrev three_block : WorkerTemplate
three_block = of_block (true ∷ true ∷ true ∷ []) 3 (counts 0 ∷ counts 1 ∷ counts 2 ∷ [])

-- from its home 1 to worker 2, and from there to worker 0
three_edits : (migrated (migrated three_block 1 (worker 2)) 1 (worker 0)).unsent
    ≡ (worker 1, Away 1 (worker 2) 0 count_spec) ∷ (worker 2, Here 1 (worker 1) 0 count_spec)
    ∷ (worker 1, Away 1 (worker 0) 0 count_spec) ∷ (worker 2, Gone 1) ∷ (worker 0, Here 1 (worker 1) 0 count_spec) ∷ []
three_edits = refl

three_halves : (migrated (migrated three_block 1 (worker 2)) 1 (worker 0)).halves ≡ (migrated three_block 1 (worker 0)).halves
three_halves = refl
