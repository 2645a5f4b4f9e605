-- Worked by hand, and computed: templates of blocks on two workers, objects placed in turn.
use Rattle.std.proofs.Common.{◌≡◌, ℕ, List, [], ◌∷◌, map, refl, pos}
use Rattle.std.specs.Prelude.{true}
use Rattle.nim_base.specs.declared.number.Object.{Object}
use Rattle.nim_base.specs.declared.number.Slot.{Slot}
use Rattle.nim_base.specs.declared.number.Worker.{Worker}
use Rattle.nim_base.specs.declared.task.Func.TheVariants.{Add, Addc, Total}
use Rattle.nim_base.specs.declared.task.Param.TheVariants.{Const}
use Rattle.nim_base.specs.declared.task.TaskForm.{TaskForm}
use Rattle.nim_command.specs.declared.entry.Entry.{Entry}
use Rattle.nim_command.specs.declared.entry.EntryKind.{EntryKind}
use Rattle.nim_command.specs.declared.template.WorkerTemplate.{WorkerTemplate}
use Rattle.nim_place.specs.declared.placement.Placement.TheVariants.{Cyclic}
use Rattle.nim_template.specs.Built.{built}

abbrev slot : ℕ → Slot
slot n = record { 0 = n }

abbrev object : ℕ → Object
object n = record { 0 = n }

abbrev worker : ℕ → Worker
worker n = record { 0 = n }

-- an object at a worker
abbrev at : ℕ → ℕ → Worker × Object
at w o = (worker w, object o)

-- what a worker's main slot has in the end
abbrev ends : ℕ → ℕ → ℕ → Worker × Slot × ℕ
ends w s offset = (worker w, slot s, offset)

abbrev adds : ℕ → ℕ → ℕ → TaskForm
adds first second result = record { func = Add; params = []; reads = object first ∷ object second ∷ []; writes = object result ∷ [] }

abbrev counts : ℕ → ℕ → TaskForm
counts by o = record { func = Addc; params = Const (pos by) ∷ []; reads = object o ∷ []; writes = object o ∷ [] }

abbrev totals : List ℕ → ℕ → TaskForm
totals from result = record { func = Total; params = []; reads = map object from; writes = object result ∷ [] }

abbrev run_counts : ℕ → ℕ → ℕ → Entry
run_counts id by o = record { id = id; kind = EntryKind.Run Addc (Const (pos by) ∷ []) (slot o ∷ []) (slot o ∷ []); before = [] }

abbrev run_adds : ℕ → ℕ → ℕ → ℕ → List ℕ → Entry
run_adds id first second result before = record { id = id; kind = EntryKind.Run Add [] (slot first ∷ slot second ∷ []) (slot result ∷ []); before = before }

abbrev run_totals : ℕ → List ℕ → ℕ → List ℕ → Entry
run_totals id from result before = record { id = id; kind = EntryKind.Run Total [] (map slot from) (slot result ∷ []); before = before }

abbrev sends : ℕ → ℕ → ℕ → ℕ → List ℕ → Entry
sends id o to entry before = record { id = id; kind = EntryKind.Send (slot o) (worker to) entry; before = before }

abbrev receives : ℕ → ℕ → ℕ → List ℕ → Entry
receives id o offset before = record { id = id; kind = EntryKind.Receive (slot o) offset; before = before }

-- the template of a block on two workers
abbrev of_block : ℕ → List TaskForm → WorkerTemplate
of_block objects forms = built Cyclic objects (true ∷ true ∷ []) (record { block = 0; forms = forms })

abbrev of_parts : List TaskForm → List (List Entry) → List (Worker × Object) → List (Worker × Slot × ℕ) → List Worker → WorkerTemplate
of_parts forms halves preconditions effect homes = record {
  block = 0;
  forms = forms;
  halves = halves;
  built = halves;
  preconditions = preconditions;
  effect = effect;
  homes = homes;
  owners = homes;
  unsent = [];
}

-- each part counts up by itself: one Run at each worker
abbrev count_forms : List TaskForm
count_forms = counts 4 0 ∷ counts 4 1 ∷ []

count_block : of_block 2 count_forms
    ≡ of_parts count_forms ((run_counts 32 4 0 ∷ []) ∷ (run_counts 96 4 1 ∷ []) ∷ []) (at 0 0 ∷ at 1 1 ∷ []) (ends 0 0 1 ∷ ends 1 1 2 ∷ [])
    (worker 0 ∷ worker 1 ∷ [])
count_block = refl

-- two parts are read at both workers, and two others written: both reads are needed at both, and nothing is sent
abbrev sum_forms : List TaskForm
sum_forms = adds 0 1 2 ∷ adds 1 0 3 ∷ []

sum_block : of_block 4 sum_forms
    ≡ of_parts sum_forms ((run_adds 32 0 1 2 [] ∷ []) ∷ (run_adds 96 1 0 3 [] ∷ []) ∷ []) (at 0 0 ∷ at 0 1 ∷ at 1 0 ∷ at 1 1 ∷ [])
    (ends 0 2 1 ∷ ends 1 3 2 ∷ [])
    (worker 0 ∷ worker 1 ∷ [])
sum_block = refl

-- each part adds the next one to itself, in turn: behind the last task each worker gets again what it reads first
abbrev ring_forms : List TaskForm
ring_forms = adds 0 1 0 ∷ adds 1 2 1 ∷ adds 2 0 2 ∷ []

ring_block : of_block 3 ring_forms
    ≡ of_parts ring_forms
    ((run_adds 32 0 1 0 [] ∷ run_adds 160 2 0 2 (32 ∷ []) ∷ receives 65536 1 2 (32 ∷ []) ∷ sends 65537 2 1 65537 (160 ∷ []) ∷ [])
    ∷ (run_adds 96 1 2 1 [] ∷ sends 65536 1 0 65536 (96 ∷ []) ∷ receives 65537 2 3 (96 ∷ []) ∷ []) ∷ [])
    (at 0 0 ∷ at 0 1 ∷ at 0 2 ∷ at 1 1 ∷ at 1 2 ∷ [])
    (ends 0 0 1 ∷ ends 0 1 2 ∷ ends 0 2 3 ∷ ends 1 1 2 ∷ ends 1 2 3 ∷ [])
    (worker 0 ∷ worker 1 ∷ worker 0 ∷ [])
ring_block = refl

-- eight parts are summed up each by itself, and then all of them at one worker: the other one sends its four
abbrev norm_forms : List TaskForm
norm_forms =
    totals (0 ∷ []) 16 ∷ totals (1 ∷ []) 17 ∷ totals (2 ∷ []) 18 ∷ totals (3 ∷ []) 19
    ∷ totals (4 ∷ []) 20 ∷ totals (5 ∷ []) 21 ∷ totals (6 ∷ []) 22 ∷ totals (7 ∷ []) 23
    ∷ totals (16 ∷ 17 ∷ 18 ∷ 19 ∷ 20 ∷ 21 ∷ 22 ∷ 23 ∷ []) 24 ∷ []

norm_block : (of_block 42 norm_forms).halves
    ≡ (run_totals 32 (0 ∷ []) 16 [] ∷ run_totals 160 (2 ∷ []) 18 [] ∷ run_totals 288 (4 ∷ []) 20 [] ∷ run_totals 416 (6 ∷ []) 22 []
    ∷ receives 521 17 2 [] ∷ receives 523 19 4 [] ∷ receives 525 21 6 [] ∷ receives 527 23 8 []
    ∷ run_totals 544 (16 ∷ 17 ∷ 18 ∷ 19 ∷ 20 ∷ 21 ∷ 22 ∷ 23 ∷ []) 24 (32 ∷ 160 ∷ 288 ∷ 416 ∷ 521 ∷ 523 ∷ 525 ∷ 527 ∷ []) ∷ [])
    ∷ (run_totals 96 (1 ∷ []) 17 [] ∷ run_totals 224 (3 ∷ []) 19 [] ∷ run_totals 352 (5 ∷ []) 21 [] ∷ run_totals 480 (7 ∷ []) 23 []
    ∷ sends 513 17 0 521 (96 ∷ []) ∷ sends 515 19 0 523 (224 ∷ []) ∷ sends 517 21 0 525 (352 ∷ []) ∷ sends 519 23 0 527 (480 ∷ []) ∷ [])
    ∷ []
norm_block = refl

norm_effect : (of_block 42 norm_forms).effect
    ≡ ends 0 16 1 ∷ ends 0 17 2 ∷ ends 0 18 3 ∷ ends 0 19 4 ∷ ends 0 20 5 ∷ ends 0 21 6 ∷ ends 0 22 7 ∷ ends 0 23 8 ∷ ends 0 24 9
    ∷ ends 1 17 2 ∷ ends 1 19 4 ∷ ends 1 21 6 ∷ ends 1 23 8 ∷ []
norm_effect = refl
