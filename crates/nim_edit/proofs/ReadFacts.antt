-- What a task reads at its turn: which version, what its home has, and what a bit of the mask says.
use Rattle.std.proofs.Common.{◌≡◌, ℕ, zero, suc, ◌+◌, ◌<◌, Bool, true, false, List, [], ◌∷◌, ◌++◌, length, map, take, refl, ap, sym, subst, ◌∙◌, arith}
use Rattle.std.proofs.Common.{Some}
use Rattle.std.specs.Prelude.{◌*◌, ◌/◌, ◌%◌, ◌^◌, ◌-◌, ◌==◌, ◌||◌, if◌then◌else◌, nat_lt, slice_get, slice_index_or, ℤ}
use Rattle.std.specs.List.{AllByRecursion, list_all}
use Rattle.std.proofs.lemmas.Bool.{eq-eqb, eqb-true, false≢true, ltb-true, ne_eqb}
use Rattle.nim_base.specs.declared.number.Object.{Object}
use Rattle.nim_base.specs.declared.number.Slot.{Slot}
use Rattle.nim_base.specs.declared.number.Worker.{Worker}
use Rattle.nim_base.specs.declared.task.Task.{Task}
use Rattle.nim_base.specs.declared.task.TaskForm.{TaskForm}
use Rattle.nim_command.specs.Edits.{first_reads, is_read, read_slots}
use Rattle.nim_command.specs.Expansion.{version_at}
use Rattle.nim_command.specs.Holds.{Content}
use Rattle.nim_command.specs.Numbers.{counted_from, main_slot}
use Rattle.nim_job.specs.declared.job.Job.{Job}
use Rattle.nim_job.specs.Objects.{objects_of}
use Rattle.nim_job.specs.Serial.{tasks_of}
use Rattle.nim_job.specs.Versions.{read_version}
use Rattle.nim_job.specs.Whole.{is_object_within}
use Rattle.nim_plan.specs.Legal.{is_version}
use Rattle.nim_place.specs.Schedule.{is_one_of}
use Rattle.nim_place.proofs.GoesOn.{read_next}
use Rattle.nim_place.proofs.Legal.{read_there}
use Rattle.nim_place.proofs.Places.{both_true}
use Rattle.nim_template.specs.Fits.{are_below}
use Rattle.nim_template.specs.Tasks.{task_with}
use Rattle.nim_template.proofs.InTurn.{AreTasksFrom}
use Rattle.nim_edit.specs.Masks.{mask_of}
use Rattle.nim_edit.specs.Moves.{no_task, offset_behind, read_behind}
use Rattle.nim_base.proofs.Lists.{same_first, same_rest}
use Rattle.nim_edit.proofs.Elsewhere.{version_content}
use Rattle.nim_edit.proofs.Puts.{FirstRead}

-- ---- first reads

half_mask : (m : ℕ) (b : Bool) → ((2 * m + (if b then 1 else 0)) / 2 ≡ m) × (((2 * m + (if b then 1 else 0)) % 2 == 1) ≡ b)
half_mask m true = (omega arith, eq-eqb ((2 * m + 1) % 2) 1 (omega arith))
half_mask m false = (omega arith, ne_eqb ((2 * m + 0) % 2) 1 (λ same. absurd (omega (arith, same))))

-- what is true of each read with its bit is true of each first read
pub firsts_by : (P : Object → ℕ → Bool → Type 0) (bit : Object × ℕ → Bool) (past reads : List (Object × ℕ))
    → AllByRecursion (λ (r : Object × ℕ). P r.0 r.1 (bit r)) reads
    → AllByRecursion (λ (f : FirstRead). P f.object f.offset f.there) (first_reads past (mask_of (map bit reads)) reads)
firsts_by P bit past [] all = tt
firsts_by P bit past (read ∷ reads) all =
    either (is_read past read.0)
    (subst (λ (n : ℕ). AllByRecursion (λ (f : FirstRead). P f.object f.offset f.there) (first_reads (past ++ read ∷ []) n reads))
    (sym (half_mask (mask_of (map bit reads)) (bit read)).0) (firsts_by P bit (past ++ read ∷ []) reads all.1)) where
      mask : ℕ
      mask = 2 * mask_of (map bit reads) + (if bit read then 1 else 0)

      rest : List FirstRead
      rest = first_reads (past ++ read ∷ []) (mask / 2) reads

      either : (b : Bool) → AllByRecursion (λ (f : FirstRead). P f.object f.offset f.there) rest
          → AllByRecursion (λ (f : FirstRead). P f.object f.offset f.there)
          (if b then rest else record { index = length past; object = read.0; offset = read.1; there = mask % 2 == 1 } ∷ rest)
      either true later = later
      either false later = (subst (P read.0 read.1) (sym (half_mask (mask_of (map bit reads)) (bit read)).1) all.0, later)

one_read : (past : List (Object × ℕ)) (read : Object × ℕ) (object : Object) (P : Object → Type 0)
    → ((o : Object) → is_read past o ≡ true → P o) → P read.0 → is_read (past ++ read ∷ []) object ≡ true → P object
one_read [] read object P each mine is = either (read.0.0 == object.0) refl is where
  either : (b : Bool) → (read.0.0 == object.0) ≡ b → (b || false) ≡ true → P object
  either true same one = subst (λ (n : ℕ). P (record { 0 = n })) (eqb-true read.0.0 object.0 same) mine
  either false apart one = absurd (false≢true one)
one_read (first ∷ past) read object P each mine is =
    either (first.0.0 == object.0) refl is
    (one_read past read object P (λ o one. each o (later o one)) mine) where
      later : (o : Object) → is_read past o ≡ true → is_read (first ∷ past) o ≡ true
      later o one = chosen (first.0.0 == o.0) where
        chosen : (b : Bool) → (b || is_read past o) ≡ true
        chosen true = refl
        chosen false = one

      either : (b : Bool) → (first.0.0 == object.0) ≡ b → (b || is_read (past ++ read ∷ []) object) ≡ true
          → (is_read (past ++ read ∷ []) object ≡ true → P object) → P object
      either true same one rest = each object (ap (λ (b : Bool). b || is_read past object) same)
      either false apart one rest = rest one

-- what is true of each first read's object is true of each read's
pub seen_all : (P : Object → Type 0) (past : List (Object × ℕ)) (mask : ℕ) (reads : List (Object × ℕ)) → ((o : Object) → is_read past o ≡ true → P o)
    → AllByRecursion (λ (f : FirstRead). P f.object) (first_reads past mask reads) → AllByRecursion (λ (r : Object × ℕ). P r.0) reads
seen_all P past mask [] each all = tt
seen_all P past mask (read ∷ reads) each all =
    either (is_read past read.0) refl all
    (λ mine later. seen_all P (past ++ read ∷ []) (mask / 2) reads (λ o is. one_read past read o P each mine is) later) where
      rest : List FirstRead
      rest = first_reads (past ++ read ∷ []) (mask / 2) reads

      either : (b : Bool) → is_read past read.0 ≡ b
          → AllByRecursion (λ (f : FirstRead). P f.object)
          (if b then rest else record { index = length past; object = read.0; offset = read.1; there = mask % 2 == 1 } ∷ rest)
          → (P read.0 → AllByRecursion (λ (f : FirstRead). P f.object) rest → AllByRecursion (λ (r : Object × ℕ). P r.0) reads)
          → AllByRecursion (λ (r : Object × ℕ). P r.0) (read ∷ reads)
      either true is later goes_on = (each read.0 is, goes_on (each read.0 is) later)
      either false is later goes_on = (later.0, goes_on later.0 later.1)

-- ---- versions

-- the tasks of the first forms
pub tasks_taken : (job : Job) (base : ℕ) (args : List ℤ) (number k : ℕ) (forms : List TaskForm) → AreTasksFrom job base args number forms
    → AreTasksFrom job base args number (take k forms)
tasks_taken job base args number zero forms are = tt
tasks_taken job base args number (suc k) [] are = tt
tasks_taken job base args number (suc k) (form ∷ forms) are = (are.0, tasks_taken job base args (number + 1) k forms are.1)

-- the task of a form
pub task_there : (job : Job) (base : ℕ) (args : List ℤ) (number i : ℕ) (forms : List TaskForm) → AreTasksFrom job base args number forms → i < length forms
    → slice_get (tasks_of job) (base + (number + i)) ≡ Some (task_with args (slice_index_or forms i no_task))
task_there job base args number i [] are within = absurd (omega (arith, within))
task_there job base args number zero (form ∷ forms) are within =
    subst (λ (n : ℕ). slice_get (tasks_of job) n ≡ Some (task_with args form)) (omega arith) are.0
task_there job base args number (suc i) (form ∷ forms) are within =
    subst (λ (n : ℕ). slice_get (tasks_of job) n ≡ Some (task_with args (slice_index_or forms i no_task))) (omega arith)
    (task_there job base args (number + 1) i forms are.1 (omega (arith, within)))

-- an offset behind tasks is that of the version that the next one reads
offset_goes : (job : Job) (base : ℕ) (args : List ℤ) (object : Object) (old number before : ℕ) (forms : List TaskForm)
    → AreTasksFrom job base args number forms → base + (number + length forms) < 2 ^ 64 - 1
    → version_at base old before ≡ read_version job (base + number) object
    → version_at base old (offset_behind before number object forms) ≡ read_version job (base + (number + length forms)) object
offset_goes job base args object old number before [] are room is = is ∙ ap (λ (n : ℕ). read_version job n object) (omega arith)
offset_goes job base args object old number before (form ∷ forms) are room is =
    offset_goes job base args object old (number + 1) (if is_one_of form.writes object then number + 1 else before) forms are.1 (omega (arith, room))
    (either (is_one_of form.writes object) refl)
    ∙ ap (λ (n : ℕ). read_version job n object) (omega arith) where
      next : read_version job (base + (number + 1)) object
          ≡ (if is_one_of form.writes object then base + number + 1 else read_version job (base + number) object)
      next =
          ap (λ (n : ℕ). read_version job n object) (omega arith)
          ∙ read_next job (base + number) (task_with args form) object are.0

      either : (b : Bool) → is_one_of form.writes object ≡ b
          → version_at base old (if b then number + 1 else before) ≡ read_version job (base + (number + 1)) object
      either true wrote =
          ap (λ (b : Bool). if b then old else counted_from base (number + 1)) (ne_eqb (number + 1) 0 (λ none. absurd (omega (arith, none))))
          ∙ omega (arith, room)
          ∙ sym (next ∙ ap (λ (b : Bool). if b then base + number + 1 else read_version job (base + number) object) wrote)
      either false none =
          is ∙ sym (next ∙ ap (λ (b : Bool). if b then base + number + 1 else read_version job (base + number) object) none)

-- of an object that is read behind so many tasks
pub offset_is : (job : Job) (base : ℕ) (args : List ℤ) (object : Object) (forms : List TaskForm) → AreTasksFrom job base args 0 forms
    → base + length forms < 2 ^ 64 - 1
    → version_at base (read_version job base object) (offset_behind 0 0 object forms) ≡ read_version job (base + length forms) object
offset_is job base args object forms are room =
    offset_goes job base args object (read_version job base object) 0 0 forms are (omega (arith, room))
    (ap (λ (n : ℕ). read_version job n object) (omega arith))
    ∙ ap (λ (n : ℕ). read_version job n object) (omega arith)

-- ---- reads

-- what a run finds at the home
pub reads_there : (version : Object → ℕ) (slots : Slot → Content) (past : List TaskForm) (objects : List Object)
    → map slots (read_slots false (map (read_behind past) objects)) ≡ map Some (map (λ (o : Object). (o, version o)) objects)
    → AllByRecursion (λ (r : Object × ℕ). slots (main_slot r.0) ≡ version_content version r.0) (map (read_behind past) objects)
reads_there version slots past [] same = tt
reads_there version slots past (object ∷ objects) same = (
  same_first (slots (main_slot object)) (version_content version object) (map slots (read_slots false (map (read_behind past) objects)))
      (map Some (map (λ (o : Object). (o, version o)) objects)) same,
  reads_there version slots past objects
      (same_rest (slots (main_slot object)) (version_content version object) (map slots (read_slots false (map (read_behind past) objects)))
      (map Some (map (λ (o : Object). (o, version o)) objects)) same),
)

-- what is known of each read, by its bit
pub reads_known : (job : Job) (before : Object → ℕ) (base : ℕ) (position : ℕ) (owner : Worker) (slots : Worker → Slot → Content) (past : List TaskForm)
    (bit : Object × ℕ → Bool) (objects : List Object) → are_below 512 objects ≡ true → list_all (is_object_within (objects_of job.vars)) objects ≡ true
    → ((object : Object) → version_at base (before object) (offset_behind 0 0 object past) ≡ read_version job position object)
    → ((object : Object) → object.0 < 512 → bit (read_behind past object) ≡ true
    → slots owner (main_slot object) ≡ version_content (read_version job position) object)
    → AllByRecursion (λ (r : Object × ℕ). (r.0.0 < 512) × (version_at base (before r.0) r.1 ≡ read_version job position r.0)
    × (is_version job r.0 (read_version job position r.0) ≡ true)
    × (bit r ≡ true → slots owner (main_slot r.0) ≡ version_content (read_version job position) r.0)) (map (read_behind past) objects)
reads_known job before base position owner slots past bit [] low all offsets left = tt
reads_known job before base position owner slots past bit (object ∷ objects) low all offsets left =
    let first = both_true (nat_lt object.0 512) (are_below 512 objects) low in
    let second = both_true (is_object_within (objects_of job.vars) object) (list_all (is_object_within (objects_of job.vars)) objects) all in
    let below : object.0 < 512 = ltb-true object.0 512 first.0 in (
      (
        below,
        offsets object,
        read_there job position object (ltb-true object.0 (objects_of job.vars) second.0),
        left object below,
      ),
      reads_known job before base position owner slots past bit objects first.1 second.1 offsets left,
    )

-- what is written
pub writes_low : (objects : List Object) → are_below 512 objects ≡ true → AllByRecursion (λ (o : Object). o.0 < 512) objects
writes_low [] low = tt
writes_low (object ∷ objects) low =
    let each = both_true (nat_lt object.0 512) (are_below 512 objects) low in (ltb-true object.0 512 each.0, writes_low objects each.1)

-- a version that a task makes is one of the job
made_version : (job : Job) (position : ℕ) (task : Task) (object : Object) → slice_get (tasks_of job) position ≡ Some task
    → object.0 < objects_of job.vars → is_one_of task.writes object ≡ true → is_version job object (position + 1) ≡ true
made_version job position task object there below wrote =
    ap (is_version job object) (sym (read_next job position task object there
    ∙ ap (λ (b : Bool). if b then position + 1 else read_version job position object) wrote))
    ∙ read_there job (position + 1) object below

pub writes_made : (job : Job) (position : ℕ) (task : Task) (objects : List Object) → slice_get (tasks_of job) position ≡ Some task
    → are_below 512 objects ≡ true → list_all (is_object_within (objects_of job.vars)) objects ≡ true
    → ((object : Object) → is_one_of objects object ≡ true → is_one_of task.writes object ≡ true)
    → AllByRecursion (λ (o : Object). (o.0 < 512) × (is_version job o (position + 1) ≡ true)) objects
writes_made job position task [] there low all within = tt
writes_made job position task (object ∷ objects) there low all within =
    let first = both_true (nat_lt object.0 512) (are_below 512 objects) low in
    let second = both_true (is_object_within (objects_of job.vars) object) (list_all (is_object_within (objects_of job.vars)) objects) all in (
      (
        ltb-true object.0 512 first.0,
        made_version job position task object there (ltb-true object.0 (objects_of job.vars) second.0)
            (within object (ap (λ (b : Bool). b || is_one_of objects object) (eq-eqb object.0 object.0 refl))),
      ),
      writes_made job position task objects there first.1 second.1 (λ o one. within o (or_later o one)),
    ) where
      or_later : (o : Object) → is_one_of objects o ≡ true → is_one_of (object ∷ objects) o ≡ true
      or_later o one = either (object.0 == o.0) where
        either : (b : Bool) → (b || is_one_of objects o) ≡ true
        either true = refl
        either false = one
