-- What is known of a task at its turn in the walk by rank: what its home has, and what is at its owner already.
use Rattle.std.proofs.Common.{◌≡◌, ℕ, ◌+◌, ◌<◌, Bool, true, false, List, [], ◌∷◌, ◌++◌, length, map, take, refl, ap, ap₂, sym, subst, ◌∙◌, arith}
use Rattle.std.proofs.Common.{Option, None, Some}
use Rattle.std.specs.Prelude.{◌*◌, ◌^◌, ◌-◌, ◌==◌, ◌&&◌, ◌||◌, if◌then◌else◌, nat_le, slice_get, slice_index_or, IsSomeAnd, ℤ}
use Rattle.std.specs.List.{AllByRecursion, list_all}
use Rattle.std.proofs.lemmas.Bool.{eqb-true, false≢true}
use Rattle.std.proofs.lemmas.List.{length-take}
use Rattle.nim_base.specs.declared.number.Object.{Object}
use Rattle.nim_base.specs.declared.number.Slot.{Slot}
use Rattle.nim_base.specs.declared.number.Worker.{Worker}
use Rattle.nim_base.specs.declared.task.Task.{Task}
use Rattle.nim_base.specs.declared.task.TaskForm.{TaskForm}
use Rattle.nim_command.specs.declared.command.Command.{Command}
use Rattle.nim_command.specs.declared.command.Kind.{Kind}
use Rattle.nim_command.specs.declared.edit.Spec.{Spec}
use Rattle.nim_command.specs.declared.entry.Entry.{Entry}
use Rattle.nim_command.specs.declared.template.WorkerTemplate.{WorkerTemplate}
use Rattle.nim_command.specs.Edits.{first_reads, read_slots, run_over, written_slots}
use Rattle.nim_command.specs.Expansion.{param_with, version_at}
use Rattle.nim_command.specs.Holds.{Content, content_at, version_after}
use Rattle.nim_command.specs.Numbers.{counted_from, entry_number, main_slot, task_of}
use Rattle.nim_command.specs.Slots.{is_among}
use Rattle.nim_job.specs.declared.job.Job.{Job}
use Rattle.nim_job.specs.Objects.{objects_of}
use Rattle.nim_job.specs.Serial.{tasks_of}
use Rattle.nim_job.specs.Versions.{read_version}
use Rattle.nim_job.specs.Whole.{is_object_within, is_whole_task, is_whole}
use Rattle.nim_job.proofs.FewTasks.{tasks_fit}
use Rattle.nim_plan.specs.Legal.{IsRunOf, is_version}
use Rattle.nim_place.specs.Sound.{AreFound, Plane, step_of, plane_left}
use Rattle.nim_place.proofs.Legal.{main_of, task_objects, task_passes}
use Rattle.nim_place.proofs.Places.{both_true}
use Rattle.nim_template.specs.Fits.{are_below, is_fit}
use Rattle.nim_template.specs.Tasks.{task_with}
use Rattle.nim_template.specs.Written.{offset_left}
use Rattle.nim_template.proofs.InTurn.{AreTasksFrom}
use Rattle.nim_template.proofs.Planes.{Below}
use Rattle.nim_edit.specs.Form.{IsInForm}
use Rattle.nim_edit.specs.Masks.{has_offset, is_left, is_needed}
use Rattle.nim_edit.specs.Moves.{mask_for, no_task, offset_behind, read_behind, spec_of, worker_at}
use Rattle.nim_edit.proofs.Between.{after_entries, under}
use Rattle.nim_edit.proofs.Built.{at_home}
use Rattle.nim_edit.proofs.Elsewhere.{IsFilled, IsKnown, version_content}
use Rattle.nim_edit.proofs.InOrder.{AreOfHalf, placed_command}
use Rattle.nim_edit.proofs.Listed.{AreCopied}
use Rattle.nim_edit.proofs.Migrations.{all_at, task_short}
use Rattle.nim_edit.proofs.Puts.{IsShort, first_indexed, task_is}
use Rattle.nim_edit.proofs.ReadFacts.{firsts_by, offset_is, reads_known, reads_there, seen_all, task_there, tasks_taken, writes_low, writes_made}
use Rattle.nim_edit.proofs.RunsElsewhere.{IsAway}
use Rattle.nim_edit.proofs.SamePlanes.{IsSamePlane, at_slots}
use Rattle.nim_edit.proofs.SlotsSo.{IsSo, before_is, held_by}

-- ---- the mask

needed_held : (before : Object → ℕ) (slots : Worker → Slot → Content) (preconditions : List (Worker × Object)) (worker : Worker) (object : Object)
    → AllByRecursion (λ (one : Worker × Object). slots one.0 (main_slot one.1) ≡ version_content before one.1) preconditions
    → is_needed preconditions worker object ≡ true → slots worker (main_slot object) ≡ version_content before object
needed_held before slots [] worker object held is = absurd (false≢true is)
needed_held before slots (need ∷ needs) worker object held is =
    either ((need.0.0 == worker.0) && (need.1.0 == object.0)) refl is (needed_held before slots needs worker object held.1) where
      either : (b : Bool) → ((need.0.0 == worker.0) && (need.1.0 == object.0)) ≡ b → (b || is_needed needs worker object) ≡ true
          → (is_needed needs worker object ≡ true → slots worker (main_slot object) ≡ version_content before object)
          → slots worker (main_slot object) ≡ version_content before object
      either true same one rest =
          let each = both_true (need.0.0 == worker.0) (need.1.0 == object.0) same in
          subst (λ (n : ℕ). slots (record { 0 = n }) (main_slot object) ≡ version_content before object) (eqb-true need.0.0 worker.0 each.0)
          (subst (λ (n : ℕ). (let o : Object = record { 0 = n } in slots need.0 (main_slot o) ≡ version_content before o))
          (eqb-true need.1.0 object.0 each.1) held.0)
      either false apart one rest = rest one

left_there : (before : Object → ℕ) (base : ℕ) (slots : Worker → Slot → Content) (preconditions : List (Worker × Object)) (worker : Worker) (object : Object)
    (offset version : ℕ) (last : Option ℕ) → object.0 < 512
    → AllByRecursion (λ (one : Worker × Object). slots one.0 (main_slot one.1) ≡ version_content before one.1) preconditions
    → version_at base (before object) offset ≡ version → has_offset (is_needed preconditions worker object) offset last ≡ true
    → held_by before base (slots worker (main_slot object)) (main_slot object) last ≡ Some (object, version)
left_there before base slots preconditions worker object offset version None low held is has =
    let each = both_true (offset == 0) (is_needed preconditions worker object) has in
    needed_held before slots preconditions worker object held each.1
    ∙ ap (λ (v : ℕ). Some (object, v)) (sym (ap (λ (n : ℕ). version_at base (before object) n) (eqb-true offset 0 each.0)) ∙ is)
left_there before base slots preconditions worker object offset version (Some last) low held is has =
    ap₂ (λ (o : Object) (v : ℕ). Some (o, v)) (main_of object low)
    (ap₂ (λ (o : Object) (n : ℕ). version_at base (before o) n) (main_of object low) (eqb-true last offset has) ∙ is)

-- ---- what the walk is over

-- a template as its halves were built
abbrev pub as_homed : WorkerTemplate → WorkerTemplate
as_homed template = record template { owners = template.homes; halves = template.built }

pub homed_form : (template : WorkerTemplate) → IsInForm template → IsInForm (as_homed template)
homed_form template form = record {
  many = form.many;
  fit = form.fit;
  few = form.few;
  homes = form.homes;
  owners = form.homes;
  placed = form.placed;
  owned = form.placed;
  ascend = form.ascend;
  ruled = form.ruled;
  runs = form.runs;
  halves = at_home template;
}

-- What is known of an instance.
pub record IsInstance (template : WorkerTemplate) (job : Job) (base : ℕ) (args : List ℤ) (slots : Worker → Slot → Content)
    (listed : List (Worker × Command)) : Type 0 where
  pub form : IsInForm template
  pub whole : is_whole job ≡ true
  pub tasks : AreTasksFrom job base args 0 template.forms
  pub room : base + 1024 < 2 ^ 64 - 1
  pub held : AllByRecursion (λ (one : Worker × Object). slots one.0 (main_slot one.1) ≡ version_content (read_version job base) one.1) template.preconditions
  pub copied : AreCopied (length template.forms) listed
  pub same : (worker : Worker) → AreOfHalf (read_version job base) base args worker listed (slice_index_or template.built worker.0 [])

-- where a task's turn has come, in the walk of what was built and in that of what is there now
pub record IsAtTask (template : WorkerTemplate) (job : Job) (base : ℕ) (slots : Worker → Slot → Content) (task : ℕ) (p q : Plane) : Type 0 where
  pub same : IsSamePlane p q
  pub below : Below (64 * task) q.frames
  pub so : IsSo (read_version job base) base slots (λ (worker : Worker). under (64 * task) (slice_index_or template.built worker.0 [])) p

-- ---- lists of commands

pub found_front : (job : Job) (plane : Plane) (xs ys : List (Worker × Command)) → AreFound job plane (xs ++ ys) → AreFound job plane xs
found_front job plane [] ys found = tt
found_front job plane (x ∷ xs) ys found = (found.0, found_front job (step_of x.0 x.1.id x.1.kind plane) xs ys found.1)

pub found_behind : (job : Job) (plane : Plane) (xs ys : List (Worker × Command)) → AreFound job plane (xs ++ ys) → AreFound job (plane_left plane xs) ys
found_behind job plane [] ys found = found
found_behind job plane (x ∷ xs) ys found = found_behind job (step_of x.0 x.1.id x.1.kind plane) xs ys found.1

-- ---- a run at its home

pub same_reads : (p q : Plane) (home : Worker) (reads : List (Object × ℕ)) → IsSamePlane p q → AllByRecursion (λ (r : Object × ℕ). r.0.0 < 512) reads
    → map (q.slots home) (read_slots false reads) ≡ map (p.slots home) (read_slots false reads)
same_reads p q home [] same low = refl
same_reads p q home (r ∷ reads) same low =
    ap₂ (λ (c : Content) (cs : List Content). c ∷ cs) (same.slots home (main_slot r.0) low.0) (same_reads p q home reads same low.1)

-- what a run leaves in both planes
pub run_same : (p q : Plane) (home : Worker) (id position : ℕ) (spec : Spec) (numbers : List ℤ) → IsSamePlane p q
    → IsSamePlane (step_of home id (Kind.Run position spec.func numbers (read_slots false spec.reads) (written_slots false spec.writes)) p)
    (step_of home id (Kind.Run position spec.func numbers (read_slots false spec.reads) (written_slots false spec.writes)) q)
run_same p q home id position spec numbers same = record {
  slots = λ worker slot main.
      at_slots home worker (left q) q slot (worker.0 == home.0) refl
      ∙ either worker slot main (worker.0 == home.0)
      ∙ sym (at_slots home worker (left p) p slot (worker.0 == home.0) refl);
  early = same.early;
} where
  left : Plane → Slot → Content
  left plane = λ slot. if is_among (written_slots false spec.writes) slot then content_at slot (version_after position) else plane.slots home slot

  either : (worker : Worker) (slot : Slot) → slot.0 < 512 → (b : Bool)
      → (if b then left q slot else q.slots worker slot) ≡ (if b then left p slot else p.slots worker slot)
  either worker slot main true =
      ap (λ (c : Content). if is_among (written_slots false spec.writes) slot then content_at slot (version_after position) else c) (same.slots home slot main)
  either worker slot main false = same.slots worker slot main

-- ---- one task

-- behind it
pub record IsTaskDone (template : WorkerTemplate) (job : Job) (base : ℕ) (slots : Worker → Slot → Content) (task : ℕ) (p q : Plane)
    (built now : List (Worker × Command)) : Type 0 where
  pub found : AreFound job q now
  pub next : IsAtTask template job base slots (task + 1) (plane_left p built) (plane_left q now)

objects_same : (past : List TaskForm) (objects : List Object) → map (λ (r : Object × ℕ). r.0) (map (read_behind past) objects) ≡ objects
objects_same past [] = refl
objects_same past (object ∷ objects) = ap (λ (os : List Object). object ∷ os) (objects_same past objects)

pub reads_low : (past : List TaskForm) (objects : List Object) → AllByRecursion (λ (o : Object). o.0 < 512) objects
    → AllByRecursion (λ (r : Object × ℕ). r.0.0 < 512) (map (read_behind past) objects)
reads_low past [] low = tt
reads_low past (object ∷ objects) low = (low.0, reads_low past objects low.1)

same_held : (p q : Plane) (home : Worker) (version : Object → ℕ) (reads : List (Object × ℕ)) → IsSamePlane p q
    → AllByRecursion (λ (r : Object × ℕ). r.0.0 < 512) reads
    → AllByRecursion (λ (r : Object × ℕ). p.slots home (main_slot r.0) ≡ version_content version r.0) reads
    → AllByRecursion (λ (r : Object × ℕ). q.slots home (main_slot r.0) ≡ version_content version r.0) reads
same_held p q home version [] same low held = tt
same_held p q home version (r ∷ reads) same low held =
    (same.slots home (main_slot r.0) low.0 ∙ held.0, same_held p q home version reads same low.1 held.1)

-- a form that fits names objects that have main slots
pub form_objects : (form : TaskForm) → is_fit 512 form ≡ true → (are_below 512 form.writes ≡ true) × (are_below 512 form.reads ≡ true)
form_objects form fit =
    let counts : Bool = nat_le 1 (length form.writes) && nat_le (length form.writes) 2 && nat_le (length form.reads) 8 in
    let both = both_true (counts && are_below 512 form.writes) (are_below 512 form.reads) fit in
    ((both_true counts (are_below 512 form.writes) both.0).1, both.1)

-- what is known of a task that is away, at its turn
pub is_away : (template : WorkerTemplate) (job : Job) (base : ℕ) (args : List ℤ) (slots : Worker → Slot → Content) (listed : List (Worker × Command))
    (task : ℕ) (p q : Plane) → IsInstance template job base args slots listed → task < length template.forms → IsSamePlane p q
    → IsSo (read_version job base) base slots (λ (worker : Worker). under (64 * task + 16) (slice_index_or template.built worker.0 [])) p
    → AreFound job p (map (placed_command (read_version job base) base args)
    ((worker_at template.homes task, run_over false task (spec_of template.forms task)) ∷ []))
    → IsAway job (read_version job base) base args task (worker_at template.homes task) (worker_at template.owners task) (spec_of template.forms task)
    (first_reads [] (mask_for template task (worker_at template.owners task)) (spec_of template.forms task).reads)
    (task_with args (slice_index_or template.forms task no_task)) q.slots
is_away template job base args slots listed task p q is within same so found = record {
  few = few;
  short = short;
  indexed = first_indexed [] (mask_for template task owner) 0 spec.reads refl (omega (arith, short.reads));
  there = there;
  func = refl;
  params = refl;
  reads = objects_same past form.reads;
  writes = refl;
  held = firsts_by (λ (o : Object) (offset : ℕ) (b : Bool). q.slots home (main_slot o) ≡ version_content version o) (is_left template task owner) [] spec.reads
      (same_held p q home version spec.reads same low (reads_there version (p.slots home) past form.reads ran.reads));
  known = firsts_by (λ (o : Object) (offset : ℕ) (b : Bool). IsKnown job before base version owner q.slots
      (record { index = 0; object = o; offset = offset; there = b })) (is_left template task owner) [] spec.reads
      (reads_known job before base position owner q.slots past (is_left template task owner) form.reads objects.1 fits.0 offsets left);
  seen = λ now filled.
      seen_all (IsFilled version owner now) [] (mask_for template task owner) spec.reads (λ o none. absurd (false≢true none)) filled;
  low = writes_low form.writes objects.0;
  made =
      subst (λ (v : ℕ). AllByRecursion (λ (o : Object). (o.0 < 512) × (is_version job o v ≡ true)) form.writes) (omega (arith, position_is, room, few))
      (writes_made job position work form.writes there objects.0 fits.1 (λ object one. one));
} where
  before : Object → ℕ
  before = read_version job base

  few : task < 1024
  few = omega (arith, within, is.form.many)

  room : base + 1024 < 2 ^ 64 - 1
  room = is.room

  position : ℕ
  position = counted_from base (task_of (entry_number task 4 0))

  position_is : position ≡ base + task
  position_is = (let at = task_is task 4 0 few (omega arith) (omega arith) in omega (arith, at, room, few))

  version : Object → ℕ
  version = read_version job position

  home : Worker
  home = worker_at template.homes task

  owner : Worker
  owner = worker_at template.owners task

  form : TaskForm
  form = slice_index_or template.forms task no_task

  past : List TaskForm
  past = take task template.forms

  spec : Spec
  spec = spec_of template.forms task

  work : Task
  work = task_with args form

  short : IsShort spec
  short = task_short template.forms task is.form.fit within

  objects : (are_below 512 form.writes ≡ true) × (are_below 512 form.reads ≡ true)
  objects = form_objects form (all_at (is_fit 512) template.forms task no_task is.form.fit within)

  low : AllByRecursion (λ (r : Object × ℕ). r.0.0 < 512) spec.reads
  low = reads_low past form.reads (writes_low form.reads objects.1)

  there : slice_get (tasks_of job) position ≡ Some work
  there =
      ap (slice_get (tasks_of job)) (position_is ∙ (omega arith))
      ∙ task_there job base args 0 task template.forms is.tasks within

  fits : (list_all (is_object_within (objects_of job.vars)) form.reads ≡ true) × (list_all (is_object_within (objects_of job.vars)) form.writes ≡ true)
  fits =
      task_objects (objects_of job.vars) work
      (task_passes (is_whole_task (objects_of job.vars)) (tasks_of job) position work (tasks_fit job is.whole) there)

  ran : IsRunOf job (p.slots home) position form.func (map (param_with args) form.params) (read_slots false spec.reads) (written_slots false form.writes) work
  ran =
      subst (λ (o : Option Task). IsSomeAnd o (IsRunOf job (p.slots home) position form.func (map (param_with args) form.params)
      (read_slots false spec.reads) (written_slots false form.writes))) there found.0

  past_long : length past ≡ task
  past_long = (let long = length-take task template.forms in omega (arith, long, within))

  offsets : (object : Object) → version_at base (before object) (offset_behind 0 0 object past) ≡ read_version job position object
  offsets object =
      offset_is job base args object past (tasks_taken job base args 0 task template.forms is.tasks) (omega (arith, past_long, room, few))
      ∙ ap (λ (n : ℕ). read_version job n object) (omega (arith, past_long, position_is))

  left : (object : Object) → object.0 < 512 → is_left template task owner (read_behind past object) ≡ true
      → q.slots owner (main_slot object) ≡ version_content (read_version job position) object
  left object small has =
      same.slots owner (main_slot object) small
      ∙ so owner (main_slot object) small
      ∙ left_there before base slots template.preconditions owner object (offset_behind 0 0 object past) (version object)
      (after_entries (offset_left (main_slot object)) None (under (64 * task + 16) (slice_index_or template.built owner.0 []))) small is.held (offsets object)
      (ap (λ (es : List Entry). has_offset (is_needed template.preconditions owner object) (offset_behind 0 0 object past)
      (after_entries (offset_left (main_slot object)) None es)) (sym (before_is (64 * task + 16) (slice_index_or template.built owner.0 []))) ∙ has)
