-- A task's commands are legal behind those that the map stands for.
use Rattle.std.proofs.Common.{◌≡◌, ℕ, ◌+◌, ◌-◌, ◌<◌, ◌≤◌, zero, suc, Bool, true, false, List, [], ◌∷◌, ◌++◌, length, map, refl, ap, ap₂, sym, subst, ◌∙◌, arith, Option, Some}
use Rattle.std.specs.Prelude.{◌==◌, ◌%◌, ◌||◌, if◌then◌else◌, slice_get, IsSomeAnd}
use Rattle.std.specs.List.{filter, list_all}
use Rattle.std.specs.Option.{option_map_or}
use Rattle.std.proofs.lemmas.Bool.{and_from, and_parts, cond_both, eq-eqb, eqb-true, false≢true, lt-ltb, ltb-true, or_left, or_right}
use Rattle.std.proofs.lemmas.Bool.Decides.{nat_tests}
use Rattle.std.proofs.lemmas.List.{append-nil, append_assoc}
use Rattle.std.proofs.lemmas.Option.{none-some, same_Some}
use Rattle.nim_base.specs.declared.number.Object.{Object}
use Rattle.nim_base.specs.declared.number.Slot.{Slot}
use Rattle.nim_base.specs.declared.number.Worker.{Worker}
use Rattle.nim_base.specs.declared.task.Task.{Task}
use Rattle.nim_command.specs.declared.command.Command.{Command}
use Rattle.nim_command.specs.declared.command.Kind.{Kind}
use Rattle.nim_command.specs.Holds.{Content, holds}
use Rattle.nim_command.specs.Numbers.{main_slot}
use Rattle.nim_command.specs.Slots.{object_of}
use Rattle.nim_job.specs.declared.job.Job.{Job}
use Rattle.nim_job.specs.Objects.{objects_of}
use Rattle.nim_job.specs.Serial.{tasks_of}
use Rattle.nim_job.specs.Versions.{is_written, read_version, version_before}
use Rattle.nim_job.specs.Whole.{is_object_within, is_whole_task}
use Rattle.nim_job.proofs.FewTasks.{tasks_fit}
use Rattle.nim_job.proofs.Whole.{vars_sizes, whole_vars}
use Rattle.nim_plan.specs.Legal.{AreLegal, IsLegalKind, IsRunOf, is_version}
use Rattle.nim_place.specs.declared.schedule.Moved.{Moved}
use Rattle.nim_place.specs.Schedule.{copies_of, is_one_of, moves, receive_of, run_of, send_of}
use Rattle.nim_place.specs.Stands.{MapStands, commands_for}
use Rattle.nim_place.specs.TaskOrders.{IsAt, IsTaskAt, StaysLegal}
use Rattle.nim_place.specs.Versions.{Versions, latest_of}
use Rattle.nim_place.proofs.ByTask.{for_other, for_owner}
use Rattle.nim_place.proofs.Finds.{schedule_finds}
use Rattle.nim_place.proofs.Held.{AreHeld, HeldIn, for_append, held_here, held_still, moves_held}
use Rattle.nim_place.proofs.History.{for_more}
use Rattle.nim_place.proofs.Moves.{AreMoves, moves_facts}
use Rattle.nim_place.proofs.Singles.{single_legal}

-- ---- what a task reads and writes

-- a version is the first one, or the task before it wrote it
abbrev was_written : List Task → Object → ℕ → Bool
was_written tasks object version = (version == 0) || option_map_or (is_written object) (slice_get tasks (version - 1)) false

before_written : (tasks : List Task) (k : ℕ) (object : Object) → was_written tasks object (version_before tasks k object) ≡ true
before_written tasks zero object = refl
before_written tasks (suc k) object =
    cond_both (option_map_or (is_written object) (slice_get tasks k) false) (k + 1) (version_before tasks k object) (λ v. was_written tasks object v ≡ true)
    (λ wrote. or_right ((k + 1) == 0) (option_map_or (is_written object) (slice_get tasks (k + 1 - 1)) false) (written wrote))
    (λ none. before_written tasks k object) where
      written : option_map_or (is_written object) (slice_get tasks k) false ≡ true
          → option_map_or (is_written object) (slice_get tasks (k + 1 - 1)) false ≡ true
      written wrote =
          let same : k + 1 - 1 ≡ k = omega arith in ap (λ (n : ℕ). option_map_or (is_written object) (slice_get tasks n) false) same ∙ wrote

-- what a task reads is a version of the job
pub read_there : (job : Job) (position : ℕ) (object : Object) → object.0 < objects_of job.vars
    → is_version job object (read_version job position object) ≡ true
read_there job position object below =
    and_from (is_object_within (objects_of job.vars) object) (was_written (tasks_of job) object (read_version job position object))
    (lt-ltb object.0 (objects_of job.vars) below) (before_written (tasks_of job) position object)

-- a task that is there passes what all tasks pass
pub task_passes : (p : Task → Bool) (tasks : List Task) (i : ℕ) (task : Task) → list_all p tasks ≡ true → slice_get tasks i ≡ Some task → p task ≡ true
task_passes p [] i task all there = absurd (none-some task there)
task_passes p (t ∷ tasks) zero task all there = ap p (sym (same_Some t task there)) ∙ (and_parts (p t) (list_all p tasks) all).0
task_passes p (t ∷ tasks) (suc i) task all there = task_passes p tasks i task (and_parts (p t) (list_all p tasks) all).1 there

pub task_objects : (n : ℕ) (task : Task) → is_whole_task n task ≡ true
    → (list_all (is_object_within n) task.reads ≡ true) × (list_all (is_object_within n) task.writes ≡ true)
task_objects n task fit = grind (arith, nat_tests)

pub read_within : (n : ℕ) (reads : List Object) (object : Object) → list_all (is_object_within n) reads ≡ true → is_one_of reads object ≡ true → object.0 < n
read_within n [] object all read = absurd (false≢true read)
read_within n (r ∷ reads) object all read =
    let parts = and_parts (is_object_within n r) (list_all (is_object_within n) reads) all in
    either (read_within n reads object parts.1) (ltb-true r.0 n parts.0) (r.0 == object.0) refl read where
      either : (is_one_of reads object ≡ true → object.0 < n) → r.0 < n → (b : Bool) → (r.0 == object.0) ≡ b → (b || is_one_of reads object)
          ≡ true → object.0 < n
      either later below true same is = let equal = eqb-true r.0 object.0 same in omega (arith, equal, below)
      either later below false other is = later is

-- the main slot of an object is of it
pub main_of : (object : Object) → object.0 < 512 → object_of (main_slot object) ≡ object
main_of object below = let same : object.0 % 512 ≡ object.0 = omega (arith, below) in ap (λ (n : ℕ). record { 0 = n }) same

pub mains_of : (n : ℕ) (objects : List Object) → n ≤ 512 → list_all (is_object_within n) objects ≡ true → map object_of (map main_slot objects) ≡ objects
mains_of n [] few are = refl
mains_of n (o ∷ objects) few are =
    let parts = and_parts (is_object_within n o) (list_all (is_object_within n) objects) are in
    ap₂ (λ (p : Object) (ps : List Object). p ∷ ps) (main_of o (omega (arith, few, ltb-true o.0 n parts.0))) (mains_of n objects few parts.1)

-- What the map and the job say of the objects of a task.
pub record IsFor (job : Job) (versions : Versions) (task : Task) (position : ℕ) : Type 0 where
  there : slice_get (tasks_of job) position ≡ Some task
  main : (object : Object) → is_one_of task.reads object ≡ true → object_of (main_slot object) ≡ object
  reads : (object : Object) → is_one_of task.reads object ≡ true → object.0 < versions.objects
  version : (object : Object) → is_one_of task.reads object ≡ true → is_version job (object_of (main_slot object)) (latest_of versions object) ≡ true
  writes : map object_of (map main_slot task.writes) ≡ task.writes

pub is_for : (job : Job) (versions : Versions) (task : Task) (position : ℕ) → IsAt job position versions → IsTaskAt job position task
    → IsFor job versions task position
is_for job versions task position at next =
    let n = objects_of job.vars in
    let few : n ≤ 512 = (vars_sizes job.vars (whole_vars job next.whole)).0 in
    let objects = task_objects n task (task_passes (is_whole_task n) (tasks_of job) position task (tasks_fit job next.whole) next.there) in
    let below : (object : Object) → is_one_of task.reads object ≡ true → object.0 < n = λ object read. read_within n task.reads object objects.0 read in
    let in_map : (object : Object) → is_one_of task.reads object ≡ true → object.0 < versions.objects =
    λ object read. let there = below object read in omega (arith, there, at.objects) in
    let main : (object : Object) → is_one_of task.reads object ≡ true → object_of (main_slot object) ≡ object =
    λ object read. let there = below object read in main_of object (omega (arith, there, few)) in
    record {
      there = next.there;
      main = main;
      reads = in_map;
      version = λ object read.
          ap₂ (λ (o : Object) (v : ℕ). is_version job o v) (main object read) (at.latest object (in_map object read))
          ∙ read_there job position object (below object read);
      writes = mains_of n task.writes few objects.1;
    }

-- ---- commands behind others

pub legal_append : (job : Job) (past xs ys : List Command) → AreLegal job past xs → AreLegal job (past ++ xs) ys → AreLegal job past (xs ++ ys)
legal_append job past [] ys first second = subst (λ (all : List Command). AreLegal job all ys) (append-nil past) second
legal_append job past (x ∷ xs) ys first second = (
  first.0,
  legal_append job (past ++ x ∷ []) xs ys first.1 (subst (λ (all : List Command). AreLegal job all ys)
      (sym (append_assoc past (x ∷ []) xs)) second),
)

-- what is held may be sent
sends_legal : (job : Job) (versions : Versions) (number : ℕ) (owner : Worker) (past : List Command) (ms : List Moved) → HeldIn versions past ms
    → AreLegal job past (map (λ (m : Moved). (send_of number owner m).1) ms)
sends_legal job versions number owner past [] held = tt
sends_legal job versions number owner past (m ∷ ms) held = (
  λ none. none-some (object_of (main_slot m.object), latest_of versions m.object) (sym none ∙ held.0),
  sends_legal job versions number owner (past ++ (send_of number owner m).1 ∷ []) ms (held_still versions number owner past m ms held.1),
)

-- what a task reads may be received
receives_legal : (job : Job) (versions : Versions) (task : Task) (number position : ℕ) (owner : Worker) (past : List Command) (ms : List Moved)
    → IsFor job versions task position → AreMoves versions owner task.reads ms
    → AreLegal job past (map (λ (m : Moved). (receive_of versions number owner m).1) ms)
receives_legal job versions task number position owner past [] fits are = tt
receives_legal job versions task number position owner past (m ∷ ms) fits are =
    (fits.version m.object are.2, receives_legal job versions task number position owner (past ++ (receive_of versions number owner m).1 ∷ []) ms fits are.4)

-- the slots hold what the task reads
pub reads_held : (job : Job) (before : Slot → Content) (position : ℕ) (objects : List Object)
    → ((object : Object) → is_one_of objects object ≡ true → before (main_slot object) ≡ Some (object, read_version job position object))
    → map before (map main_slot objects) ≡ map (λ (c : Object × ℕ). Some c) (map (λ object. (object, read_version job position object)) objects)
reads_held job before position [] held = refl
reads_held job before position (o ∷ objects) held =
    ap₂ (λ (c : Content) (cs : List Content). c ∷ cs) (held o (or_left (o.0 == o.0) (is_one_of objects o) (eq-eqb o.0 o.0 refl)))
    (reads_held job before position objects (λ object is. held object (or_right (o.0 == object.0) (is_one_of objects object) is)))

-- so it may be run
run_legal : (job : Job) (before : Slot → Content) (versions : Versions) (task : Task) (position : ℕ) → IsFor job versions task position
    → ((object : Object) → is_one_of task.reads object ≡ true → before (main_slot object) ≡ Some (object, read_version job position object))
    → IsLegalKind job before (Kind.Run position task.func task.params (map main_slot task.reads) (map main_slot task.writes))
run_legal job before versions task position fits held =
    subst (λ (t : Option Task). IsSomeAnd t (IsRunOf job before position task.func task.params (map main_slot task.reads) (map main_slot task.writes)))
    (sym fits.there)
    (record { func = refl; params = refl; reads = reads_held job before position task.reads held; writes = fits.writes })

-- ---- a worker's commands of a task

owner_legal : (job : Job) (versions : Versions) (owner : Worker) (task : Task) (number position : ℕ) (given : List (Worker × Command)) (ms : List Moved)
    → ms ≡ moves versions owner [] task.reads
    → AreMoves versions owner task.reads ms → owner.0 < versions.workers → MapStands given versions → IsAt job position versions
    → IsFor job versions task position
    → AreLegal job (commands_for owner given) (map (λ (m : Moved). (receive_of versions number owner m).1) ms ++ run_of task number position ms ∷ [])
owner_legal job versions owner task number position given ms is are below stands at fits =
    legal_append job (commands_for owner given) received (run_of task number position ms ∷ [])
    (receives_legal job versions task number position owner (commands_for owner given) ms fits are)
    (run_legal job (holds past (length past)) versions task position fits found, tt) where
      received : List Command
      received = map (λ (m : Moved). (receive_of versions number owner m).1) ms

      past : List Command
      past = commands_for owner given ++ received

      same : commands_for owner (given ++ copies_of versions number owner (moves versions owner [] task.reads)) ≡ past
      same =
          ap (λ (all : List Moved). commands_for owner (given ++ copies_of versions number owner all)) (sym is)
          ∙ for_append owner given (copies_of versions number owner ms)
          ∙ ap (λ (rest : List Command). commands_for owner given ++ rest)
          (for_owner versions owner owner number task.reads ms are (eq-eqb owner.0 owner.0 refl))

      found : (object : Object) → is_one_of task.reads object ≡ true → holds past (length past) (main_slot object) ≡ Some
          (object, read_version job position object)
      found object read =
          ap (λ (cs : List Command). holds cs (length cs) (main_slot object)) (sym same)
          ∙ schedule_finds versions owner task number below given stands object read (fits.reads object read) (at.holders object (fits.reads object read))
          ∙ ap₂ (λ (o : Object) (v : ℕ). Some (o, v)) (fits.main object read) (at.latest object (fits.reads object read))

pub worker_legal : (job : Job) (versions : Versions) (owner worker : Worker) (task : Task) (number position : ℕ) (given : List (Worker × Command))
    (ms : List Moved)
    → ms ≡ moves versions owner [] task.reads
    → AreMoves versions owner task.reads ms → AreHeld versions ms → owner.0 < versions.workers → MapStands given versions → IsAt job position versions
    → IsFor job versions task position
    → AreLegal job (commands_for worker given)
    (commands_for worker (copies_of versions number owner ms ++ (owner, run_of task number position ms) ∷ []))
worker_legal job versions owner worker task number position given ms is are held below stands at fits =
    subst (AreLegal job (commands_for worker given)) (sym (for_more worker (copies_of versions number owner ms) (owner, run_of task number position ms)))
    (either (owner.0 == worker.0) refl) where
      mine : List Moved
      mine = filter (λ (m : Moved). m.from.0 == worker.0) ms

      either : (b : Bool) → (owner.0 == worker.0) ≡ b
          → AreLegal job (commands_for worker given)
          (commands_for worker (copies_of versions number owner ms) ++ (if b then run_of task number position ms ∷ [] else []))
      either true same =
          subst (λ (cs : List Command). AreLegal job (commands_for worker given) (cs ++ run_of task number position ms ∷ []))
          (sym (for_owner versions owner worker number task.reads ms are same))
          (subst (λ (n : ℕ). AreLegal job (commands_for (record { 0 = n }) given)
          (map (λ (m : Moved). (receive_of versions number owner m).1) ms ++ run_of task number position ms ∷ []))
          (eqb-true owner.0 worker.0 same)
          (owner_legal job versions owner task number position given ms is are below stands at fits))
      either false other =
          subst (AreLegal job (commands_for worker given)) (sym (append-nil (commands_for worker (copies_of versions number owner ms))))
          (subst (AreLegal job (commands_for worker given)) (sym (for_other versions owner worker number ms other))
          (sends_legal job versions number owner (commands_for worker given) mine (held_here versions given worker ms stands held)))

pub schedule_legal : (versions : Versions) (live : List Bool) (owner : Worker) (task : Task) (number position : ℕ) (commands : List (Worker × Command))
    → owner.0 < versions.workers
    → commands ≡ copies_of versions number owner (moves versions owner [] task.reads) ++
    (owner, run_of task number position (moves versions owner [] task.reads)) ∷ []
    → StaysLegal versions live task position commands
schedule_legal versions live owner task number position commands below is job epoch instance lists given so_far at next worker there before =
    single_legal job epoch instance (lists worker.0) (commands_for worker commands) (so_far.ask.begun worker there) (so_far.ask.epoch worker there)
    (subst (λ (past : List Command). AreLegal job past (commands_for worker commands)) (sym (so_far.ask.asked worker there))
    (subst (λ (cs : List (Worker × Command)). AreLegal job (commands_for worker given) (commands_for worker cs)) (sym is)
    (worker_legal job versions owner worker task number position given (moves versions owner [] task.reads) refl (moves_facts versions owner task.reads)
    (moves_held versions owner task.reads) below so_far.stands at (is_for job versions task position at next))))
    before
