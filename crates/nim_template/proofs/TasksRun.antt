-- The tasks of a block run by rank, one after another.
use Rattle.std.proofs.Common.{◌≡◌, ℕ, zero, suc, ◌+◌, ◌<◌, ◌≤◌, Bool, true, false, List, [], ◌∷◌, ◌++◌, length, map, refl, ap, sym, subst, ◌∙◌, arith}
use Rattle.std.proofs.Common.{Option, None, Some, inl, inr}
use Rattle.std.specs.Prelude.{◌*◌, ◌^◌, ◌==◌, ◌&&◌, ◌||◌, ◌⊎◌, if◌then◌else◌, max, nat_le, nat_lt, slice_get, ℤ}
use Rattle.std.specs.List.{fold, list_all}
use Rattle.std.specs.Option.{is_some, option_map_or}
use Rattle.std.proofs.lemmas.Bool.{eqb-false, eqb-true, false≢true, ltb-true}
use Rattle.std.proofs.lemmas.List.Sums.{fold-append}
use Rattle.nim_base.specs.declared.number.Object.{Object}
use Rattle.nim_base.specs.declared.number.Slot.{Slot}
use Rattle.nim_base.specs.declared.number.Worker.{Worker}
use Rattle.nim_base.specs.declared.task.Task.{Task}
use Rattle.nim_base.specs.declared.task.TaskForm.{TaskForm}
use Rattle.nim_command.specs.declared.command.Command.{Command}
use Rattle.nim_command.specs.Expansion.{version_at}
use Rattle.nim_command.specs.Holds.{Content, version_after}
use Rattle.nim_command.specs.Numbers.{counted_from, main_slot}
use Rattle.nim_command.specs.Slots.{is_among, object_of}
use Rattle.nim_job.specs.declared.job.Job.{Job}
use Rattle.nim_job.specs.Objects.{objects_of}
use Rattle.nim_job.specs.Serial.{tasks_of}
use Rattle.nim_job.specs.Versions.{is_written, read_version}
use Rattle.nim_job.specs.Whole.{is_whole_task, is_whole}
use Rattle.nim_job.proofs.FewTasks.{tasks_fit}
use Rattle.nim_job.proofs.Whole.{vars_sizes, whole_vars}
use Rattle.nim_plan.specs.Legal.{is_version}
use Rattle.nim_place.specs.declared.placement.Placement.{Placement}
use Rattle.nim_place.specs.Schedule.{copies_of, is_one_of, moves, run_of, scheduled}
use Rattle.nim_place.specs.Sound.{Plane, plane_left as walked_plane}
use Rattle.nim_place.specs.Stands.{greater_put}
use Rattle.nim_place.specs.Versions.{Versions, after_commands, after_kind, holder, is_current, latest_of}
use Rattle.nim_place.proofs.GoesOn.{among_mains, before_within, holder_there, read_next}
use Rattle.nim_place.proofs.Legal.{main_of, mains_of, read_there, read_within, task_objects, task_passes}
use Rattle.nim_place.proofs.Moves.{AreMoves, moves_facts}
use Rattle.nim_place.proofs.Places.{both_true}
use Rattle.nim_place.proofs.Puts.{IsWhole}
use Rattle.nim_template.specs.declared.walk.Walk.{Walk}
use Rattle.nim_template.specs.Fits.{are_below, is_fit}
use Rattle.nim_template.specs.Tasks.{scheduled_from, task_with}
use Rattle.nim_template.specs.Walk.{walked_past, home_of, walked, with_need}
use Rattle.nim_template.proofs.Alike.{IsAlike, IsEntry, same_current}
use Rattle.nim_template.proofs.Chosen.{AreReady}
use Rattle.nim_template.proofs.Closes.{current_of}
use Rattle.nim_template.proofs.Fits.{few_reads, read_below}
use Rattle.nim_template.proofs.InTurn.{AreTasksFrom}
use Rattle.nim_template.proofs.Instances.{form_ready, needs_alike, reads_there, task_alike, walk_grows}
use Rattle.nim_template.proofs.Offsets.{IsKept, IsThere}
use Rattle.nim_template.proofs.Planes.{Below, IsLike, IsRun, MayRun, found_append, task_found, walked_append}
use Rattle.nim_template.proofs.Ranked.{ranked_from, ranked_task}
use Rattle.nim_template.proofs.Sames.{AllBelow, AreLeft, below_append as all_below_append, left}
use Rattle.nim_template.proofs.Sizes.{AreLike, form_like, like_commands, like_needs}
use Rattle.nim_template.proofs.Walks.{IsWalked, form_walked, has_any, needs_walked, only_object}

-- ---- a job's objects and versions

-- what was written is an object of the job
pub written_there : (job : Job) (k : ℕ) (object : Object) → is_whole job ≡ true → 0 < read_version job k object → object.0 < objects_of job.vars
written_there job zero object whole more = absurd (omega (arith, more))
written_there job (suc k) object whole more =
    either (slice_get (tasks_of job) k) refl more (written_there job k object whole) where
      either : (t : Option Task) → slice_get (tasks_of job) k ≡ t
          → 0 < (if option_map_or (is_written object) t false then k + 1 else read_version job k object)
          → (0 < read_version job k object → object.0 < objects_of job.vars) → object.0 < objects_of job.vars
      either None there some rest = rest some
      either (Some task) there some rest = chosen (is_written object task) refl some where
        chosen : (b : Bool) → is_written object task ≡ b → 0 < (if b then k + 1 else read_version job k object) → object.0 < objects_of job.vars
        chosen true wrote found =
            read_within (objects_of job.vars) task.writes object
            (task_objects (objects_of job.vars) task
            (task_passes (is_whole_task (objects_of job.vars)) (tasks_of job) k task (tasks_fit job whole) there)).1 wrote
        chosen false wrote found = rest found

-- a version that is read is one of the job
pub read_is : (job : Job) (k : ℕ) (object : Object) → object.0 < 512 → object.0 < objects_of job.vars
    → is_version job (object_of (main_slot object)) (read_version job k object) ≡ true
read_is job k object few there = ap (λ (o : Object). is_version job o (read_version job k object)) (main_of object few) ∙ read_there job k object there

-- ---- the latest versions behind a task

same_max : (b : Bool) (n v : ℕ) → (b ≡ true → v ≡ n) → (if b then max n v else n) ≡ n
same_max true n v same = let equal = same refl in omega (arith, equal)
same_max false n v same = refl

copies_latest : (base : Versions) (number : ℕ) (owner : Worker) (object : Object) (ms : List _)
    → fold (greater_put (main_slot object)) (latest_of base object) (copies_of base number owner ms) ≡ latest_of base object
copies_latest base number owner object [] = refl
copies_latest base number owner object (m ∷ ms) =
    ap (λ (n : ℕ). fold (greater_put (main_slot object)) n (copies_of base number owner ms))
    (same_max (is_among (main_slot m.object ∷ []) (main_slot object)) (latest_of base object) (latest_of base m.object)
    (λ among. ap (λ (n : ℕ). latest_of base (record { 0 = n })) (only_object m.object object among)))
    ∙ copies_latest base number owner object ms

copies_below : (versions : Versions) (number : ℕ) (owner : Worker) (reads : List Object) (ms : List _) → AreMoves versions owner reads ms
    → owner.0 < versions.workers → AllBelow versions.workers (copies_of versions number owner ms)
copies_below versions number owner reads [] are below = tt
copies_below versions number owner reads (m ∷ ms) are below = (are.0, (below, copies_below versions number owner reads ms are.4 below))

mains_below : (objects : ℕ) (writes : List Object) (slot : Slot) → are_below objects writes ≡ true → is_among (map main_slot writes) slot ≡ true
    → slot.0 < objects
mains_below objects [] slot below is = absurd (false≢true is)
mains_below objects (w ∷ writes) slot below is =
    let each = both_true (nat_lt w.0 objects) (are_below objects writes) below in
    either (w.0 == slot.0) refl is (mains_below objects writes slot each.1) where
      either : (b : Bool) → (w.0 == slot.0) ≡ b → (b || is_among (map main_slot writes) slot) ≡ true
          → (is_among (map main_slot writes) slot ≡ true → slot.0 < objects) → slot.0 < objects
      either true same found rest =
          subst (λ (n : ℕ). n < objects) (eqb-true w.0 slot.0 same)
          (ltb-true w.0 objects (both_true (nat_lt w.0 objects) (are_below objects writes) below).0)
      either false same found rest = rest found

writes_below : (objects : ℕ) (form : TaskForm) → is_fit objects form ≡ true → are_below objects form.writes ≡ true
writes_below objects form fit =
    let counts : Bool = nat_le 1 (length form.writes) && nat_le (length form.writes) 2 && nat_le (length form.reads) 8 in
    (both_true counts (are_below objects form.writes)
    (both_true (counts && are_below objects form.writes) (are_below objects form.reads) fit).0).1

next_latest : (b : Bool) (n position : ℕ) → n ≤ position → position + 1 < 2 ^ 64
    → (if b then max n (version_after position) else n) ≡ (if b then position + 1 else n)
next_latest true n position below room = omega (arith, below, room)
next_latest false n position below room = refl

-- the latest versions of a map are those that the task at a position reads
abbrev pub AreLatest : Job → ℕ → Versions → Type 0
AreLatest job position versions = (object : Object) → object.0 < versions.objects → latest_of versions object ≡ read_version job position object

task_latest : (job : Job) (versions : Versions) (owner : Worker) (task : Task) (number position : ℕ) → MayRun job versions owner task position
    → AreLatest job position versions → position + 1 < 2 ^ 64 → IsWhole versions
    → AreLatest job (position + 1)
    (after_commands versions (copies_of versions number owner (moves versions owner [] task.reads)
    ++ (owner, run_of task number position (moves versions owner [] task.reads)) ∷ []))
task_latest job versions owner task number position may latest room whole object inside_now =
    let ms = moves versions owner [] task.reads in
    let copies : List (Worker × Command) = copies_of versions number owner ms in
    let run : List (Worker × Command) = (owner, run_of task number position ms) ∷ [] in
    let all : AreLeft versions (copies ++ run) (after_commands versions (copies ++ run)) =
    left versions (copies ++ run) whole
    (all_below_append versions.workers copies run (copies_below versions number owner task.reads ms (moves_facts versions owner task.reads) may.below)
    (may.below, tt)) in
    let inside : object.0 < versions.objects = omega (arith, all.objects, inside_now) in
    let slot : Slot = main_slot object in
    let most : read_version job position object ≤ position = before_within (tasks_of job) position object in
    all.latest object inside
    ∙ fold-append (greater_put slot) (latest_of versions object) copies run
    ∙ ap (λ (n : ℕ). if is_among (map main_slot task.writes) slot then max n (version_after position) else n)
    (copies_latest versions number owner object ms ∙ latest object inside)
    ∙ ap (λ (b : Bool). if b then max (read_version job position object) (version_after position) else read_version job position object)
    (among_mains task.writes object)
    ∙ next_latest (is_one_of task.writes object) (read_version job position object) position most room
    ∙ sym (read_next job position task object may.there)

-- ---- who holds what a task reads

pub found_holder : (base most : ℕ) (entry offsets versions : Versions) (owner : Worker) (reads : List Object) (object : Object)
    → IsAlike base entry offsets versions → IsKept most offsets → IsEntry base offsets.objects entry → AreReady offsets owner reads → base + most < 2 ^ 64
    → is_one_of reads object ≡ true → is_some (holder versions object) ≡ true
found_holder base most entry offsets versions owner reads object alike kept at ready room one = either (latest_of offsets object == 0) refl where
  there : object.0 < offsets.objects
  there = ready.within object one

  by : (worker : Worker) → worker.0 < offsets.workers → is_current versions object worker ≡ true → is_some (holder versions object) ≡ true
  by worker below current = holder_there versions object worker 0 versions.workers (omega arith) (omega (arith, alike.workers, below)) current

  some : (latest_of offsets object == 0) ≡ false → (latest_of offsets object ≡ 0) ⊎ IsThere offsets object → is_some (holder versions object) ≡ true
  some more (inl none) = absurd (eqb-false (latest_of offsets object) 0 more none)
  some more (inr is) =
      by is.worker is.below
      (same_current base most entry offsets versions is.worker object alike kept at is.below there more room
      ∙ current_of offsets object is.worker is.holds)

  either : (b : Bool) → (latest_of offsets object == 0) ≡ b → is_some (holder versions object) ≡ true
  either true none =
      let zero_is : latest_of offsets object ≡ 0 = eqb-true (latest_of offsets object) 0 none in
      by owner ready.below
      (current_of versions object owner
      (alike.held owner object 0 ready.below there (ready.held object one zero_is)
      ∙ ap Some (sym (alike.latest object there ∙ ap (version_at base (latest_of entry object)) zero_is))))
  either false more = some more (kept.there object there)

-- ---- the tasks

-- commands were run, and the map that the slots are like then is at a position
pub record AreRun (job : Job) (start : Worker → Slot → Content) (plane : Plane) (commands : List (Worker × Command)) (high position : ℕ)
    (after : Versions) : Type 0 where
  pub run : IsRun job start plane commands high after
  pub latest : AreLatest job position after

-- one list behind another
pub run_then : (job : Job) (start : Worker → Slot → Content) (plane : Plane) (xs ys : List (Worker × Command)) (mid high : ℕ) (between after : Versions)
    → IsRun job start plane xs mid between → IsRun job start (walked_plane plane xs) ys high after → IsRun job start plane (xs ++ ys) high after
run_then job start plane xs ys mid high between after one two = record {
  found = found_append job plane xs ys one.found two.found;
  like = subst (IsLike start after) (sym (walked_append plane xs ys)) two.like;
  frames = subst (λ (p : Plane). Below high p.frames) (sym (walked_append plane xs ys)) two.frames;
}

pub tasks_run : (place : Placement) (live : List Bool) (job : Job) (base : ℕ) (args : List ℤ) (start : Worker → Slot → Content) (entry : Versions) (number : ℕ)
    (walk : Walk) (versions : Versions) (forms : List TaskForm) (plane : Plane) → IsAlike base entry walk.offsets versions → IsWalked number walk
    → ((objects : ℕ) (f : TaskForm) → (home_of place objects live f).0 < walk.offsets.workers) → IsEntry base walk.offsets.objects entry
    → list_all (is_fit walk.offsets.objects) forms ≡ true
    → ((worker : Worker) (object : Object) → worker.0 < walk.offsets.workers → object.0 < walk.offsets.objects
    → has_any (walked place live number walk forms).needed worker object ≡ true → is_current entry object worker ≡ true)
    → number + length forms ≤ 1024 → base + 1024 < 2 ^ 64 → is_whole job ≡ true → AreTasksFrom job base args number forms → versions.objects ≤ 512
    → AreLatest job (base + number) versions → IsLike start versions plane → Below (64 * number) plane.frames
    → AreRun job start plane (ranked_from place live base args number versions forms) (64 * (number + length forms)) (base + (number + length forms))
    (after_commands versions (scheduled_from place live base args number versions forms))
tasks_run place live job base args start entry number walk versions [] plane alike is homes at fit current few room whole are small latest like old =
    subst (λ (n : ℕ). AreRun job start plane [] (64 * n) (base + n) versions) (omega arith)
    (record { run = record { found = tt; like = like; frames = old }; latest = latest })
tasks_run place live job base args start entry number walk versions (form ∷ forms) plane alike is homes at fit current few room whole are small latest like
    old =
    let owner : Worker = home_of place walk.offsets.objects live form in
    let below : owner.0 < walk.offsets.workers = homes walk.offsets.objects form in
    let each = both_true (is_fit walk.offsets.objects form) (list_all (is_fit walk.offsets.objects) forms) fit in
    let ready : Walk = fold (with_need owner) walk form.reads in
    let next : Walk = walked_past place live number walk form in
    let like_next : AreLike walk.offsets next.offsets = form_like place live number walk next form refl in
    let like_ready : AreLike walk.offsets ready.offsets = like_needs owner form.reads walk in
    let now : IsWalked number ready = needs_walked number owner form.reads walk is below in
    let after_walk : IsWalked (number + 1) next = form_walked number place live walk form is homes (omega (arith, few)) in
    let later : (objects : ℕ) (f : TaskForm) → (home_of place objects live f).0 < next.offsets.workers =
    λ objects f. (let low = homes objects f in omega (arith, like_next.workers, low)) in
    let within : (object : Object) → is_one_of form.reads object ≡ true → object.0 < walk.offsets.objects =
    λ object one. read_below walk.offsets.objects form object each.0 one in
    let needed : (object : Object) → is_one_of form.reads object ≡ true → latest_of walk.offsets object ≡ 0 → has_any ready.needed owner object ≡ true =
    λ object one none. reads_there number owner form.reads walk is below object one (within object one) none in
    let holds : (object : Object) → is_one_of form.reads object ≡ true → latest_of walk.offsets object ≡ 0 → is_current entry object owner ≡ true =
    λ object one none.
    current owner object below (within object one)
    (walk_grows place live (number + 1) next forms after_walk later (omega (arith, few)) owner object (omega (arith, like_next.workers, below))
    (let inside = within object one in omega (arith, like_next.objects, inside)) (needed object one none)) in
    let alike_now : IsAlike base entry ready.offsets versions =
    needs_alike base number entry versions owner form.reads walk alike is below within holds in
    let at_ready : IsEntry base ready.offsets.objects entry = subst (λ (n : ℕ). IsEntry base n entry) (sym like_ready.objects) at in
    let are_ready = form_ready place live number walk form is homes each.0 in
    let task : Task = task_with args form in
    let position : ℕ = counted_from base number in
    let counted : base + number ≡ position = omega (arith, few, room) in
    let home : Worker = home_of place versions.objects live form in
    let here : AreReady ready.offsets home form.reads =
    subst (λ (w : Worker). AreReady ready.offsets w form.reads) (ap (λ (n : ℕ). home_of place n live form) (sym alike_now.objects)) are_ready in
    let n : ℕ = objects_of job.vars in
    let job_few : n ≤ 512 = (vars_sizes job.vars (whole_vars job whole)).0 in
    let there : slice_get (tasks_of job) position ≡ Some task = subst (λ (k : ℕ). slice_get (tasks_of job) k ≡ Some task) counted are.0 in
    let of_job = task_objects n task (task_passes (is_whole_task n) (tasks_of job) position task (tasks_fit job whole) there) in
    let latest_here : AreLatest job position versions = subst (λ (k : ℕ). AreLatest job k versions) counted latest in
    let inside : (object : Object) → is_one_of form.reads object ≡ true → object.0 < versions.objects =
    λ object one. (let low = here.within object one in omega (arith, alike_now.objects, low)) in
    let may : MayRun job versions home task position = record {
      below = (let low = here.below in omega (arith, alike_now.workers, low));
      few = small;
      there = there;
      short = few_reads walk.offsets.objects form each.0;
      reads = inside;
      holders = λ object one.
          found_holder base number entry ready.offsets versions home form.reads object alike_now now.kept at_ready here (omega (arith, few, room)) one;
      latest = λ object one. latest_here object (inside object one);
      versioned = λ object one.
          (let low = inside object one in
          ap (λ (v : ℕ). is_version job (object_of (main_slot object)) v) (latest_here object (inside object one))
          ∙ read_is job position object (omega (arith, low, small)) (read_within n task.reads object of_job.0 one));
      within = λ slot among.
          (let low = mains_below walk.offsets.objects form.writes slot (writes_below walk.offsets.objects form each.0) among in
          omega (arith, alike.objects, low));
      writes = mains_of n task.writes job_few of_job.1;
    } in
    let commands : List (Worker × Command) = scheduled versions task number position place live in
    let ranked : List (Worker × Command) = ranked_task versions task number position home in
    let after : Versions = after_commands versions commands in
    let more : List (Worker × Command) = scheduled_from place live base args (number + 1) after forms in
    let one : IsRun job start plane ranked (64 * (number + 1)) after =
    task_found job start versions home task number position plane (omega (arith, few)) may like old in
    let like_after : AreLike versions after = like_commands commands versions in
    let latest_after : AreLatest job (base + (number + 1)) after =
    subst (λ (k : ℕ). AreLatest job k after) (omega (arith, counted))
    (task_latest job versions home task number position may latest_here (omega (arith, counted, few, room)) like.whole) in
    let two : AreRun job start (walked_plane plane ranked) (ranked_from place live base args (number + 1) after forms) (64 * (number + 1 + length forms))
    (base + (number + 1 + length forms)) (after_commands after more) =
    tasks_run place live job base args start entry (number + 1) next after forms (walked_plane plane ranked)
    (task_alike base entry ready.offsets versions place live args number form alike_now now.kept at_ready are_ready (omega (arith, few)) room) after_walk later
    (subst (λ (k : ℕ). IsEntry base k entry) (sym like_next.objects) at)
    (subst (λ (k : ℕ). list_all (is_fit k) forms ≡ true) (sym like_next.objects) each.1)
    (λ worker object lower deep has. current worker object (omega (arith, like_next.workers, lower)) (omega (arith, like_next.objects, deep)) has)
    (omega (arith, few)) room whole are.1 (omega (arith, like_after.objects, small)) latest_after one.like one.frames in
    let all : AreRun job start plane (ranked ++ ranked_from place live base args (number + 1) after forms) (64 * (number + 1 + length forms))
    (base + (number + 1 + length forms)) (after_commands after more) = record {
      run =
          run_then job start plane ranked (ranked_from place live base args (number + 1) after forms) (64 * (number + 1))
          (64 * (number + 1 + length forms)) after (after_commands after more) one two.run;
      latest = two.latest;
    } in
    subst (AreRun job start plane (ranked_from place live base args number versions (form ∷ forms)) (64 * (number + length (form ∷ forms)))
    (base + (number + length (form ∷ forms))))
    (sym (fold-append (λ (v : Versions) (c : Worker × Command). after_kind c.0 v c.1.kind) versions commands more))
    (subst (λ (k : ℕ). AreRun job start plane (ranked_from place live base args number versions (form ∷ forms)) (64 * k) (base + k) (after_commands after more))
    (omega arith) all)
