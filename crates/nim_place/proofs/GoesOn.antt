-- Behind a task's commands the map has the versions that the next task reads.
use Rattle.std.proofs.Common.{◌≡◌, ℕ, zero, suc, ◌+◌, ◌<◌, ◌≤◌, ◌^◌, Bool, true, false, List, [], ◌∷◌, ◌++◌, map, refl, ap, ap₂, sym, subst, ◌∙◌, arith, add-one, inl, inr, Option, None, Some}
use Rattle.std.specs.Prelude.{◌==◌, ◌&&◌, ◌||◌, ◌⊎◌, max, if◌then◌else◌, slice_get}
use Rattle.std.specs.Option.{is_some, option_map_or}
use Rattle.std.proofs.lemmas.Bool.{cases_order, cond_both, eq-eqb, eqb-true, false≢true}
use Rattle.std.proofs.lemmas.Bool.Decides.{nat_tests}
use Rattle.std.proofs.lemmas.List.Sums.{fold-append}
use Rattle.std.proofs.lemmas.Option.{slice_get_within}
use Rattle.nim_base.specs.declared.number.Object.{Object}
use Rattle.nim_base.specs.declared.number.Worker.{Worker}
use Rattle.nim_base.specs.declared.task.Task.{Task}
use Rattle.nim_command.specs.declared.command.Command.{Command}
use Rattle.nim_command.specs.declared.command.Kind.{Kind}
use Rattle.nim_command.specs.Holds.{version_after}
use Rattle.nim_command.specs.Numbers.{main_slot}
use Rattle.nim_command.specs.Slots.{is_among}
use Rattle.nim_job.specs.declared.job.Job.{Job}
use Rattle.nim_job.specs.Serial.{tasks_of}
use Rattle.nim_job.specs.Versions.{is_written, read_version, version_before}
use Rattle.nim_job.specs.Whole.{is_whole}
use Rattle.nim_job.proofs.FewTasks.{few_tasks}
use Rattle.nim_place.specs.declared.schedule.Moved.{Moved}
use Rattle.nim_place.specs.Schedule.{copies_of, is_one_of, moves, run_of}
use Rattle.nim_place.specs.TaskOrders.{ComesToNext, IsRunAt, RunsAt}
use Rattle.nim_place.specs.Versions.{Versions, after_commands, after_kind, held_at, holder, holder_from, is_current, latest_of}
use Rattle.nim_place.proofs.Finds.{current_held}
use Rattle.nim_place.proofs.Moves.{holder_facts}
use Rattle.nim_place.proofs.Puts.{IsPut, IsWhole, kept_for, put_all, whole_after}

-- ---- the map behind the copies

-- A map has at least the latest versions that another one has, and no later ones.
record IsAsGood (base versions : Versions) : Type 0 where
  whole : IsWhole versions
  workers : versions.workers ≡ base.workers
  objects : versions.objects ≡ base.objects
  latest : (object : Object) → object.0 < base.objects → latest_of versions object ≡ latest_of base object
  held : (worker : Worker) (object : Object) → worker.0 < base.workers → object.0 < base.objects
      → held_at base worker (main_slot object) ≡ Some (latest_of base object) → held_at versions worker (main_slot object) ≡ Some (latest_of base object)

same_latest : (b : Bool) (l v n : ℕ) → l ≡ n → (b ≡ true → v ≡ n) → (if b || false then max l v else l) ≡ n
same_latest true l v n is same = let also = same refl in omega (arith, is, also)
same_latest false l v n is same = is

same_held : (b own : Bool) (v n : ℕ) (h : Option ℕ) → h ≡ Some n → (b ≡ true → v ≡ n) → (if (b || false) && own then Some v else h) ≡ Some n
same_held true true v n h is same = ap Some (same refl)
same_held true false v n h is same = is
same_held false own v n h is same = is

-- the latest version of an object by its number
latest_same : (base : Versions) (first second : Object) → (first.0 == second.0) ≡ true → latest_of base first ≡ latest_of base second
latest_same base first second same = ap (λ (n : ℕ). latest_of base (record { 0 = n })) (eqb-true first.0 second.0 same)

copies_as_good : (base versions : Versions) (number : ℕ) (owner : Worker) (ms : List Moved) → owner.0 < base.workers → IsAsGood base versions
    → IsAsGood base (after_commands versions (copies_of base number owner ms))
copies_as_good base versions number owner [] below good = good
copies_as_good base versions number owner (m ∷ ms) below good =
    let next : Versions = after_kind owner versions (Kind.Receive (main_slot m.object) (latest_of base m.object)) in
    let put : IsPut versions owner (latest_of base m.object) (main_slot m.object ∷ []) next = put_all versions owner (latest_of base m.object)
    (main_slot m.object ∷ []) good.whole (omega (arith, good.workers, below)) in
    copies_as_good base next number owner ms below (record {
      whole = whole_after versions owner (latest_of base m.object) (main_slot m.object ∷ []) next put good.whole;
      workers = put.workers ∙ good.workers;
      objects = put.objects ∙ good.objects;
      latest = λ object there.
          put.latest object (omega (arith, good.objects, there))
          ∙ same_latest (m.object.0 == object.0) (latest_of versions object) (latest_of base m.object) (latest_of base object) (good.latest object there)
          (latest_same base m.object object);
      held = λ worker object first second was.
          put.held worker (main_slot object) (kept_for versions worker (main_slot object) (omega (arith, good.workers, first))
          (omega (arith, good.objects, second)))
          ∙ same_held (m.object.0 == object.0) (owner.0 == worker.0) (latest_of base m.object) (latest_of base object)
          (held_at versions worker (main_slot object))
          (good.held worker object first second was) (latest_same base m.object object);
    })

-- ---- the map behind the run

pub among_mains : (objects : List Object) (object : Object) → is_among (map main_slot objects) (main_slot object) ≡ is_one_of objects object
among_mains [] object = refl
among_mains (o ∷ objects) object = ap (λ (b : Bool). (o.0 == object.0) || b) (among_mains objects object)

-- a worker that holds the latest version
pub shown_current : (versions : Versions) (object : Object) (worker : Worker) (n : ℕ) → latest_of versions object ≡ n
    → held_at versions worker (main_slot object) ≡ Some n
    → is_current versions object worker ≡ true
shown_current versions object worker n latest held =
    ap₂ (λ (l : ℕ) (h : Option ℕ). option_map_or (λ (version : ℕ). version == l) h false) latest held ∙ eq-eqb n n refl

-- so there is a holder
pub holder_there : (versions : Versions) (object : Object) (worker : Worker) (from more : ℕ) → from ≤ worker.0 → worker.0 < from + more
    → is_current versions object worker ≡ true → is_some (holder_from versions object from more) ≡ true
holder_there versions object worker from zero first last current = absurd (omega arith)
holder_there versions object worker from (suc more) first last current =
    either (λ ahead. holder_there versions object worker (from + 1) more (omega (arith, ahead)) (omega (arith, last)) current)
    (is_current versions object (record { 0 = from })) refl
    (cases_order from worker.0) where
      either : (from < worker.0 → is_some (holder_from versions object (from + 1) more) ≡ true) → (b : Bool) → is_current versions object (record { 0 = from })
          ≡ b
          → (from ≡ worker.0) ⊎ ((from < worker.0) ⊎ (worker.0 < from))
          → is_some (if b then Some (record { 0 = from }) else holder_from versions object (from + 1) more) ≡ true
      either later true is place = refl
      either later false is (inl same) =
          absurd (false≢true (sym is ∙ ap (λ (n : ℕ). is_current versions object (record { 0 = n })) same ∙ current))
      either later false is (inr (inl ahead)) = later ahead
      either later false is (inr (inr behind)) = absurd (omega (arith, behind, first))

raised : (b : Bool) (l n position : ℕ) → position + 1 < 2 ^ 64 → l ≡ n → n ≤ position
    → (if b then max l (version_after position) else l) ≡ (if b then position + 1 else n)
raised true l n position few is early = omega (arith, few, is, early)
raised false l n position few is early = is

run_at : (base versions after : Versions) (owner : Worker) (task : Task) (position : ℕ) → owner.0 < base.workers → position + 1 < 2 ^ 64
    → IsAsGood base versions
    → IsPut versions owner (version_after position) (map main_slot task.writes) after → IsRunAt base after owner task position
run_at base versions after owner task position below few good put = record {
  workers = put.workers ∙ good.workers;
  objects = put.objects ∙ good.objects;
  latest = λ object there early. latest_then object there early;
  written = λ object there early wrote. written_then object there early wrote;
  holders = λ object there early some. held_then object there early (is_one_of task.writes object) refl (holder base object) refl some;
} where
  latest_then : (object : Object) → object.0 < base.objects → latest_of base object ≤ position
      → latest_of after object ≡ (if is_one_of task.writes object then position + 1 else latest_of base object)
  latest_then object there early =
      put.latest object (omega (arith, good.objects, there))
      ∙ ap (λ (b : Bool). if b then max (latest_of versions object) (version_after position) else latest_of versions object) (among_mains task.writes object)
      ∙ raised (is_one_of task.writes object) (latest_of versions object) (latest_of base object) position few (good.latest object there) early

  held_after : (worker : Worker) (object : Object) → worker.0 < base.workers → object.0 < base.objects
      → held_at after worker (main_slot object)
      ≡ (if is_one_of task.writes object && (owner.0 == worker.0) then Some (version_after position) else held_at versions worker (main_slot object))
  held_after worker object first second =
      put.held worker (main_slot object)
      (kept_for versions worker (main_slot object) (omega (arith, good.workers, first)) (omega (arith, good.objects, second)))
      ∙ ap (λ (b : Bool). if b && (owner.0 == worker.0) then Some (version_after position) else held_at versions worker (main_slot object))
      (among_mains task.writes object)

  written_then : (object : Object) → object.0 < base.objects → latest_of base object ≤ position → is_one_of task.writes object ≡ true
      → is_current after object owner ≡ true
  written_then object there early wrote =
      let next : version_after position ≡ position + 1 = omega (arith, few) in
      shown_current after object owner (position + 1)
      (latest_then object there early ∙ ap (λ (b : Bool). if b then position + 1 else latest_of base object) wrote)
      (held_after owner object below there
      ∙ ap₂ (λ (a b : Bool). if a && b then Some (version_after position) else held_at versions owner (main_slot object)) wrote (eq-eqb owner.0 owner.0 refl)
      ∙ ap Some next)

  some_holder : (object : Object) (worker : Worker) → worker.0 < base.workers → is_current after object worker ≡ true → is_some (holder after object) ≡ true
  some_holder object worker there current =
      holder_there after object worker 0 after.workers (omega arith) (omega (arith, put.workers, good.workers, there)) current

  held_then : (object : Object) → object.0 < base.objects → latest_of base object ≤ position → (b : Bool) → is_one_of task.writes object ≡ b →
      (o : Option Worker)
      → holder base object ≡ o → is_some o ≡ true → is_some (holder after object) ≡ true
  held_then object there early true wrote o found some = some_holder object owner below (written_then object there early wrote)
  held_then object there early false kept None found some = absurd (false≢true some)
  held_then object there early false kept (Some worker) found some =
      let facts = holder_facts base object 0 base.workers worker found in
      let first : worker.0 < base.workers = omega (arith, facts.0) in
      some_holder object worker first
      (shown_current after object worker (latest_of base object)
      (latest_then object there early ∙ ap (λ (b : Bool). if b then position + 1 else latest_of base object) kept)
      (held_after worker object first there
      ∙ ap (λ (b : Bool). if b && (owner.0 == worker.0) then Some (version_after position) else held_at versions worker (main_slot object)) kept
      ∙ good.held worker object first there (current_held (latest_of base object) (held_at base worker (main_slot object)) facts.1)))

pub schedule_runs : (before after : Versions) (owner : Worker) (task : Task) (number position : ℕ) (commands : List (Worker × Command))
    → owner.0 < before.workers
    → commands ≡ copies_of before number owner (moves before owner [] task.reads) ++
    (owner, run_of task number position (moves before owner [] task.reads)) ∷ []
    → after ≡ after_commands before commands → RunsAt before after owner task position
schedule_runs before after owner task number position commands below is same given stands few =
    let moved : List Moved = moves before owner [] task.reads in
    let copies : List (Worker × Command) = copies_of before number owner moved in
    let between : Versions = after_commands before copies in
    let last : Versions = after_kind owner between (run_of task number position moved).kind in
    let good : IsAsGood before between = copies_as_good before before number owner moved below (record {
      whole = record { slots = stands.slots; all = stands.all };
      workers = refl;
      objects = refl;
      latest = λ object there. refl;
      held = λ worker object first second was. was;
    }) in
    let run : after ≡ last =
    same ∙ ap (after_commands before) is
    ∙ fold-append (λ (v : Versions) (c : Worker × Command). after_kind c.0 v c.1.kind) before copies ((owner, run_of task number position moved) ∷ []) in
    subst (λ (v : Versions). IsRunAt before v owner task position) (sym run)
    (run_at before between last owner task position below few good
    (put_all between owner (version_after position) (map main_slot task.writes) good.whole (omega (arith, good.workers, below))))

-- ---- the next position

steps_few : (job : Job) → is_whole job ≡ true → job.steps ≤ 1000000
steps_few job whole = grind (arith, nat_tests)

-- a task that is there has few before it
pub position_few : (job : Job) (position : ℕ) (task : Task) → is_whole job ≡ true → slice_get (tasks_of job) position ≡ Some task → position < 1024000000
position_few job position task whole there =
    omega (arith, slice_get_within (tasks_of job) position task there, few_tasks job whole, steps_few job whole)

-- the version that a task reads isn't past its position
pub before_within : (tasks : List Task) (k : ℕ) (object : Object) → version_before tasks k object ≤ k
before_within tasks zero object = omega arith
before_within tasks (suc k) object =
    cond_both (option_map_or (is_written object) (slice_get tasks k) false) (k + 1) (version_before tasks k object) (λ v. v ≤ suc k)
    (λ wrote. omega arith) (λ none. omega (arith, before_within tasks k object))

pub read_next : (job : Job) (position : ℕ) (task : Task) (object : Object) → slice_get (tasks_of job) position ≡ Some task
    → read_version job (position + 1) object ≡ (if is_one_of task.writes object then position + 1 else read_version job position object)
read_next job position task object there =
    ap (λ (k : ℕ). read_version job k object) (add-one position)
    ∙ ap (λ (t : Option Task). if option_map_or (is_written object) t false then position + 1 else read_version job position object) there

pub schedule_goes_on : (before after : Versions) (owner : Worker) (task : Task) (number position : ℕ) (commands : List (Worker × Command))
    → owner.0 < before.workers
    → commands ≡ copies_of before number owner (moves before owner [] task.reads) ++
    (owner, run_of task number position (moves before owner [] task.reads)) ∷ []
    → after ≡ after_commands before commands → ComesToNext before after task position
schedule_goes_on before after owner task number position commands below is same job given stands at next =
    let few = position_few job position task next.whole next.there in
    let run : IsRunAt before after owner task position =
    schedule_runs before after owner task number position commands below is same given stands (omega (arith, few)) in
    let inside : (object : Object) → object.0 < after.objects → object.0 < before.objects = λ object there. omega (arith, run.objects, there) in
    let early : (object : Object) → object.0 < before.objects → latest_of before object ≤ position =
    λ object there. omega (arith, at.latest object there, before_within (tasks_of job) position object) in
    record {
      objects = run.objects ∙ at.objects;
      holders = λ object there. run.holders object (inside object there) (early object (inside object there)) (at.holders object (inside object there));
      latest = λ object there.
          run.latest object (inside object there) (early object (inside object there))
          ∙ ap (λ (n : ℕ). if is_one_of task.writes object then position + 1 else n) (at.latest object (inside object there))
          ∙ sym (read_next job position task object next.there);
    }
