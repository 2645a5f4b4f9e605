-- A template of one task at its home is sound: the least one, worked by hand.
use Rattle.std.proofs.Common.{◌≡◌, ℕ, zero, suc, Bool, true, false, List, [], ◌∷◌, take, drop, refl, ap, sym, subst, ◌∙◌, arith, pos, Option, Some}
use Rattle.std.specs.Prelude.{◌==◌, ◌&&◌, ◌||◌, if◌then◌else◌, slice_get, IsSomeAnd, count_by}
use Rattle.std.proofs.lemmas.Bool.{eq-eqb, eqb-true}
use Rattle.std.proofs.lemmas.List.Elements.{All-cons, All-head, All-nil}
use Rattle.nim_base.specs.declared.number.Object.{Object}
use Rattle.nim_base.specs.declared.number.Slot.{Slot}
use Rattle.nim_base.specs.declared.number.Worker.{Worker}
use Rattle.nim_base.specs.declared.task.Func.TheVariants.{Addc}
use Rattle.nim_base.specs.declared.task.Param.TheVariants.{Const}
use Rattle.nim_base.specs.declared.task.Task.{Task}
use Rattle.nim_base.specs.declared.task.TaskForm.{TaskForm}
use Rattle.nim_command.specs.declared.command.Command.{Command}
use Rattle.nim_command.specs.declared.command.Kind.{Kind}
use Rattle.nim_command.specs.declared.entry.Entry.{Entry}
use Rattle.nim_command.specs.declared.entry.EntryKind.{EntryKind}
use Rattle.nim_command.specs.declared.template.WorkerTemplate.{WorkerTemplate}
use Rattle.nim_command.specs.Expansion.{version_at}
use Rattle.nim_command.specs.Holds.{Content, content_at, version_after}
use Rattle.nim_command.specs.Numbers.{counted_from, main_slot}
use Rattle.nim_command.specs.Slots.{object_of}
use Rattle.nim_job.specs.Serial.{tasks_of}
use Rattle.nim_job.specs.Tasks.{task_with_args}
use Rattle.nim_job.specs.Versions.{read_version}
use Rattle.nim_plan.specs.Legal.{IsRunOf}
use Rattle.nim_place.specs.Sound.{IsSound, first_plane, is_end, plane_left}
use Rattle.nim_place.proofs.GoesOn.{position_few}

abbrev home : Worker
home = record { 0 = 0 }

abbrev object : Object
object = record { 0 = 0 }

-- adds 4 to an object
abbrev form : TaskForm
form = record { func = Addc; params = Const (pos 4) ∷ []; reads = object ∷ []; writes = object ∷ [] }

abbrev half : List Entry
half = record { id = 32; kind = EntryKind.Run Addc (Const (pos 4) ∷ []) (main_slot object ∷ []) (main_slot object ∷ []); before = [] } ∷ []

abbrev template : WorkerTemplate
template = record {
  block = 0;
  forms = form ∷ [];
  halves = half ∷ [];
  built = half ∷ [];
  preconditions = (home, object) ∷ [];
  effect = (home, main_slot object, 1) ∷ [];
  homes = home ∷ [];
  owners = home ∷ [];
  unsent = [];
}

-- its command in an instance
abbrev run : ℕ → Command
run base = record { id = 32; kind = Kind.Run (counted_from base 0) Addc (pos 4 ∷ []) (main_slot object ∷ []) (main_slot object ∷ []); before = [] }

first_there : (tasks : List Task) (base : ℕ) (task : Task) → take 1 (drop base tasks) ≡ task ∷ [] → slice_get tasks base ≡ Some task
first_there [] zero task is = absurd cc
first_there [] (suc base) task is = absurd cc
first_there (t ∷ tasks) zero task is = let same : t ≡ task = cc in ap Some same
first_there (t ∷ tasks) (suc base) task is = first_there tasks base task is

untouched : (q : Bool) (x y : Content) → ((true && q) || false) ≡ false → (if q || false then x else y) ≡ y
untouched true x y none = absurd cc
untouched false x y none = refl

-- a slot that the effect doesn't name
kept : (slots : Worker → Slot → Content) (worker : Worker) (slot : Slot) (x : Slot → Content) (b : Bool) → (worker.0 == 0) ≡ b
    → (((0 == worker.0) && (0 == slot.0)) || false) ≡ false
    → (if b then (λ (s : Slot). if (0 == s.0) || false then x s else slots home s) else slots worker) slot ≡ slots worker slot
kept slots worker slot x true is none =
    let same : worker.0 ≡ 0 = eqb-true worker.0 0 is in
    let here : (0 == worker.0) ≡ true = eq-eqb 0 worker.0 (sym same) in
    untouched (0 == slot.0) (x slot) (slots home slot) (sym (ap (λ (p : Bool). (p && (0 == slot.0)) || false) here) ∙ none)
    ∙ ap (λ (n : ℕ). slots (record { 0 = n }) slot) (sym same)
kept slots worker slot x false is none = refl

pub one_task_is_sound : IsSound template
one_task_is_sound job base args slots may =
    let task : Task = task_with_args args form in
    let there : slice_get (tasks_of job) base ≡ Some task = first_there (tasks_of job) base task may.tasks in
    let few = position_few job base task may.whole there in
    let position : counted_from base 0 ≡ base = omega (arith, few) in
    let next : version_after (counted_from base 0) ≡ counted_from base 1 = omega (arith, few) in
    let held = All-head (λ (one : Worker × Object). slots one.0 (main_slot one.1) ≡ Some (one.1, read_version job base one.1)) (home, object) [] may.held in
    let legal : Option Task → ℕ → Type 0 = λ t p. IsSomeAnd t (IsRunOf job (slots home) p Addc (pos 4 ∷ []) (main_slot object ∷ []) (main_slot object ∷ [])) in
    let found : legal (slice_get (tasks_of job) base) base =
    subst (λ (t : Option Task). legal t base) (sym there)
    (record { func = refl; params = refl; reads = ap (λ (c : Content). c ∷ []) held; writes = refl }) in
    record {
      found = (subst (λ (p : ℕ). legal (slice_get (tasks_of job) p) p) (sym position) found, tt);
      matched = record {
        sent = All-nil (λ (one : Worker × ℕ × Object). count_by (is_end one) [] ≡ 1);
        received = All-nil (λ (one : Worker × ℕ × Object). count_by (is_end one) [] ≡ 1);
      };
      owners = refl;
      runs = ap (λ (p : ℕ). (home, p) ∷ []) position;
      effect =
          All-cons (λ (item : Worker × Slot × ℕ). (plane_left (first_plane slots) ((home, run base) ∷ [])).slots item.0 item.1
          ≡ content_at item.1 (version_at base (read_version job base (object_of item.1)) item.2)) (home, main_slot object, 1) []
          (ap (content_at (main_slot object)) next)
          (All-nil (λ (item : Worker × Slot × ℕ). (plane_left (first_plane slots) ((home, run base) ∷ [])).slots item.0 item.1
          ≡ content_at item.1 (version_at base (read_version job base (object_of item.1)) item.2)));
      rest = λ worker slot below none.
          kept slots worker slot (λ s. content_at s (version_after (counted_from base 0))) (worker.0 == 0) refl none;
    }
