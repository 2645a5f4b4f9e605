-- What a walk does leaves the numbers of workers and objects as they are.
use Rattle.std.proofs.Common.{◌≡◌, ℕ, Bool, true, false, List, [], ◌∷◌, refl, subst, sym, ◌∙◌}
use Rattle.std.specs.Prelude.{◌+◌, ◌*◌, ◌==◌, if◌then◌else◌, max, Some, slice_index_or, slice_set}
use Rattle.std.specs.List.{fold}
use Rattle.nim_base.specs.declared.number.Object.{Object}
use Rattle.nim_base.specs.declared.number.Slot.{Slot}
use Rattle.nim_base.specs.declared.number.Worker.{Worker}
use Rattle.nim_base.specs.declared.task.TaskForm.{TaskForm}
use Rattle.nim_command.specs.declared.command.Command.{Command}
use Rattle.nim_place.specs.declared.placement.Placement.{Placement}
use Rattle.nim_place.specs.Schedule.{scheduled}
use Rattle.nim_place.specs.Versions.{Versions, after_commands, after_kind, is_kept, latest_of, puts_of, version_of, with_version}
use Rattle.nim_template.specs.declared.walk.Walk.{Walk}
use Rattle.nim_template.specs.Walk.{walked_past, home_of, task_for, with_need, with_offset}

-- two maps have the same numbers of workers and objects
pub record AreLike (before after : Versions) : Type 0 where
  pub workers : after.workers ≡ before.workers
  pub objects : after.objects ≡ before.objects

pub like_then : (a b c : Versions) → AreLike a b → AreLike b c → AreLike a c
like_then a b c first second = record { workers = second.workers ∙ first.workers; objects = second.objects ∙ first.objects }

pub like_same : (a : Versions) → AreLike a a
like_same a = record { workers = refl; objects = refl }

like_put : (worker : Worker) (version : ℕ) (versions : Versions) (slot : Slot) → AreLike versions (with_version worker version versions slot)
like_put worker version versions slot = either (is_kept versions worker slot) where
  either : (b : Bool) → AreLike versions
      (if b
      then record versions {
        held = slice_set versions.held (worker.0 * versions.objects + slot.0) (Some version);
        latest = slice_set versions.latest slot.0 (max (slice_index_or versions.latest slot.0 0) version);
      }
      else versions)
  either true = record { workers = refl; objects = refl }
  either false = record { workers = refl; objects = refl }

like_put_all : (worker : Worker) (version : ℕ) (slots : List Slot) (versions : Versions)
    → AreLike versions (fold (with_version worker version) versions slots)
like_put_all worker version [] versions = like_same versions
like_put_all worker version (slot ∷ slots) versions =
    let next : Versions = with_version worker version versions slot in
    like_then versions next (fold (with_version worker version) next slots) (like_put worker version versions slot) (like_put_all worker version slots next)

pub like_commands : (commands : List (Worker × Command)) (versions : Versions) → AreLike versions (after_commands versions commands)
like_commands [] versions = like_same versions
like_commands (c ∷ commands) versions =
    let next : Versions = after_kind c.0 versions c.1.kind in
    like_then versions next (after_commands next commands) (like_put_all c.0 (version_of c.1.kind) (puts_of c.1.kind) versions) (like_commands commands next)

-- the walk behind a need, by whether nothing so far writes the object
abbrev pub need_if : Bool → Worker → Walk → Object → Walk
need_if b worker walk object =
    if b
    then record {
      offsets = with_offset worker object 0 walk.offsets;
      needed = with_offset worker object 0 walk.needed;
      entries = walk.entries;
    }
    else walk

pub like_need : (worker : Worker) (walk : Walk) (object : Object) → AreLike walk.offsets (with_need worker walk object).offsets
like_need worker walk object = either (latest_of walk.offsets object == 0) where
  either : (b : Bool) → AreLike walk.offsets
      (need_if b worker walk object).offsets
  either true = like_put worker 0 walk.offsets (record { 0 = object.0 })
  either false = like_same walk.offsets

pub like_needs : (worker : Worker) (reads : List Object) (walk : Walk) → AreLike walk.offsets (fold (with_need worker) walk reads).offsets
like_needs worker [] walk = like_same walk.offsets
like_needs worker (object ∷ reads) walk =
    let next : Walk = with_need worker walk object in
    like_then walk.offsets next.offsets (fold (with_need worker) next reads).offsets (like_need worker walk object) (like_needs worker reads next)

-- what reads need
pub ready_like : (worker : Worker) (reads : List Object) (walk next : Walk) → next ≡ fold (with_need worker) walk reads → AreLike walk.offsets next.offsets
ready_like worker reads walk next is = subst (λ (w : Walk). AreLike walk.offsets w.offsets) (sym is) (like_needs worker reads walk)

-- a task
pub form_like : (place : Placement) (live : List Bool) (number : ℕ) (walk next : Walk) (form : TaskForm) → next ≡ walked_past place live number walk form
    → AreLike walk.offsets next.offsets
form_like place live number walk next form is =
    let ready : Walk = fold (with_need (home_of place walk.offsets.objects live form)) walk form.reads in
    let commands : List (Worker × Command) = scheduled ready.offsets (task_for form) number number place live in
    subst (λ (w : Walk). AreLike walk.offsets w.offsets) (sym is)
    (like_then walk.offsets ready.offsets (after_commands ready.offsets commands)
    (like_needs (home_of place walk.offsets.objects live form) form.reads walk) (like_commands commands ready.offsets))
