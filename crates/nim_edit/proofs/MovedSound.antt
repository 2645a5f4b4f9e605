-- A template that was built, and of which tasks moved since, is sound.
use Rattle.std.proofs.Common.{◌≡◌, ℕ, zero, suc, ◌+◌, ◌≤◌, ◌<◌, Bool, true, List, [], ◌∷◌, ◌++◌, drop, length, map, take, refl, ap, ap₂, sym, subst, ◌∙◌, arith}
use Rattle.std.proofs.Common.{None, Some}
use Rattle.std.specs.Prelude.{◌*◌, ◌^◌, ◌-◌, All, slice_index_or, ℤ}
use Rattle.std.specs.List.{AllByRecursion, flat_map, list_all, list_any, range_with_len}
use Rattle.std.proofs.lemmas.List.{append-nil, append_assoc, nil_from_length}
use Rattle.std.proofs.lemmas.List.Concat.{flat_map-append}
use Rattle.std.proofs.lemmas.List.Elements.{All-from_recursion, recursion_from_All}
use Rattle.nim_base.specs.declared.number.Object.{Object}
use Rattle.nim_base.specs.declared.number.Slot.{Slot}
use Rattle.nim_base.specs.declared.number.Worker.{Worker}
use Rattle.nim_base.specs.declared.task.TaskForm.{TaskForm}
use Rattle.nim_command.specs.declared.command.Command.{Command}
use Rattle.nim_command.specs.declared.entry.Entry.{Entry}
use Rattle.nim_command.specs.declared.template.WorkerTemplate.{WorkerTemplate}
use Rattle.nim_command.specs.Holds.{Content}
use Rattle.nim_command.specs.Numbers.{main_slot}
use Rattle.nim_job.specs.declared.job.Job.{Job}
use Rattle.nim_job.specs.Serial.{tasks_of}
use Rattle.nim_job.specs.Tasks.{task_with_args as job_task}
use Rattle.nim_job.specs.Versions.{read_version}
use Rattle.nim_place.specs.declared.placement.Placement.{Placement}
use Rattle.nim_place.specs.Sound.{AreFound, DoesTasks, EachEndOnce, IsSound, MayBegin, Plane, by_rank, commands_from, first_plane, is_affected, owned_from, run_by}
use Rattle.nim_place.specs.Sound.{plane_left}
use Rattle.nim_place.proofs.GoesOn.{position_few}
use Rattle.nim_template.specs.declared.template.ControllerTemplate.{ControllerTemplate}
use Rattle.nim_template.specs.Built.{all_slots, built as as_built, end_of, needs_of}
use Rattle.nim_template.specs.Closing.{after_closings}
use Rattle.nim_template.specs.Fits.{is_fit}
use Rattle.nim_template.specs.Tasks.{task_with}
use Rattle.nim_template.specs.Written.{offset_left}
use Rattle.nim_template.proofs.ByRank.{RanksAscend, in_order}
use Rattle.nim_template.proofs.Chosen.{plain}
use Rattle.nim_template.proofs.Given.{tasks_from}
use Rattle.nim_template.proofs.InTurn.{AreTasksFrom}
use Rattle.nim_template.proofs.IsSound.{built_sound}
use Rattle.nim_template.proofs.Plain.{found_plain, plain_found, received_plain, runs_plain, sent_plain, walked_plain}
use Rattle.nim_template.proofs.Planes.{found_append, walked_append}
use Rattle.nim_template.proofs.Ranked.{runs_of}
use Rattle.nim_template.proofs.RankedEnds.{Ends, both_ends, ends_once, ends_received, ends_sent}
use Rattle.nim_edit.specs.Form.{IsInForm, WasBuilt}
use Rattle.nim_edit.specs.Halves.{halves_for}
use Rattle.nim_edit.specs.Moves.{worker_at}
use Rattle.nim_edit.proofs.Ascending.{in_order_ascends}
use Rattle.nim_edit.proofs.Between.{after_entries, none_under_it, under}
use Rattle.nim_edit.proofs.Built.{at_home}
use Rattle.nim_edit.proofs.Ends.{onward_ends}
use Rattle.nim_edit.proofs.InOrder.{AreOfHalf, commands_halves, commands_in_order, commands_onward, in_order_same, task_commands}
use Rattle.nim_edit.proofs.Listed.{AreCopied, IsListed, listed_is}
use Rattle.nim_edit.proofs.OneTask.{built_ascend, one_task}
use Rattle.nim_edit.proofs.Turn.{IsAtTask, IsInstance, IsTaskDone, as_homed, found_behind, found_front, homed_form}
use Rattle.nim_edit.proofs.Parts.{AreMain, copies_run, effect_main, onward_copies, owned_is}
use Rattle.nim_edit.proofs.SamePlanes.{AreAlso, IsSamePlane, copies_also}
use Rattle.nim_edit.proofs.SlotsSo.{held_by}
use Rattle.nim_edit.proofs.TasksEnds.{tasks_ends, tasks_run}
use Rattle.nim_place.specs.Stands.{commands_for}
use Rattle.nim_template.specs.Tasks.{without_before}
use Rattle.nim_template.proofs.Halves.{for_plain}
use Rattle.nim_template.proofs.Sames.{AreSame}
use Rattle.nim_template.proofs.Says.{SaysOf}
use Rattle.nim_edit.proofs.NoTasks.{none_asked}

-- ---- all tasks

-- two walks over all that is left
record AreTasksDone (job : Job) (p q : Plane) (built now : List (Worker × Command)) : Type 0 where
  pub found : AreFound job q now
  pub same : IsSamePlane (plane_left p built) (plane_left q now)

tasks_done : (template : WorkerTemplate) (job : Job) (base : ℕ) (args : List ℤ) (slots : Worker → Slot → Content) (listed : List (Worker × Command))
    (from n : ℕ) (p q : Plane) → IsInstance template job base args slots listed → from + n ≡ length template.forms
    → IsAtTask template job base slots from p q
    → AreFound job p (commands_in_order (as_homed template) (read_version job base) base args listed from n)
    → AreTasksDone job p q (commands_in_order (as_homed template) (read_version job base) base args listed from n)
    (commands_in_order template (read_version job base) base args listed from n)
tasks_done template job base args slots listed from zero p q is all at found =
    let behind : List (Worker × Command) = commands_onward (64 * length template.forms) listed in
    let also : AreAlso job p q behind = copies_also job p q behind (onward_copies (length template.forms) listed is.copied) found at.same in
    record { found = also.found; same = also.same }
tasks_done template job base args slots listed from (suc n) p q is all at found =
    let before : Object → ℕ = read_version job base in
    let behind : List (Worker × Command) = commands_onward (64 * length template.forms) listed in
    let first : List (Worker × Command) = task_commands (as_homed template) before base args listed from in
    let now : List (Worker × Command) = task_commands template before base args listed from in
    let rest : List (Worker × Command) = flat_map (task_commands (as_homed template) before base args listed) (range_with_len (from + 1) n) in
    let rest_now : List (Worker × Command) = flat_map (task_commands template before base args listed) (range_with_len (from + 1) n) in
    let parts : AreFound job p (first ++ (rest ++ behind)) = subst (AreFound job p) (append_assoc first rest behind) found in
    let one : IsTaskDone template job base slots from p q first now =
    one_task template job base args slots listed from p q is (omega (arith, all)) at (found_front job p first (rest ++ behind) parts) in
    let later : AreTasksDone job (plane_left p first) (plane_left q now) (rest ++ behind) (rest_now ++ behind) =
    tasks_done template job base args slots listed (from + 1) n (plane_left p first) (plane_left q now) is (omega (arith, all)) one.next
    (found_behind job p first (rest ++ behind) parts) in
    record {
      found = subst (AreFound job q) (sym (append_assoc now rest_now behind)) (found_append job q now (rest_now ++ behind) one.found later.found);
      same =
          subst (λ (plane : Plane). IsSamePlane plane (plane_left q ((now ++ rest_now) ++ behind)))
          (sym (ap (plane_left p) (append_assoc first rest behind) ∙ walked_append p first (rest ++ behind)))
          (subst (IsSamePlane (plane_left (plane_left p first) (rest ++ behind)))
          (sym (ap (plane_left q) (append_assoc now rest_now behind) ∙ walked_append q now (rest_now ++ behind))) later.same);
    }

-- ---- a block with tasks

says_same : (first second : Worker → Slot → Content) (version : Object → ℕ) (base : ℕ) (items : List (Worker × Slot × ℕ))
    → ((worker : Worker) (slot : Slot) → slot.0 < 512 → second worker slot ≡ first worker slot) → AreMain items
    → AllByRecursion (SaysOf first version base) items → AllByRecursion (SaysOf second version base) items
says_same first second version base [] same main says = tt
says_same first second version base (item ∷ items) same main says =
    (same item.0 item.1 main.0 ∙ says.0, says_same first second version base items same main.1 says.1)

-- what is begun with a template is begun with as it was built
begun_built : (place : Placement) (objects : ℕ) (live : List Bool) (recorded : ControllerTemplate) (template : WorkerTemplate)
    → WasBuilt place objects live recorded template → (job : Job) (base : ℕ) (args : List ℤ) (slots : Worker → Slot → Content)
    → MayBegin template job base args slots → MayBegin (as_built place objects live recorded) job base args slots
begun_built place objects live recorded template was job base args slots may = record {
  whole = may.whole;
  tasks =
      subst (λ (forms : List TaskForm). take (length forms) (drop base (tasks_of job)) ≡ map (job_task args) forms) was.forms may.tasks;
  held =
      subst (All (λ (one : Worker × Object). slots one.0 (main_slot one.1) ≡ Some (one.1, read_version job base one.1))) was.preconditions may.held;
}

-- what an instance does, and that its commands by rank are the same, worker by worker
pub record IsRanked (template : WorkerTemplate) (job : Job) (base : ℕ) (args : List ℤ) (slots : Worker → Slot → Content) : Type 0 where
  pub does : DoesTasks template job base slots (by_rank base (commands_from (read_version job base) base args 0 template.halves))
  pub same : AreSame (by_rank base (commands_from (read_version job base) base args 0 template.halves))
      (commands_from (read_version job base) base args 0 template.halves)

-- So it is for each instance that may begin.
abbrev pub AreRanked : WorkerTemplate → Type 0
AreRanked template =
    (job : Job) (base : ℕ) (args : List ℤ) (slots : Worker → Slot → Content) → MayBegin template job base args slots
    → IsRanked template job base args slots

ranked_some : (place : Placement) (objects : ℕ) (live : List Bool) (recorded : ControllerTemplate) (template : WorkerTemplate) (given : TaskForm)
    (others : List TaskForm) → recorded.forms ≡ given ∷ others → WasBuilt place objects live recorded template
    → list_any (λ (flag : Bool). flag) live ≡ true → length live ≤ 16 → objects ≤ 512 → length recorded.forms ≤ 1024
    → list_all (is_fit objects) recorded.forms ≡ true → AreRanked template
ranked_some place objects live recorded template given others forms_are was some workers_few objects_few few fit job base args slots may = record {
  does =
      record {
        found = plain_found job start now (subst (AreFound job start) (sym now_is) (found_plain job start moved done.found));
        matched = record {
          sent = subst (λ (es : Ends). EachEndOnce es (ends_received now)) (sym sent_now) (subst (λ (es : Ends). EachEndOnce es es) (sym received_now) once);
          received = subst (EachEndOnce (ends_received now)) (sym sent_now) (subst (λ (es : Ends). EachEndOnce es es) (sym received_now) once);
        };
        owners = form.owners;
        runs =
            sym (runs_plain now) ∙ ap runs_of now_is ∙ runs_plain moved
            ∙ flat_map-append (λ (c : Worker × Command). run_by c.0 c.1.kind)
            (flat_map (task_commands template before base args listed) (range_with_len 0 n)) (commands_onward (64 * n) listed)
            ∙ ap₂ (λ (xs ys : List (Worker × ℕ)). xs ++ ys) (tasks_run template form before base args listed copied room 0 n (omega arith))
            (copies_run (commands_onward (64 * n) listed) (onward_copies n listed copied))
            ∙ append-nil (flat_map (λ (t : ℕ). (worker_at template.owners t, base + t) ∷ []) (range_with_len 0 n))
            ∙ owned_is base 0 n template.owners form.owners (worker_at template.owners) (λ i less. ap (worker_at template.owners) (omega arith))
            ∙ ap (λ (k : ℕ). owned_from k template.owners) (omega arith);
        effect =
            subst (All (SaysOf (plane_left start now).slots before base)) (sym was.effect)
            (All-from_recursion (SaysOf (plane_left start now).slots before base) made.effect
            (says_same (plane_left start listed).slots (plane_left start now).slots before base made.effect same_slots
            (effect_main (after_closings (end_of place objects live recorded.forms).offsets
            (needs_of (end_of place objects live recorded.forms).needed (all_slots (length live) objects))) (length live) objects objects_few)
            (recursion_from_All (SaysOf (plane_left start listed).slots before base) made.effect does.effect)));
        rest = λ worker slot low unaffected.
            same_slots worker slot low
            ∙ does.rest worker slot low (ap (λ (items : List (Worker × Slot × ℕ)). is_affected items worker slot) (sym was.effect) ∙ unaffected);
      };
  same = λ worker.
      sym (for_plain worker now) ∙ ap (commands_for worker) now_is ∙ for_plain worker moved
      ∙ sym (in_order_same template form before base args listed of_built worker);
} where
  before : Object → ℕ
  before = read_version job base

  form : IsInForm template
  form = was.form

  n : ℕ
  n = length template.forms

  made : WorkerTemplate
  made = as_built place objects live recorded

  start : Plane
  start = first_plane slots

  begun : MayBegin made job base args slots
  begun = begun_built place objects live recorded template was job base args slots may

  commands : List (Worker × Command)
  commands = commands_from before base args 0 made.halves

  listed : List (Worker × Command)
  listed = by_rank base commands

  does : DoesTasks made job base slots listed
  does = built_sound place objects live recorded some workers_few objects_few few fit job base args slots begun

  known : IsListed (length recorded.forms) commands listed
  known = listed_is place objects live recorded given others forms_are some workers_few objects_few few fit job base args slots begun

  copied : AreCopied n listed
  copied = subst (λ (forms : List TaskForm). AreCopied (length forms) listed) (sym was.forms) known.copied

  base_is : (k : ℕ) → k + 0 ≡ k
  base_is k = omega arith

  tasks : AreTasksFrom job base args 0 template.forms
  tasks =
      tasks_from job base args 0 template.forms (drop (base + 0) (tasks_of job)) refl
      (ap (λ (k : ℕ). take n (drop k (tasks_of job))) (base_is base) ∙ may.tasks)

  room : base + 1024 < 2 ^ 64 - 1
  room =
      let there = (subst (λ (fs : List TaskForm). AreTasksFrom job base args 0 fs) (was.forms ∙ forms_are) tasks).0 in
      let low = position_few job (base + 0) (task_with args given) may.whole there in
      omega (arith, low)

  of_built : (worker : Worker) → AreOfHalf before base args worker listed (slice_index_or template.built worker.0 [])
  of_built worker =
      known.same worker
      ∙ subst (λ (halves : List (List Entry)). AreOfHalf before base args worker commands (slice_index_or halves worker.0 [])) (sym was.built)
      (commands_halves before base args worker made.halves)

  is : IsInstance template job base args slots listed
  is = record {
    form = form;
    whole = may.whole;
    tasks = tasks;
    room = room;
    held = recursion_from_All (λ (one : Worker × Object). slots one.0 (main_slot one.1) ≡ Some (one.1, read_version job base one.1)) template.preconditions
        may.held;
    copied = copied;
    same = of_built;
  }

  homed : List (Worker × Command)
  homed = commands_in_order (as_homed template) before base args listed 0 n

  moved : List (Worker × Command)
  moved = commands_in_order template before base args listed 0 n

  now : List (Worker × Command)
  now = by_rank base (commands_from before base args 0 template.halves)

  homed_is : map plain listed ≡ map plain homed
  homed_is =
      ap (λ (halves : List (List Entry)). map plain (by_rank base (commands_from before base args 0 halves))) (sym was.built)
      ∙ in_order base 0 262144 (commands_from before base args 0 template.built) homed
      (in_order_ascends (as_homed template) (homed_form template form) before base args listed 0 262144 (omega arith) known.ascend)
      (in_order_same (as_homed template) (homed_form template form) before base args listed of_built)

  moved_ascends : RanksAscend 0 262144 moved
  moved_ascends = in_order_ascends template form before base args listed 0 262144 (omega arith) known.ascend

  now_is : map plain now ≡ map plain moved
  now_is =
      in_order base 0 262144 (commands_from before base args 0 template.halves) moved moved_ascends
      (in_order_same template form before base args listed of_built)

  found_homed : AreFound job start homed
  found_homed = plain_found job start homed (subst (AreFound job start) homed_is (found_plain job start listed does.found))

  at_first : IsAtTask template job base slots 0 start start
  at_first = record {
    same = record { slots = λ worker slot low. refl; early = refl };
    below = tt;
    so = λ worker slot low.
        sym (ap (λ (es : List Entry). held_by before base (slots worker slot) slot (after_entries (offset_left slot) None es))
        (ap (λ (k : ℕ). under k (slice_index_or template.built worker.0 [])) (omega arith)
        ∙ none_under_it 0 0 (slice_index_or template.built worker.0 []) (built_ascend template worker form) (omega arith)));
  }

  done : AreTasksDone job start start homed moved
  done = tasks_done template job base args slots listed 0 n start start is (omega arith) at_first found_homed

  same_slots : (worker : Worker) (slot : Slot) → slot.0 < 512 → (plane_left start now).slots worker slot ≡ (plane_left start listed).slots worker slot
  same_slots worker slot low =
      ap (λ (p : Plane). p.slots worker slot) (sym (walked_plain start now) ∙ ap (plane_left start) now_is ∙ walked_plain start moved)
      ∙ done.same.slots worker slot low
      ∙ ap (λ (p : Plane). p.slots worker slot) (sym (sym (walked_plain start listed) ∙ ap (plane_left start) homed_is ∙ walked_plain start homed))

  moved_ends : ends_sent moved ≡ ends_received moved
  moved_ends =
      both_ends (flat_map (task_commands template before base args listed) (range_with_len 0 n)) (commands_onward (64 * n) listed)
      (tasks_ends template form before base args listed copied known.ends 0 n (omega arith))
      (onward_ends n n listed copied known.ends)

  received_now : ends_received now ≡ ends_received moved
  received_now = sym (received_plain now) ∙ ap ends_received now_is ∙ received_plain moved

  sent_now : ends_sent now ≡ ends_received now
  sent_now = sym (sent_plain now) ∙ ap ends_sent now_is ∙ sent_plain moved ∙ moved_ends ∙ sym received_now

  once : EachEndOnce (ends_received moved) (ends_received moved)
  once = ends_once 0 262144 moved moved_ascends

-- ---- a block without tasks

ranked_none : (place : Placement) (objects : ℕ) (live : List Bool) (recorded : ControllerTemplate) (template : WorkerTemplate)
    → recorded.forms ≡ [] → WasBuilt place objects live recorded template
    → list_any (λ (flag : Bool). flag) live ≡ true → length live ≤ 16 → objects ≤ 512 → length recorded.forms ≤ 1024
    → list_all (is_fit objects) recorded.forms ≡ true → AreRanked template
ranked_none place objects live recorded template none was some workers_few objects_few few fit job base args slots may =
    record {
      does =
          subst (λ (halves : List (List Entry)). DoesTasks template job base slots (by_rank base (commands_from (read_version job base) base args 0 halves)))
          (sym halves_are) (record {
            found = does.found;
            matched = does.matched;
            owners = was.form.owners;
            runs = does.runs ∙ ap (owned_from base) (nil_from_length made.owners made_none ∙ sym owners_none);
            effect = subst (All (SaysOf (plane_left (first_plane slots) listed).slots (read_version job base) base)) (sym was.effect) does.effect;
            rest = λ worker slot low unaffected.
                does.rest worker slot low (ap (λ (items : List (Worker × Slot × ℕ)). is_affected items worker slot) (sym was.effect) ∙ unaffected);
          });
      same = λ worker.
          ap (λ (cs : List (Worker × Command)). map without_before (commands_for worker (by_rank base cs))) nothing
          ∙ sym (ap (λ (cs : List (Worker × Command)). map without_before (commands_for worker cs)) nothing);
    } where
      made : WorkerTemplate
      made = as_built place objects live recorded

      listed : List (Worker × Command)
      listed = by_rank base (commands_from (read_version job base) base args 0 made.halves)

      does : DoesTasks made job base slots listed
      does =
          built_sound place objects live recorded some workers_few objects_few few fit job base args slots
          (begun_built place objects live recorded template was job base args slots may)

      formless : length template.forms ≡ 0
      formless = ap (λ (forms : List TaskForm). length forms) (was.forms ∙ none)

      owners_none : template.owners ≡ []
      owners_none = nil_from_length template.owners (was.form.owners ∙ formless)

      homes_none : template.homes ≡ []
      homes_none = nil_from_length template.homes (was.form.homes ∙ formless)

      made_none : length made.owners ≡ 0
      made_none = ap (λ (homes : List Worker). length homes) (sym was.homes ∙ homes_none)

      halves_are : template.halves ≡ made.halves
      halves_are =
          was.form.halves
          ∙ ap (halves_for template) (owners_none ∙ sym homes_none)
          ∙ sym (at_home template)
          ∙ was.built

      nothing : commands_from (read_version job base) base args 0 template.halves ≡ []
      nothing =
          ap (commands_from (read_version job base) base args 0) halves_are ∙ none_asked place objects live recorded none (read_version job base) base args

-- whatever the block
pub was_ranked : (place : Placement) (objects : ℕ) (live : List Bool) (recorded : ControllerTemplate) (template : WorkerTemplate)
    → WasBuilt place objects live recorded template → list_any (λ (flag : Bool). flag) live ≡ true → length live ≤ 16 → objects ≤ 512
    → length recorded.forms ≤ 1024 → list_all (is_fit objects) recorded.forms ≡ true → AreRanked template
was_ranked place objects live recorded template was some workers_few objects_few few fit = either recorded.forms refl where
  either : (forms : List TaskForm) → recorded.forms ≡ forms → AreRanked template
  either [] none = ranked_none place objects live recorded template none was some workers_few objects_few few fit
  either (given ∷ others) are = ranked_some place objects live recorded template given others are was some workers_few objects_few few fit

pub was_sound : (place : Placement) (objects : ℕ) (live : List Bool) (recorded : ControllerTemplate) (template : WorkerTemplate)
    → WasBuilt place objects live recorded template → list_any (λ (flag : Bool). flag) live ≡ true → length live ≤ 16 → objects ≤ 512
    → length recorded.forms ≤ 1024 → list_all (is_fit objects) recorded.forms ≡ true → IsSound template
was_sound place objects live recorded template was some workers_few objects_few few fit job base args slots may =
    (was_ranked place objects live recorded template was some workers_few objects_few few fit job base args slots may).does
