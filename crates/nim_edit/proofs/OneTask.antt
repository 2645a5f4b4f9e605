-- One task of the walk by rank: its commands find what they need wherever it runs, and main slots hold the same behind them.
use Rattle.std.proofs.Common.{◌≡◌, ℕ, ◌+◌, ◌≤◌, ◌<◌, Bool, true, false, List, [], ◌∷◌, ◌++◌, length, map, take, refl, ap, sym, subst, ◌∙◌, arith}
use Rattle.std.proofs.Common.{Option, None, inl, inr}
use Rattle.std.specs.Prelude.{◌*◌, ◌==◌, ◌⊎◌, if◌then◌else◌, slice_index_or, IsSomeAnd, ℤ}
use Rattle.std.proofs.lemmas.Bool.{cases_lt, eq-eqb, ltb-true, ne_eqb}
use Rattle.std.proofs.lemmas.List.{get_or_past}
use Rattle.nim_base.specs.declared.number.Object.{Object}
use Rattle.nim_base.specs.declared.number.Slot.{Slot}
use Rattle.nim_base.specs.declared.number.Worker.{Worker}
use Rattle.nim_base.specs.declared.task.Task.{Task}
use Rattle.nim_base.specs.declared.task.TaskForm.{TaskForm}
use Rattle.nim_command.specs.declared.command.Command.{Command}
use Rattle.nim_command.specs.declared.edit.Spec.{Spec}
use Rattle.nim_command.specs.declared.entry.Entry.{Entry}
use Rattle.nim_command.specs.declared.template.WorkerTemplate.{WorkerTemplate}
use Rattle.nim_command.specs.declared.edit.Edit.TheVariants.{Away, Here}
use Rattle.nim_command.specs.Edits.{first_reads, put_by, read_slots, run_over, written_slots}
use Rattle.nim_command.specs.Expansion.{param_with}
use Rattle.nim_command.specs.Holds.{Content}
use Rattle.nim_command.specs.Numbers.{counted_from, entry_number, task_of}
use Rattle.nim_job.specs.declared.job.Job.{Job}
use Rattle.nim_job.specs.Versions.{read_version}
use Rattle.nim_plan.specs.Legal.{IsRunOf}
use Rattle.nim_place.specs.Sound.{AreFound, Plane, plane_left}
use Rattle.nim_template.specs.Ascends.{does_ascend}
use Rattle.nim_template.specs.Fits.{is_fit}
use Rattle.nim_template.specs.Tasks.{task_with}
use Rattle.nim_template.specs.Written.{offset_left}
use Rattle.nim_template.proofs.Planes.{Below, below_more, found_append, walked_append}
use Rattle.nim_edit.specs.Form.{IsInForm, is_worker_below}
use Rattle.nim_edit.specs.Moves.{mask_for, no_task, spec_of, worker_at}
use Rattle.nim_edit.proofs.Ascending.{away_commands, late_is}
use Rattle.nim_edit.proofs.Between.{HasBetween, after_append, after_entries, between_after, onward, under}
use Rattle.nim_edit.proofs.Cells.{Ascend, ascend_from}
use Rattle.nim_edit.proofs.InOrder.{AreOfHalf, early_commands, half_early, half_late, late_commands, placed_command, task_commands}
use Rattle.nim_edit.proofs.Migrations.{all_at}
use Rattle.nim_edit.proofs.Parts.{AreFirst, early_copies}
use Rattle.nim_edit.proofs.Puts.{FirstRead, task_is}
use Rattle.nim_edit.proofs.ReadFacts.{writes_low}
use Rattle.nim_edit.proofs.RunsElsewhere.{IsAway, IsMovedRun, runs_elsewhere}
use Rattle.nim_edit.proofs.SamePlanes.{AreAlso, IsSamePlane, copies_also, copies_below}
use Rattle.nim_edit.proofs.Segments.{early_of, late_half}
use Rattle.nim_edit.proofs.SlotsSo.{AreOfTasks, IsSo, copies_plain, same_so, still_so, under_more, under_tasks}
use Rattle.nim_edit.proofs.Stays.{built_between}
use Rattle.nim_edit.proofs.Turn.{as_homed, IsInstance, IsAtTask, IsTaskDone, found_front, found_behind, same_reads, run_same, reads_low, form_objects, is_away}

-- what a worker has of a task's run at its home
abbrev home_run : WorkerTemplate → ℕ → Worker → List Entry
home_run template task worker =
    if worker.0 == (worker_at template.homes task).0 then run_over false task (spec_of template.forms task) ∷ [] else []

-- a home is a worker
home_below : (template : WorkerTemplate) (task : ℕ) → IsInForm template → task < length template.forms
    → (worker_at template.homes task).0 < length template.built
home_below template task form within =
    ltb-true (worker_at template.homes task).0 (length template.built)
    (all_at (is_worker_below (length template.built)) template.homes task (record { 0 = 0 }) form.placed (omega (arith, form.homes, within)))

pub built_ascend : (template : WorkerTemplate) (worker : Worker) → IsInForm template → Ascend 0 (slice_index_or template.built worker.0 [])
built_ascend template worker form = either (cases_lt worker.0 (length template.built)) where
  either : (worker.0 < length template.built) ⊎ (length template.built ≤ worker.0) → Ascend 0 (slice_index_or template.built worker.0 [])
  either (inl below) =
      ascend_from 0 (slice_index_or template.built worker.0 []) (all_at (does_ascend 0) template.built worker.0 [] form.ascend below)
  either (inr past) = subst (Ascend 0) (sym (get_or_past template.built worker.0 [] past)) tt

-- behind a task's run a slot's last content is that of the entries so far
run_last : (template : WorkerTemplate) (worker : Worker) (task : ℕ) → IsInForm template → task < length template.forms → (slot : Slot)
    → after_entries (offset_left slot) None
    (under (64 * task + 16) (slice_index_or template.built worker.0 []) ++ home_run template task worker)
    ≡ after_entries (offset_left slot) None (under (64 * task + 64) (slice_index_or template.built worker.0 []))
run_last template worker task form within slot =
    after_append (offset_left slot) None (under low built) (home_run template task worker)
    ∙ sym (ap (after_entries (offset_left slot) None) (under_more low high 0 built ascends (omega arith))
    ∙ after_append (offset_left slot) None (under low built) (under high (onward low built))
    ∙ between_after (offset_left slot) (after_entries (offset_left slot) None (under low built)) low high built (home_run template task worker) ascends has)
  where
    low : ℕ
    low = 64 * task + 16

    high : ℕ
    high = 64 * task + 64

    built : List Entry
    built = slice_index_or template.built worker.0 []

    ascends : Ascend 0 built
    ascends = built_ascend template worker form

    has : HasBetween low high built (home_run template task worker)
    has = either (cases_lt worker.0 (length template.built)) where
      either : (worker.0 < length template.built) ⊎ (length template.built ≤ worker.0) → HasBetween low high built (home_run template task worker)
      either (inl below) =
          built_between template form worker task built below within (λ number at. refl) (worker.0 == (worker_at template.homes task).0) refl
      either (inr past) =
          subst (λ (half : List Entry). HasBetween low high half (home_run template task worker)) (sym (get_or_past template.built worker.0 [] past))
          (subst (HasBetween low high []) (sym (ap (λ (b : Bool). if b then run_over false task (spec_of template.forms task) ∷ [] else [])
          (ne_eqb worker.0 (worker_at template.homes task).0 (λ same. absurd (omega (arith, same, past, home_below template task form within))))))
          (record { ascend = tt; inside = λ number above less. refl; before = λ number less. refl; behind = λ number more. refl }))

home_tasks : (template : WorkerTemplate) (task : ℕ) (worker : Worker) → task < 1024 → AreOfTasks (home_run template task worker)
home_tasks template task worker few = either (worker.0 == (worker_at template.homes task).0) where
  either : (b : Bool) → AreOfTasks (if b then run_over false task (spec_of template.forms task) ∷ [] else [])
  either true = (let at = task_is task 4 0 few (omega arith) (omega arith) in (omega (arith, at, few), tt))
  either false = tt

-- So one task goes on.
pub one_task : (template : WorkerTemplate) (job : Job) (base : ℕ) (args : List ℤ) (slots : Worker → Slot → Content) (listed : List (Worker × Command))
    (task : ℕ) (p q : Plane) → IsInstance template job base args slots listed → task < length template.forms
    → IsAtTask template job base slots task p q
    → AreFound job p (task_commands (as_homed template) (read_version job base) base args listed task)
    → IsTaskDone template job base slots task p q (task_commands (as_homed template) (read_version job base) base args listed task)
    (task_commands template (read_version job base) base args listed task)
one_task template job base args slots listed task p q is within at found =
    either (owner.0 == home.0) refl where
      before : Object → ℕ
      before = read_version job base

      few : task < 1024
      few = omega (arith, within, is.form.many)

      home : Worker
      home = worker_at template.homes task

      owner : Worker
      owner = worker_at template.owners task

      spec : Spec
      spec = spec_of template.forms task

      early : List (Worker × Command)
      early = early_commands task listed

      late : List (Worker × Command)
      late = late_commands (as_homed template) before base args task

      now : List (Worker × Command)
      now = late_commands template before base args task

      run : List (Worker × Command)
      run = map (placed_command before base args) ((home, run_over false task spec) ∷ [])

      late_run_is : late ≡ run
      late_run_is = late_is (as_homed template) before base args task true (eq-eqb home.0 home.0 refl)

      firsts : AreFirst task early
      firsts = early_copies task (length template.forms) listed is.copied

      built : Worker → List Entry
      built worker = slice_index_or template.built worker.0 []

      found_early : AreFound job p early
      found_early = found_front job p early late found

      first : AreAlso job p q early
      first = copies_also job p q early firsts.copies found_early at.same

      second : Plane
      second = plane_left p early

      other : Plane
      other = plane_left q early

      found_run : AreFound job second run
      found_run = subst (AreFound job second) late_run_is (found_behind job p early late found)

      old : Below (64 * task + 16) other.frames
      old = copies_below task early q few firsts.at firsts.copies (below_more (64 * task) (64 * task + 16) q.frames (omega arith) at.below)

      so : IsSo before base slots (λ (worker : Worker). under (64 * task + 16) (built worker)) second
      so =
          same_so before base slots (λ (worker : Worker). under (64 * task) (built worker) ++ early_of task (built worker))
          (λ (worker : Worker). under (64 * task + 16) (built worker)) second
          (λ worker slot. ap (after_entries (offset_left slot) None)
          (sym (under_more (64 * task) (64 * task + 16) 0 (built worker) (built_ascend template worker is.form) (omega arith))))
          (still_so job before base args slots (λ (worker : Worker). under (64 * task) (built worker)) (λ (worker : Worker). early_of task (built worker)) p
          early
          (copies_plain early firsts.copies) found_early (λ worker. half_early before base args worker listed (built worker) (is.same worker) task)
          (λ worker. under_tasks (64 * task + 16) (onward (64 * task) (built worker)) (omega (arith, few))) at.so)

      of_run : (worker : Worker) → AreOfHalf before base args worker run (home_run template task worker)
      of_run worker =
          subst (AreOfHalf before base args worker run)
          (ap (λ (b : Bool). if b then home_run template task worker else
          (if worker.0 == home.0 then put_by (Away task home (mask_for (as_homed template) task home) spec)
          else if worker.0 == home.0 then put_by (Here task home (mask_for (as_homed template) task home) spec) else [])) (eq-eqb home.0 home.0 refl))
          (subst (λ (cs : List (Worker × Command)). AreOfHalf before base args worker cs (late_half (as_homed template) home task worker)) late_run_is
          (half_late (as_homed template) before base args worker task))

      later_so : IsSo before base slots (λ (worker : Worker). under (64 * (task + 1)) (built worker)) (plane_left second run)
      later_so =
          subst (λ (n : ℕ). IsSo before base slots (λ (worker : Worker). under n (built worker)) (plane_left second run)) (omega arith)
          (same_so before base slots (λ (worker : Worker). under (64 * task + 16) (built worker) ++ home_run template task worker)
          (λ (worker : Worker). under (64 * task + 64) (built worker)) (plane_left second run)
          (λ worker slot. run_last template worker task is.form within slot)
          (still_so job before base args slots (λ (worker : Worker). under (64 * task + 16) (built worker)) (λ (worker : Worker). home_run template task worker)
          second run (tt, tt) found_run of_run (λ worker. home_tasks template task worker few) so))

      -- what the later phases come to
      done : (commands : List (Worker × Command)) → now ≡ commands → AreFound job other commands
          → IsSamePlane (plane_left second run) (plane_left other commands) → Below (64 * task + 64) (plane_left other commands).frames
          → IsTaskDone template job base slots task p q (early ++ late) (early ++ now)
      done commands are ran same below = record {
        found = found_append job q early now first.found (subst (AreFound job other) (sym are) ran);
        next =
            subst (λ (plane : Plane). IsAtTask template job base slots (task + 1) plane (plane_left q (early ++ now)))
            (sym (walked_append p early late ∙ ap (plane_left second) late_run_is))
            (subst (IsAtTask template job base slots (task + 1) (plane_left second run)) (sym (walked_append q early now ∙ ap (plane_left other) are))
            (record {
              same = same;
              below = subst (λ (n : ℕ). Below n (plane_left other commands).frames) (omega arith) below;
              so = later_so;
            }));
      }

      either : (b : Bool) → (owner.0 == home.0) ≡ b → IsTaskDone template job base slots task p q (early ++ late) (early ++ now)
      either true same =
          done run (late_is template before base args task true same) (
            subst (λ (o : Option Task). IsSomeAnd o (IsRunOf job (other.slots home) (counted_from base (task_of (entry_number task 4 0))) spec.func
                (map (param_with args) spec.params) (read_slots false spec.reads) (written_slots false spec.writes))) (sym away.there) (record {
                  func = ran.func;
                  params = ran.params;
                  reads =
                      same_reads second other home spec.reads first.same
                      (reads_low (take task template.forms) form.reads (writes_low form.reads
                      (form_objects form (all_at (is_fit 512) template.forms task no_task is.form.fit within)).1)) ∙ ran.reads;
                  writes = ran.writes;
                }),
            tt,
          )
          (run_same second other home (entry_number task 4 0) (counted_from base (task_of (entry_number task 4 0))) spec (map (param_with args) spec.params)
          first.same)
          (below_more (64 * task + 16) (64 * task + 64) other.frames (omega arith) old) where
            form : TaskForm
            form = slice_index_or template.forms task no_task

            work : Task
            work = task_with args form

            away : IsAway job before base args task home owner spec (first_reads [] (mask_for template task owner) spec.reads) work other.slots
            away = is_away template job base args slots listed task second other is within first.same so found_run

            ran : IsRunOf job (second.slots home) (counted_from base (task_of (entry_number task 4 0))) spec.func (map (param_with args) spec.params)
                (read_slots false spec.reads) (written_slots false spec.writes) work
            ran =
                subst (λ (o : Option Task). IsSomeAnd o (IsRunOf job (second.slots home) (counted_from base (task_of (entry_number task 4 0))) spec.func
                (map (param_with args) spec.params) (read_slots false spec.reads) (written_slots false spec.writes))) away.there found_run.0
      either false apart =
          done (away_commands before base args home owner task spec firsts_read) (late_is template before base args task false apart)
          moved.found moved.same moved.below where
            firsts_read : List FirstRead
            firsts_read = first_reads [] (mask_for template task owner) spec.reads

            moved : IsMovedRun job second other task home (placed_command before base args (home, run_over false task spec))
                (away_commands before base args home owner task spec firsts_read)
            moved =
                runs_elsewhere job before base args task home owner spec firsts_read (task_with args (slice_index_or template.forms task no_task)) second other
                (is_away template job base args slots listed task second other is within first.same so found_run) first.same old
