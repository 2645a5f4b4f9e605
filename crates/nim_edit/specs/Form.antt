-- What a template of a block has that was built and of which tasks were moved since.
use Rattle.std.specs.Prelude.{◌≡◌, ℕ, ◌≤◌, ◌<◌, ◌==◌, nat_lt, Bool, true, false, List, [], ◌∷◌}
use Rattle.std.specs.Prelude.{if◌then◌else◌, length, map}
use Rattle.std.specs.Prelude.{None, slice_index_or}
use Rattle.std.specs.List.{list_all}
use Rattle.nim_base.specs.declared.number.Worker.{Worker}
use Rattle.nim_command.specs.declared.edit.Edit.{Edit}
use Rattle.nim_command.specs.declared.entry.Entry.{Entry}
use Rattle.nim_command.specs.declared.template.WorkerTemplate.{WorkerTemplate}
use Rattle.nim_command.specs.Edits.{run_over}
use Rattle.nim_command.specs.Numbers.{phase_of, task_of}
use Rattle.nim_command.specs.Ruled.{entries_by_rule}
use Rattle.nim_place.specs.declared.placement.Placement.{Placement}
use Rattle.nim_template.specs.declared.template.ControllerTemplate.{ControllerTemplate}
use Rattle.nim_template.specs.Ascends.{does_ascend}
use Rattle.nim_template.specs.Built.{built as as_built}
use Rattle.nim_template.specs.Fits.{is_fit}
use Rattle.nim_edit.specs.Cells.{kind_at}
use Rattle.nim_edit.specs.Halves.{halves_for}
use Rattle.nim_edit.specs.Moves.{spec_of, worker_at}

-- whether a worker is one of the first so many
abbrev pub is_worker_below : ℕ → Worker → Bool
is_worker_below workers worker = nat_lt worker.0 workers

-- whether the worker that gets an edit is one of the first so many
abbrev pub is_edit_below : ℕ → Worker × Edit → Bool
is_edit_below workers edit = is_worker_below workers edit.0

-- whether the worker that a half is of is one of the first so many
abbrev pub is_half_below : ℕ → Worker × List Entry → Bool
is_half_below workers half = is_worker_below workers half.0

-- Of a task's phases from 2 on, the halves as built have just its run, at its home.
abbrev pub HaveRuns : WorkerTemplate → Type 0
HaveRuns template =
    (worker : Worker) (number : ℕ) → worker.0 < length template.built → task_of number < length template.forms
    → 2 ≤ phase_of number
    → kind_at (slice_index_or template.built worker.0 []) number
    ≡ (if worker.0 == (worker_at template.homes (task_of number)).0
    then kind_at (run_over false (task_of number) (spec_of template.forms (task_of number)) ∷ []) number else None)

-- A template is in form: its tasks are those of a block; there is a half for each worker, as built and as it is now,
-- and for each task a home and an owner, which are among the workers; the halves as built ascend by number, have the
-- before sets of the rule, and of later phases the runs at their homes; and the halves are these with the edits of the
-- tasks whose owner isn't their home.
pub record IsInForm (template : WorkerTemplate) : Type 0 where
  pub many : length template.forms ≤ 1024
  pub fit : list_all (is_fit 512) template.forms ≡ true
  pub few : length template.built ≤ 16
  pub homes : length template.homes ≡ length template.forms
  pub owners : length template.owners ≡ length template.forms
  pub placed : list_all (is_worker_below (length template.built)) template.homes ≡ true
  pub owned : list_all (is_worker_below (length template.built)) template.owners ≡ true
  pub ascend : list_all (does_ascend 0) template.built ≡ true
  pub ruled : map (entries_by_rule []) template.built ≡ template.built
  pub runs : HaveRuns template
  pub halves : template.halves ≡ halves_for template template.owners

-- A template was built of a recorded block, by a placement of so many objects and a flag for each live worker, and
-- tasks of it may have moved since: it is in form, and has all else as it was built.
pub record WasBuilt (place : Placement) (objects : ℕ) (live : List Bool) (recorded : ControllerTemplate)
    (template : WorkerTemplate) : Type 0 where
  pub form : IsInForm template
  pub block : template.block ≡ recorded.block
  pub forms : template.forms ≡ recorded.forms
  pub built : template.built ≡ (as_built place objects live recorded).built
  pub preconditions : template.preconditions ≡ (as_built place objects live recorded).preconditions
  pub effect : template.effect ≡ (as_built place objects live recorded).effect
  pub homes : template.homes ≡ (as_built place objects live recorded).homes
