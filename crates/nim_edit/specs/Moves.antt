-- A task of a block moves to another worker: the edits that move it, each at its worker, and the template behind them.
use Rattle.std.specs.Prelude.{ℕ, ◌+◌, ◌==◌, Bool, true, not, ◌&&◌, if◌then◌else◌, List, [], ◌∷◌, ◌++◌, map, take}
use Rattle.std.specs.Prelude.{slice_index_or, slice_set}
use Rattle.std.specs.List.{fold, list_all}
use Rattle.nim_base.specs.declared.number.Object.{Object}
use Rattle.nim_base.specs.declared.number.Worker.{Worker}
use Rattle.nim_base.specs.declared.task.Func.TheVariants.{Set}
use Rattle.nim_base.specs.declared.task.TaskForm.{TaskForm}
use Rattle.nim_command.specs.declared.edit.Edit.{Edit}
use Rattle.nim_command.specs.declared.edit.Edit.TheVariants.{Away, Here, Gone, Home}
use Rattle.nim_command.specs.declared.edit.Spec.{Spec}
use Rattle.nim_command.specs.declared.entry.Entry.{Entry}
use Rattle.nim_command.specs.declared.template.WorkerTemplate.{WorkerTemplate}
use Rattle.nim_command.specs.Edits.{edited}
use Rattle.nim_place.specs.Schedule.{is_one_of}
use Rattle.nim_edit.specs.Masks.{is_left, mask_of}

-- ---- the task

-- The offset of an object behind tasks, the first of them with this number, from the one that it had before: that of
-- the last of them that writes it.
abbrev pub offset_behind : ℕ → ℕ → Object → List TaskForm → ℕ
offset_behind before number object [] = before
offset_behind before number object (form ∷ forms) =
    offset_behind (if is_one_of form.writes object then number + 1 else before) (number + 1) object forms

-- an object that is read behind the first tasks of a block, with its offset there
abbrev pub read_behind : List TaskForm → Object → Object × ℕ
read_behind past object = (object, offset_behind 0 0 object past)

-- the task of a number that a block doesn't have
abbrev pub no_task : TaskForm
no_task = record { func = Set; params = []; reads = []; writes = [] }

-- a form as an edit carries it, behind the first tasks of its block
abbrev pub spec_for : List TaskForm → TaskForm → Spec
spec_for past form = record {
  func = form.func;
  params = form.params;
  reads = map (read_behind past) form.reads;
  writes = form.writes;
}

-- a task as an edit carries it
abbrev pub spec_of : List TaskForm → ℕ → Spec
spec_of forms task = spec_for (take task forms) (slice_index_or forms task no_task)

-- ---- the edits

-- back to its home
abbrev pub edits_home : ℕ → Worker → Worker → Spec → List (Worker × Edit)
edits_home task home owner spec = (owner, Gone task) ∷ (home, Home task spec) ∷ []

-- at an owner that isn't the home: the task runs there no more
abbrev pub gone_from : ℕ → Worker → Worker → List (Worker × Edit)
gone_from task home owner = if owner.0 == home.0 then [] else (owner, Gone task) ∷ []

-- to another worker than its home
abbrev pub edits_away : ℕ → ℕ → Spec → Worker → Worker → Worker → List (Worker × Edit)
edits_away task mask spec home owner to =
    (home, Away task to mask spec) ∷ gone_from task home owner ++ (to, Here task home mask spec) ∷ []

-- the worker of a task, by a list of homes or of owners
abbrev pub worker_at : List Worker → ℕ → Worker
worker_at workers task = slice_index_or workers task (record { 0 = 0 })

-- which of the versions that a task reads are at a worker already
abbrev pub mask_for : WorkerTemplate → ℕ → Worker → ℕ
mask_for template task to = mask_of (map (is_left template task to) (spec_of template.forms task).reads)

-- the edits that move a task to a worker that isn't its owner
abbrev pub edits_of : WorkerTemplate → ℕ → Worker → List (Worker × Edit)
edits_of template task to =
    let home : Worker = worker_at template.homes task in
    let owner : Worker = worker_at template.owners task in
    let spec : Spec = spec_of template.forms task in
    if to.0 == home.0 then edits_home task home owner spec
    else edits_away task (mask_for template task to) spec home owner to

-- ---- the template

-- the halves of all workers after an edit at a worker
abbrev pub with_edit : List (List Entry) → Worker × Edit → List (List Entry)
with_edit halves edit = slice_set halves edit.0.0 (edited edit.1 (slice_index_or halves edit.0.0 []))

-- the half that an edit touches, with the edit
abbrev pub half_touched : List (List Entry) → Worker × Edit → Worker × List Entry
half_touched halves edit = (edit.0, edited edit.1 (slice_index_or halves edit.0.0 []))

-- the halves of all workers with this one in place
abbrev pub with_half : List (List Entry) → Worker × List Entry → List (List Entry)
with_half halves half = slice_set halves half.0.0 half.1

-- whether no two of these edits are at one worker
abbrev pub are_apart : List (Worker × Edit) → Bool
are_apart [] = true
are_apart (edit ∷ edits) = list_all (λ (other : Worker × Edit). not (other.0.0 == edit.0.0)) edits && are_apart edits

-- the template once a task has moved to a worker: the halves have the edits, which are to be sent
abbrev pub migrated : WorkerTemplate → ℕ → Worker → WorkerTemplate
migrated template task to =
    let edits : List (Worker × Edit) = edits_of template task to in
    record template {
      halves = fold with_edit template.halves edits;
      owners = slice_set template.owners task to;
      unsent = template.unsent ++ edits;
    }
