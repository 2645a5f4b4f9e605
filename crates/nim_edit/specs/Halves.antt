-- The halves of a template by its halves as built and the owners of its tasks, however they came to be the owners.
use Rattle.std.specs.Prelude.{ℕ, ◌==◌, if◌then◌else◌, List, [], ◌∷◌, length, map, slice_index_or}
use Rattle.std.specs.List.{flat_map, range_with_len}
use Rattle.nim_base.specs.declared.number.Worker.{Worker}
use Rattle.nim_command.specs.declared.edit.Edit.{Edit}
use Rattle.nim_command.specs.declared.edit.Edit.TheVariants.{Away, Here}
use Rattle.nim_command.specs.declared.edit.Spec.{Spec}
use Rattle.nim_command.specs.declared.entry.Entry.{Entry}
use Rattle.nim_command.specs.declared.template.WorkerTemplate.{WorkerTemplate}
use Rattle.nim_command.specs.Edits.{edited_by}
use Rattle.nim_edit.specs.Moves.{mask_for, spec_of, worker_at}

-- What a task with this owner makes of a worker's half: where the owner isn't the home, the task is away at the home
-- and here at the owner.
abbrev pub edits_with : WorkerTemplate → Worker → ℕ → Worker → List Edit
edits_with template worker task owner =
    let home : Worker = worker_at template.homes task in
    let spec : Spec = spec_of template.forms task in
    if owner.0 == home.0 then []
    else if worker.0 == home.0 then Away task owner (mask_for template task owner) spec ∷ []
    else if worker.0 == owner.0 then Here task home (mask_for template task owner) spec ∷ []
    else []

-- the same with the owner of a list
abbrev pub edits_at : WorkerTemplate → List Worker → Worker → ℕ → List Edit
edits_at template owners worker task = edits_with template worker task (worker_at owners task)

-- a worker's half as built with the edits of all tasks, in ascending order
abbrev pub edited_half : WorkerTemplate → List Worker → Worker → List Entry
edited_half template owners worker =
    edited_by (flat_map (edits_at template owners worker) (range_with_len 0 (length template.forms)))
    (slice_index_or template.built worker.0 [])

-- the halves of all workers
abbrev pub halves_for : WorkerTemplate → List Worker → List (List Entry)
halves_for template owners =
    map (λ (number : ℕ). edited_half template owners (record { 0 = number })) (range_with_len 0 (length template.built))
