-- The worker template of a block: what all workers do for it, and what holds before and after.
use Rattle.std.specs.Prelude.{ℕ, ◌==◌, Bool, if◌then◌else◌, List, [], ◌∷◌, ◌++◌, length, map, Option, None, Some}
use Rattle.std.specs.List.{filter, flat_map, range_with_len}
use Rattle.nim_base.specs.declared.number.Object.{Object}
use Rattle.nim_base.specs.declared.number.Slot.{Slot}
use Rattle.nim_base.specs.declared.number.Worker.{Worker}
use Rattle.nim_base.specs.declared.task.TaskForm.{TaskForm}
use Rattle.nim_command.specs.declared.entry.Entry.{Entry}
use Rattle.nim_command.specs.declared.template.WorkerTemplate.{WorkerTemplate}
use Rattle.nim_command.specs.Numbers.{main_slot}
use Rattle.nim_command.specs.Ruled.{entries_by_rule}
use Rattle.nim_place.specs.declared.placement.Placement.{Placement}
use Rattle.nim_place.specs.Versions.{Versions, held_at, is_current}
use Rattle.nim_template.specs.declared.template.ControllerTemplate.{ControllerTemplate}
use Rattle.nim_template.specs.declared.walk.Walk.{Walk}
use Rattle.nim_template.specs.Closing.{after_closings, closing_entries, closings}
use Rattle.nim_template.specs.Walk.{home_of, offset_for, empty_walk, walked}

-- the main slots of a worker, each as worker and object
abbrev pub slots_of : Worker → ℕ → List (Worker × Object)
slots_of worker objects =
    map (λ (number : ℕ). let object : Object = record { 0 = number } in (worker, object)) (range_with_len 0 objects)

-- the main slots of all workers, worker by worker
abbrev pub all_slots : ℕ → ℕ → List (Worker × Object)
all_slots workers objects =
    flat_map (λ (number : ℕ). slots_of (record { 0 = number }) objects) (range_with_len 0 workers)

-- those that have to have the version at entry
abbrev pub needs_of : Versions → List (Worker × Object) → List (Worker × Object)
needs_of needed slots = filter (λ (slot : Worker × Object). is_current needed slot.1 slot.0) slots

-- what a main slot has in the end, if a task of the block wrote it
abbrev pub effect_at : Worker × Object → Option ℕ → List (Worker × Slot × ℕ)
effect_at slot None = []
effect_at slot (Some offset) = if offset == 0 then [] else (slot.0, main_slot slot.1, offset_for offset) ∷ []

-- the effect on a main slot, by the offset that it has in the end
abbrev pub effect_here : Versions → Worker × Object → List (Worker × Slot × ℕ)
effect_here offsets slot = effect_at slot (held_at offsets slot.0 (main_slot slot.1))

-- the effect on slots in order
abbrev pub effect_of : Versions → List (Worker × Object) → List (Worker × Slot × ℕ)
effect_of offsets slots = flat_map (effect_here offsets) slots

-- the entries of one worker, in order
abbrev pub entries_for : Worker → List (Worker × Entry) → List Entry
entries_for worker entries =
    map (λ (e : Worker × Entry). e.1) (filter (λ (e : Worker × Entry). e.0.0 == worker.0) entries)

-- the entries of each of so many workers
abbrev pub entries_by_worker : ℕ → List (Worker × Entry) → List (List Entry)
entries_by_worker workers entries =
    map (λ (number : ℕ). entries_for (record { 0 = number }) entries) (range_with_len 0 workers)

-- the half of one worker, each before set that of the rule
abbrev pub half_for : Worker → List (Worker × Entry) → List Entry
half_for worker entries = entries_by_rule [] (entries_for worker entries)

-- the halves of so many workers
abbrev pub all_halves : ℕ → List (Worker × Entry) → List (List Entry)
all_halves workers entries = map (λ (number : ℕ). half_for (record { 0 = number }) entries) (range_with_len 0 workers)

-- where the walk over all tasks ends
abbrev pub end_of : Placement → ℕ → List Bool → List TaskForm → Walk
end_of place objects live forms = walked place live 0 (empty_walk (length live) objects) forms

-- the template that the end of the walk gives, its closing copies behind it
abbrev pub template_of : ControllerTemplate → ℕ → List (Worker × Object) → Walk → List Worker → WorkerTemplate
template_of template workers slots walk homes =
    let needs : List (Worker × Object) = needs_of walk.needed slots in
    let halves : List (List Entry) =
    all_halves workers (walk.entries ++ closing_entries 0 (closings walk.offsets needs)) in
    record {
      block = template.block;
      forms = template.forms;
      halves = halves;
      built = halves;
      preconditions = needs;
      effect = effect_of (after_closings walk.offsets needs) slots;
      homes = homes;
      owners = homes;
      unsent = [];
    }

-- The worker template of a controller template, by a placement of so many objects and a flag for each live worker.
abbrev pub built : Placement → ℕ → List Bool → ControllerTemplate → WorkerTemplate
built place objects live template =
    template_of template (length live) (all_slots (length live) objects) (end_of place objects live template.forms)
    (map (home_of place objects live) template.forms)
