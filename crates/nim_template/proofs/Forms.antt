-- One task of a walk.
use Rattle.std.proofs.Common.{◌≡◌, ℕ, zero, suc, ◌+◌, ◌<◌, Bool, List, [], ◌∷◌, ◌++◌, length, map, drop, drop-cons, get_or, set, add-one, refl, ap, ap₂, sym, subst, ◌∙◌}
use Rattle.std.specs.Prelude.{IsSomeAnd, slice_get}
use Rattle.std.specs.List.{flat_map, fold}
use Rattle.nim_base.specs.declared.number.Object.{Object}
use Rattle.nim_base.specs.declared.number.Worker.{Worker}
use Rattle.nim_base.specs.declared.task.Task.{Task}
use Rattle.nim_base.specs.declared.task.TaskForm.{TaskForm}
use Rattle.nim_command.specs.declared.command.Command.{Command}
use Rattle.nim_command.specs.declared.entry.Entry.{Entry}
use Rattle.nim_command.specs.declared.template.WorkerTemplate.{WorkerTemplate}
use Rattle.nim_place.specs.declared.placement.Placement.{Placement}
use Rattle.nim_place.specs.Schedule.{scheduled}
use Rattle.nim_place.specs.Versions.{Versions, after_commands}
use Rattle.nim_template.specs.declared.template.ControllerTemplate.{ControllerTemplate}
use Rattle.nim_template.specs.declared.walk.Walk.{Walk}
use Rattle.nim_template.specs.Built.{all_slots, built, end_of, template_of}
use Rattle.nim_template.specs.Walk.{walked_past, entry_for, home_of, task_for, walked, with_need}

abbrev walk_at : Versions → Versions → List (Worker × Entry) → Walk
walk_at offsets needed entries = record { offsets = offsets; needed = needed; entries = entries }

-- a walk after a task, of its parts
pub form_is : (place : Placement) (live : List Bool) (number : ℕ) (walk ready after : Walk) (form : TaskForm) (task : Task) (owner : Worker)
    (commands : List (Worker × Command)) → owner ≡ home_of place walk.offsets.objects live form → ready ≡ fold (with_need owner) walk form.reads
    → task ≡ task_for form → commands ≡ scheduled ready.offsets task number number place live → after.offsets ≡ after_commands ready.offsets commands
    → after.needed ≡ ready.needed → after.entries ≡ ready.entries ++ flat_map (entry_for form) commands → after ≡ walked_past place live number walk form
form_is place live number walk ready after form task owner commands owner_is ready_is task_is commands_is offsets_is needed_is entries_is =
    let now : ready ≡ fold (with_need (home_of place walk.offsets.objects live form)) walk form.reads =
    ready_is ∙ ap (λ (w : Worker). fold (with_need w) walk form.reads) owner_is in
    let given : commands ≡ scheduled ready.offsets (task_for form) number number place live =
    commands_is ∙ ap (λ (t : Task). scheduled ready.offsets t number number place live) task_is in
    let of : Walk → Walk = λ w. (
    let cs : List (Worker × Command) = scheduled w.offsets (task_for form) number number place live in
    walk_at (after_commands w.offsets cs) w.needed (w.entries ++ flat_map (entry_for form) cs)) in
    ap₂ (λ (v n : Versions). walk_at v n after.entries) (offsets_is ∙ ap (after_commands ready.offsets) given) needed_is
    ∙ ap (walk_at (after_commands ready.offsets (scheduled ready.offsets (task_for form) number number place live)) ready.needed)
    (entries_is ∙ ap (λ (cs : List (Worker × Command)). ready.entries ++ flat_map (entry_for form) cs) given)
    ∙ ap of now

-- the first object that a form's task writes
pub task_writes : (objects more : ℕ) (form : TaskForm) (task : Task) → task ≡ task_for form → more ≡ objects
    → IsSomeAnd (slice_get form.writes 0) (λ (object : Object). object.0 < objects) → IsSomeAnd (slice_get task.writes 0) (λ (object : Object). object.0 < more)
task_writes objects more form task is same below =
    subst (λ (n : ℕ). IsSomeAnd (slice_get task.writes 0) (λ (object : Object). object.0 < n)) (sym same)
    (subst (λ (t : Task). IsSomeAnd (slice_get t.writes 0) (λ (object : Object). object.0 < objects)) (sym is) below)

-- one task further
pub walked_more : (place : Placement) (live : List Bool) (forms : List TaskForm) (number : ℕ) (walk next : Walk) (form : TaskForm) → number < length forms
    → form ≡ get_or forms number form → next ≡ walked_past place live number walk form
    → walked place live (number + 1) next (drop (number + 1) forms) ≡ walked place live number walk (drop number forms)
walked_more place live forms number walk next form within is after =
    let rest : drop number forms ≡ form ∷ drop (number + 1) forms =
    drop-cons forms number form within
    ∙ ap₂ (λ (f : TaskForm) (fs : List TaskForm). f ∷ fs) (sym is) (ap (λ (k : ℕ). drop k forms) (sym (add-one number))) in
    ap (λ (w : Walk). walked place live (number + 1) w (drop (number + 1) forms)) after ∙ sym (ap (walked place live number walk) rest)

put_same : (forms : List TaskForm) (number : ℕ) (form : TaskForm) → form ≡ get_or forms number form → set forms number form ≡ forms
put_same [] number form is = refl
put_same (f ∷ fs) zero form is = ap (λ (g : TaskForm). g ∷ fs) is
put_same (f ∷ fs) (suc number) form is = ap (λ (l : List TaskForm). f ∷ l) (put_same fs number form is)

-- a form that stayed what it is, in its place
pub put_back : (now forms : List TaskForm) (number : ℕ) (form next : TaskForm) → now ≡ forms → form ≡ get_or forms number form → next ≡ form
    → set now number next ≡ forms
put_back now forms number form next is at same =
    ap₂ (λ (l : List TaskForm) (f : TaskForm). set l number f) is same ∙ put_same forms number form at

-- the template of a walk's end
pub built_is : (place : Placement) (objects : ℕ) (live : List Bool) (template : ControllerTemplate) (homes : List Worker) (slots : List (Worker × Object))
    (walk : Walk) (made : WorkerTemplate) → homes ≡ map (home_of place objects live) template.forms → walk ≡ end_of place objects live template.forms
    → slots ≡ all_slots (length live) objects → made ≡ template_of template (length live) slots walk homes → made ≡ built place objects live template
built_is place objects live template homes slots walk made homes_is walk_is slots_is is =
    is ∙ ap₂ (λ (s : List (Worker × Object)) (w : Walk). template_of template (length live) s w homes) slots_is walk_is
    ∙ ap (template_of template (length live) (all_slots (length live) objects) (end_of place objects live template.forms)) homes_is
