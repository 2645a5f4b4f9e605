-- A template of its parts.
use Rattle.std.proofs.Common.{◌≡◌, ℕ, List, [], ◌++◌, ap, ap₂, ◌∙◌}
use Rattle.nim_base.specs.declared.number.Object.{Object}
use Rattle.nim_base.specs.declared.number.Slot.{Slot}
use Rattle.nim_base.specs.declared.number.Worker.{Worker}
use Rattle.nim_base.specs.declared.task.TaskForm.{TaskForm}
use Rattle.nim_command.specs.declared.edit.Edit.{Edit}
use Rattle.nim_command.specs.declared.entry.Entry.{Entry}
use Rattle.nim_command.specs.declared.template.WorkerTemplate.{WorkerTemplate}
use Rattle.nim_place.specs.Versions.{Versions}
use Rattle.nim_template.specs.declared.closing.Closing.{Closing}
use Rattle.nim_template.specs.declared.template.ControllerTemplate.{ControllerTemplate}
use Rattle.nim_template.specs.declared.walk.Walk.{Walk}
use Rattle.nim_template.specs.Built.{effect_of, all_halves, needs_of, template_of}
use Rattle.nim_template.specs.Closing.{after_closings, closing_entries, closings}

abbrev pub made : ℕ → List TaskForm → List (List Entry) → List (List Entry) → List (Worker × Object) → List (Worker × Slot × ℕ) → List Worker → List Worker
    → List (Worker × Edit) → WorkerTemplate
made block forms halves built needs effect homes owners unsent = record {
  block = block;
  forms = forms;
  halves = halves;
  built = built;
  preconditions = needs;
  effect = effect;
  homes = homes;
  owners = owners;
  unsent = unsent;
}

pub template_is : (template : ControllerTemplate) (workers : ℕ) (slots : List (Worker × Object)) (walk : Walk) (all_homes homes owners : List Worker)
    (forms : List TaskForm) (halves built : List (List Entry)) (needs : List (Worker × Object)) (effect : List (Worker × Slot × ℕ)) (unsent : List
    (Worker × Edit))
    (copies : List Closing) (entries : List (Worker × Entry)) (offsets : Versions)
    → forms ≡ template.forms → needs ≡ needs_of walk.needed slots → copies ≡ closings walk.offsets needs → offsets ≡ after_closings walk.offsets needs
    → entries ≡ walk.entries ++ closing_entries 0 copies → halves ≡ all_halves workers entries → built ≡ halves → effect ≡ effect_of offsets slots
    → homes ≡ all_homes → owners ≡ all_homes → unsent ≡ []
    → made template.block forms halves built needs effect homes owners unsent ≡ template_of template workers slots walk all_homes
template_is template workers slots walk all_homes homes owners forms halves built needs effect unsent copies entries offsets
    forms_is needs_is copies_is offsets_is entries_is halves_is built_is effect_is homes_is owners_is unsent_is =
    let needed : List (Worker × Object) = needs_of walk.needed slots in
    let last : Versions = after_closings walk.offsets needed in
    let all : List (List Entry) = all_halves workers (walk.entries ++ closing_entries 0 (closings walk.offsets needed)) in
    let now : halves ≡ all = halves_is
    ∙ ap (all_halves workers) (entries_is ∙ ap (λ (cs : List Closing). walk.entries ++ closing_entries 0 cs) (copies_is
    ∙ ap (closings walk.offsets) needs_is)) in
    let ends : effect ≡ effect_of last slots = effect_is ∙ ap (λ (v : Versions). effect_of v slots) (offsets_is ∙ ap (after_closings walk.offsets) needs_is) in
    ap₂ (λ (fs : List TaskForm) (hs : List (List Entry)). made template.block fs hs built needs effect homes owners unsent) forms_is now
    ∙ ap₂ (λ (bs : List (List Entry)) (ns : List (Worker × Object)). made template.block template.forms all bs ns effect homes owners unsent) (built_is
    ∙ now) needs_is
    ∙ ap₂ (λ (es : List (Worker × Slot × ℕ)) (hs : List Worker). made template.block template.forms all all needed es hs owners unsent) ends homes_is
    ∙ ap₂ (λ (os : List Worker) (us : List (Worker × Edit)). made template.block template.forms all all needed
    (effect_of last slots) all_homes os us) owners_is unsent_is
