-- Of a block without tasks nothing is asked for.
use Rattle.std.proofs.Common.{◌≡◌, ℕ, Bool, List, [], length, ap, ◌∙◌}
use Rattle.std.specs.Prelude.{ℤ}
use Rattle.nim_base.specs.declared.number.Object.{Object}
use Rattle.nim_base.specs.declared.number.Worker.{Worker}
use Rattle.nim_base.specs.declared.task.TaskForm.{TaskForm}
use Rattle.nim_place.specs.declared.placement.Placement.{Placement}
use Rattle.nim_place.specs.Sound.{commands_from}
use Rattle.nim_template.specs.declared.template.ControllerTemplate.{ControllerTemplate}
use Rattle.nim_template.specs.Built.{all_halves, all_slots, built as as_built}
use Rattle.nim_template.specs.Closing.{closing_entries, closings}
use Rattle.nim_place.specs.Versions.{no_versions}
use Rattle.nim_template.proofs.IsSound.{nothing_asked, nothing_needed}

-- nothing is asked for
pub none_asked : (place : Placement) (objects : ℕ) (live : List Bool) (recorded : ControllerTemplate) → recorded.forms ≡ []
    → (before : Object → ℕ) (base : ℕ) (args : List ℤ) → commands_from before base args 0 (as_built place objects live recorded).halves ≡ []
none_asked place objects live recorded none before base args =
    ap (λ (forms : List TaskForm). commands_from before base args 0 (as_built place objects live (with_forms forms)).halves) none
    ∙ ap (λ (needs : List (Worker × Object)). commands_from before base args 0
    (all_halves (length live) (closing_entries 0 (closings (no_versions (length live) objects) needs))))
    (nothing_needed (length live) objects (all_slots (length live) objects))
    ∙ nothing_asked before base args 0 (length live) where
      with_forms : List TaskForm → ControllerTemplate
      with_forms forms = record { block = recorded.block; forms = forms }
