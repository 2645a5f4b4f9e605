-- What a template is built of.
use Rattle.std.specs.Prelude.{◌≡◌, ℕ, ◌≤◌, Bool, true, List, length}
use Rattle.std.specs.List.{list_all, list_any}
use Rattle.nim_base.specs.declared.task.TaskForm.{TaskForm}
use Rattle.nim_template.specs.Fits.{is_fit}

-- so many objects, live workers among so many, and so many forms that fit
pub record MayBuild (objects : ℕ) (live : List Bool) (forms : List TaskForm) : Type 0 where
  pub few_objects : objects ≤ 512
  pub few_workers : length live ≤ 16
  pub some_live : list_any (λ (flag : Bool). flag) live ≡ true
  pub few_forms : length forms ≤ 1024
  pub all_fit : list_all (is_fit objects) forms ≡ true
