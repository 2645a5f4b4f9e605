-- The template of a block that was recorded: one that may be installed, or is.
use Rattle.std.proofs.Common.{◌≡◌, ℕ, ◌≤◌, Bool, true, false, List, length, ap, sym, subst}
use Rattle.std.specs.Prelude.{◌==◌}
use Rattle.std.specs.List.{list_all, list_any}
use Rattle.std.proofs.lemmas.Bool.{false≢true}
use Rattle.std.proofs.lemmas.List.FromFn.{length-map-range_with_len}
use Rattle.nim_base.specs.declared.number.Worker.{Worker}
use Rattle.nim_base.specs.declared.task.TaskForm.{TaskForm}
use Rattle.nim_command.specs.declared.command.Command.{Command}
use Rattle.nim_command.specs.declared.edit.PatchPart.{PatchPart}
use Rattle.nim_command.specs.declared.template.WorkerTemplate.{WorkerTemplate}
use Rattle.nim_message.specs.declared.order.ToWorker.{ToWorker}
use Rattle.nim_job.specs.declared.job.Job.{Job}
use Rattle.nim_place.specs.declared.placement.Placement.{Placement}
use Rattle.nim_place.specs.Extends.{AskFor, is_live, longer}
use Rattle.nim_template.specs.declared.template.ControllerTemplate.{ControllerTemplate}
use Rattle.nim_template.specs.Built.{built, half_for}
use Rattle.nim_template.specs.Fits.{is_fit}
use Rattle.nim_template.specs.Given.{AreInstalled, InstallsExtend, install_with}
use Rattle.nim_template.specs.Instance.{half_of}
use Rattle.nim_template.proofs.Given.{built_installs, built_instances}
use Rattle.nim_template.proofs.Left.{entries_of}
use Rattle.nim_template.proofs.MainSlots.{built_needs}
use Rattle.nim_template.proofs.RunOnce.{built_runs}
use Rattle.nim_reuse.specs.declared.decided.Decided.{Decided}
use Rattle.nim_reuse.specs.declared.decided.Decided.TheVariants.{Open, Recorded, Installed}
use Rattle.nim_reuse.specs.Decisions.{is_reusable}
use Rattle.nim_reuse.specs.GoesOn.{IsDecided, IsRecordOf, IsTemplateOf}
use Rattle.nim_reuse.specs.Reuse.{is_new, template_by, template_installs}
use Rattle.nim_reuse.proofs.Follows.{Follow, StayLegal, follow_same, longer_none, no_key}
use Rattle.nim_reuse.proofs.Keeps.{IsKeptBy, install_keeps}

-- the template that a record gives
built_is : (place : Placement) (live : List Bool) (objects : ℕ) (forms : List TaskForm) (block : ℕ) (recorded : ControllerTemplate)
    → list_any (λ (flag : Bool). flag) live ≡ true → length live ≤ 16 → objects ≤ 512 → IsRecordOf objects forms block recorded
    → IsTemplateOf place live objects forms block (built place objects live recorded)
built_is place live objects forms block recorded some workers_few objects_few is =
    let few : length recorded.forms ≤ 1024 = subst (λ (fs : List TaskForm). length fs ≤ 1024) (sym is.has_forms) is.few in
    let fit : list_all (is_fit objects) recorded.forms ≡ true = subst (λ (fs : List TaskForm). list_all (is_fit objects) fs ≡ true) (sym is.has_forms) is.fit in
    record {
      is_block = is.is_block;
      has_forms = is.has_forms;
      workers =
          length-map-range_with_len (λ (n : ℕ). half_for (record { 0 = n }) (entries_of place objects live recorded.forms)) 0 (length live);
      extend = built_instances place objects live recorded some workers_few objects_few few fit;
      runs = built_runs place objects live recorded some workers_few objects_few few fit;
      needs = built_needs place objects live recorded some objects_few few fit;
    }

-- it may be installed, if it is new, and is installed else
abbrev pub MayBeHad : List Bool → WorkerTemplate → (ℕ → List ToWorker) → Bool → Type 0
MayBeHad live template lists true = InstallsExtend live template
MayBeHad live template lists false = AreInstalled live template lists

-- the template of a block that was recorded
pub record IsHad (place : Placement) (live : List Bool) (objects : ℕ) (forms : List TaskForm) (block : ℕ) (lists : ℕ → List ToWorker)
    (template : WorkerTemplate) (new : Bool) : Type 0 where
  pub is_template : IsTemplateOf place live objects forms block template
  pub may : MayBeHad live template lists new

pub template_had : (place : Placement) (live : List Bool) (objects : ℕ) (forms : List TaskForm) (block : ℕ) (lists : ℕ → List ToWorker)
    (decided : Decided) → list_any (λ (flag : Bool). flag) live ≡ true → length live ≤ 16 → objects ≤ 512 → is_reusable decided ≡ true
    → IsDecided place live objects forms lists block decided
    → IsHad place live objects forms block lists (template_by place objects live block decided) (is_new decided)
template_had place live objects forms block lists Open some workers_few objects_few reusable is = absurd (false≢true reusable)
template_had place live objects forms block lists (Recorded recorded) some workers_few objects_few reusable is = record {
  is_template = built_is place live objects forms block recorded some workers_few objects_few is;
  may = built_installs place objects live recorded;
}
template_had place live objects forms block lists (Installed template) some workers_few objects_few reusable is = record {
  is_template = is.0;
  may = is.1;
}

-- ---- its installation

-- behind the orders that install it, if it is new
pub record IsInstalledBy (live : List Bool) (template : WorkerTemplate) (epoch : ℕ) (made : ℕ → Bool) (lists after : ℕ → List ToWorker)
    (commands : List (Worker × Command)) : Type 0 where
  pub asked : AskFor live epoch after commands
  pub installed : AreInstalled live template after
  pub follow : Follow no_key live (λ other. other == template.block) made lists after
  pub legal : (job : Job) → StayLegal job live lists after

pub template_installed : (live : List Bool) (template : WorkerTemplate) (epoch : ℕ) (made : ℕ → Bool) (lists : ℕ → List ToWorker)
    (commands : List (Worker × Command)) (new : Bool) → MayBeHad live template lists new → AskFor live epoch lists commands
    → IsInstalledBy live template epoch made lists (longer lists (template_installs new epoch template)) commands
template_installed live template epoch made lists commands false may ask =
    subst (λ (after : ℕ → List ToWorker). IsInstalledBy live template epoch made lists after commands) (sym (longer_none lists))
    (record {
      asked = ask;
      installed = may;
      follow = follow_same no_key live (λ other. other == template.block) made lists;
      legal = λ job worker there before. before;
    })
template_installed live template epoch made lists commands true may ask =
    let is = may epoch lists commands ask in
    let keep : (worker : Worker) → is_live live worker ≡ true
    → IsKeptBy (lists worker.0) (install_with epoch template.block (half_of template worker.0)) template.block
    = λ worker there. install_keeps epoch template.block (half_of template worker.0) (lists worker.0) (ask.begun worker there) (ask.epoch worker there) in
    record {
      asked = is.asked;
      installed = is.installed;
      follow = record {
        covered = is.covered;
        paired = is.paired.paired;
        others = is.paired.others;
        halves = λ block kept worker there. (keep worker there).halves block kept;
        patches = λ patch kept worker there. ap (λ (p : ℕ → List PatchPart). p patch) (keep worker there).patches;
      };
      legal = is.legal;
    }
