-- A reused instance behind orders so far: its template's orders, those of the patch, and its own.
use Rattle.std.proofs.Common.{◌≡◌, ℕ, ◌+◌, ◌^◌, ◌<◌, Bool, true, false, not, length, List, ◌++◌, refl, ap, ap₂, subst, append_assoc}
use Rattle.std.specs.Prelude.{◌==◌, ◌&&◌, All, ℤ}
use Rattle.std.specs.Option.{is_some}
use Rattle.std.proofs.lemmas.Bool.{and_parts}
use Rattle.nim_base.specs.declared.number.Object.{Object}
use Rattle.nim_base.specs.declared.number.Worker.{Worker}
use Rattle.nim_base.specs.declared.task.TaskForm.{TaskForm}
use Rattle.nim_command.specs.declared.command.Command.{Command}
use Rattle.nim_command.specs.declared.edit.PatchPart.{PatchPart}
use Rattle.nim_command.specs.declared.template.WorkerTemplate.{WorkerTemplate}
use Rattle.nim_command.specs.Ranks.{is_patch_number}
use Rattle.nim_message.specs.declared.order.ToWorker.{ToWorker}
use Rattle.nim_message.specs.Orders.{session_of}
use Rattle.nim_job.specs.declared.job.Job.{Job}
use Rattle.nim_plan.specs.Paired.{Key}
use Rattle.nim_place.specs.declared.placement.Placement.{Placement}
use Rattle.nim_place.specs.Extends.{is_live, longer}
use Rattle.nim_place.specs.TaskOrders.{AreSoFar, IsAt}
use Rattle.nim_place.specs.Versions.{Versions, holder, latest_of}
use Rattle.nim_template.specs.Again.{IsBefore}
use Rattle.nim_template.specs.Given.{AreInstalled, AreTasksAt, IsInstanceAsked, instance_with, instances_of, is_key_in}
use Rattle.nim_template.specs.Instance.{half_of, instance_of}
use Rattle.nim_template.specs.Runs.{IsRun}
use Rattle.nim_patch.specs.declared.kept.Key.{Key as PatchKey}
use Rattle.nim_patch.specs.declared.patch.PatchCopy.{PatchCopy}
use Rattle.nim_patch.specs.Given.{is_patch_key_in}
use Rattle.nim_patch.specs.Parts.{patch_commands_of}
use Rattle.nim_patch.specs.Patches.{after_copies, patch_copies}
use Rattle.nim_patch.specs.Uses.{Use}
use Rattle.nim_reuse.specs.declared.instance.InstanceAt.{InstanceAt}
use Rattle.nim_reuse.specs.declared.reused.Patched.{Patched}
use Rattle.nim_reuse.specs.declared.reused.Patched.TheVariants.{Not, Repeated, Made}
use Rattle.nim_reuse.specs.GoesOn.{HasPartsInstalled, is_key_at}
use Rattle.nim_reuse.specs.Reuse.{commands_by, patch_installs, patch_runs, template_installs, versions_by}
use Rattle.nim_reuse.proofs.Follows.{Follow, StayLegal, follow_then, none_then}
use Rattle.nim_reuse.proofs.Keeps.{IsKeptBy, instance_keeps}
use Rattle.nim_reuse.proofs.Blocks.{KeepPatch, halves_stay, parts_stay}
use Rattle.nim_reuse.proofs.Uses.{HasCopies, IsFor, is_made, stay_kept}
use Rattle.nim_reuse.proofs.Templates.{IsHad, IsInstalledBy, template_installed}
use Rattle.nim_reuse.proofs.Mended.{IsMended, patch_mended}

-- ---- keys

-- a key of the patch is none of the template's
patch_apart : (epoch instance : ℕ) (key : Key) → is_patch_key_in epoch instance key ≡ true → is_key_in epoch instance key ≡ false
patch_apart epoch instance key is =
    let parts = and_parts ((key.epoch == epoch) && (key.instance == instance)) (is_patch_number key.entry) is in
    ap₂ (λ (of patch : Bool). of && not patch) parts.0 parts.1

-- both are of the instance
patch_within : (at : InstanceAt) (key : Key) → is_patch_key_in at.epoch at.instance key ≡ true → is_key_at at key ≡ true
patch_within at key is = (and_parts ((key.epoch == at.epoch) && (key.instance == at.instance)) (is_patch_number key.entry) is).0

own_within : (at : InstanceAt) (key : Key) → is_key_in at.epoch at.instance key ≡ true → is_key_at at key ≡ true
own_within at key is = (and_parts ((key.epoch == at.epoch) && (key.instance == at.instance)) (not (is_patch_number key.entry)) is).0

-- the patch's copies are installed still where patches stay
copies_stay : (live : List Bool) (copies : List PatchCopy) (before after : ℕ → List ToWorker) (patched : Patched)
    → ((patch : ℕ) → KeepPatch live before after patch) → HasCopies live copies before patched → HasCopies live copies after patched
copies_stay live copies before after Not kept has = tt
copies_stay live copies before after (Repeated number) kept has = parts_stay live before after number copies (kept number) has
copies_stay live copies before after (Made number) kept has = parts_stay live before after number copies (kept number) has

-- ---- the instance

-- lists behind all its orders
abbrev pub lists_behind : InstanceAt → List ℤ → Bool → Patched → Versions → WorkerTemplate → (ℕ → List ToWorker) → ℕ → List ToWorker
lists_behind at args new patched versions template lists =
    longer
    (longer (longer (longer lists (template_installs new at.epoch template)) (patch_installs patched at.epoch (patch_copies versions template.preconditions)))
    (patch_runs patched at.epoch at.instance (patch_copies versions template.preconditions) versions))
    (instances_of at.epoch at.instance template at.base args (after_copies versions (patch_copies versions template.preconditions)))

-- what is true of them
pub record IsDone (place : Placement) (live : List Bool) (objects : ℕ) (at : InstanceAt) (args : List ℤ) (patched : Patched) (template : WorkerTemplate)
    (lists after : ℕ → List ToWorker) (commands : List (Worker × Command)) (versions : Versions) : Type 0 where
  pub so_far : AreSoFar live at.epoch after (commands ++ commands_by at args versions template) (versions_by at versions template)
  pub before : IsBefore (length live) objects (at.base + length template.forms) (versions_by at versions template)
  pub installed : AreInstalled live template after
  pub copies : HasCopies live (patch_copies versions template.preconditions) after patched
  pub follow : Follow (is_key_at at) live (λ other. other == template.block) (is_made patched) lists after
  pub legal : (job : Job) → IsAt job at.base versions → AreTasksAt job at.base args template → StayLegal job live lists after
  pub next : (job : Job) → IsAt job at.base versions → AreTasksAt job at.base args template
      → IsAt job (at.base + length template.forms) (versions_by at versions template)
  pub run : IsRun place live objects template at.base args (after_copies versions (patch_copies versions template.preconditions))

pub all_done : (place : Placement) (live : List Bool) (objects : ℕ) (forms : List TaskForm) (at : InstanceAt) (args : List ℤ) (new : Bool)
    (patched : Patched) (key : PatchKey) (uses : List Use) (template : WorkerTemplate) (lists : ℕ → List ToWorker) (commands : List (Worker × Command))
    (versions : Versions) → IsHad place live objects forms at.block lists template new → IsFor key versions uses template.preconditions patched
    → All (HasPartsInstalled live lists) uses → AreSoFar live at.epoch lists commands versions → IsBefore (length live) objects at.base versions
    → at.base + 1024 < 2 ^ 64 → ((object : Object) → object.0 < versions.objects → is_some (holder versions object) ≡ true)
    → IsDone place live objects at args patched template lists (lists_behind at args new patched versions template lists) commands versions
all_done place live objects forms at args new patched key uses template lists commands versions had chosen kept so_far before room held =
    record {
      so_far =
          subst (λ (cs : List (Worker × Command)). AreSoFar live at.epoch last cs (versions_by at versions template)) (append_assoc commands copied own)
          done.so_far;
      before = done.before;
      installed = done.installed;
      copies = copies_stay live copies third last patched (λ patch worker there. same_patches worker there patch) mended_so.installed;
      follow =
          none_then (is_key_at at) live renewed (is_made patched) lists first last out.follow
          (follow_then (is_patch_key_in at.epoch at.instance) (is_key_in at.epoch at.instance) (is_key_at at) live renewed (is_made patched) first third last
          (patch_within at) (own_within at) (patch_apart at.epoch at.instance) (mended renewed).follow (record {
            covered = done.covered;
            paired = done.paired.paired;
            others = done.paired.others;
            halves = λ block other worker there. (keeps worker there).halves block other;
            patches = λ patch other worker there. same_patches worker there patch;
          }));
      legal = λ job is tasks worker there legal.
          done.legal job (mended_so.next job is) tasks worker there (mended_so.legal job is worker there (out.legal job worker there legal));
      next = λ job is tasks. done.next job (mended_so.next job is) tasks;
      run = had.is_template.runs at.base args now mended_so.before room mended_so.current;
    } where
      copies : List PatchCopy
      copies = patch_copies versions template.preconditions

      now : Versions
      now = after_copies versions copies

      copied : List (Worker × Command)
      copied = patch_commands_of copies versions

      own : List (Worker × Command)
      own = instance_of template at.base args now

      renewed : ℕ → Bool
      renewed other = other == template.block

      first : ℕ → List ToWorker
      first = longer lists (template_installs new at.epoch template)

      third : ℕ → List ToWorker
      third = longer (longer first (patch_installs patched at.epoch copies)) (patch_runs patched at.epoch at.instance copies versions)

      last : ℕ → List ToWorker
      last = longer third (instances_of at.epoch at.instance template at.base args now)

      out : IsInstalledBy live template at.epoch (is_made patched) lists first commands
      out = template_installed live template at.epoch (is_made patched) lists commands new had.may so_far.ask

      -- patches that are kept are installed behind the template's orders
      still : All (HasPartsInstalled live first) uses
      still = stay_kept live lists first uses
          (λ patch. (template_installed live template at.epoch (λ other. false) lists commands new had.may so_far.ask).follow.patches patch refl) kept

      mended : (halves : ℕ → Bool) → IsMended live objects template.preconditions copies at.epoch at.instance at.base patched halves (is_made patched)
          first third commands versions
      mended halves =
          patch_mended live objects key uses template.preconditions at.epoch at.instance at.base patched halves first commands versions chosen still
          had.is_template.needs (record { stands = so_far.stands; ask = out.asked }) before held

      mended_so : IsMended live objects template.preconditions copies at.epoch at.instance at.base patched (λ other. false)
          (is_made patched) first third commands versions
      mended_so = mended (λ other. false)

      there_still : AreInstalled live template third
      there_still = halves_stay live first third template (mended_so.follow.halves template.block refl) out.installed

      done : IsInstanceAsked live objects template at.epoch at.instance at.base args (instances_of at.epoch at.instance template at.base args now) third
          (commands ++ copied) now
      done =
          had.is_template.extend at.epoch at.instance at.base args third (commands ++ copied) now (record {
            so_far = mended_so.so_far;
            before = mended_so.before;
            room = room;
            current = mended_so.current;
            installed = there_still;
          })

      keeps : (worker : Worker) → is_live live worker ≡ true
          → IsKeptBy (third worker.0) (instance_with at.epoch at.instance template.block at.base args (latest_of now) (half_of template worker.0))
          template.block
      keeps worker there =
          instance_keeps at.epoch at.instance template.block at.base args (latest_of now) (half_of template worker.0) (third worker.0)
          (mended_so.so_far.ask.begun worker there) (mended_so.so_far.ask.epoch worker there)

      same_patches : (worker : Worker) → is_live live worker ≡ true → (patch : ℕ)
          → (session_of (last worker.0)).patches patch ≡ (session_of (third worker.0)).patches patch
      same_patches worker there patch = ap (λ (p : ℕ → List PatchPart). p patch) (keeps worker there).patches
