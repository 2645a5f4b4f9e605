-- Reused instances go on from all orders so far.
use Rattle.std.proofs.Common.{◌≡◌, ℕ, ◌+◌, Bool, false, List, ◌++◌, length, sym, subst, ◌∙◌, arith}
use Rattle.std.specs.Prelude.{◌==◌}
use Rattle.std.proofs.lemmas.List.Elements.{All-append}
use Rattle.nim_base.specs.declared.number.Worker.{Worker}
use Rattle.nim_base.specs.declared.task.TaskForm.{TaskForm}
use Rattle.nim_command.specs.declared.command.Command.{Command}
use Rattle.nim_command.specs.declared.template.WorkerTemplate.{WorkerTemplate}
use Rattle.nim_message.specs.declared.order.ToWorker.{ToWorker}
use Rattle.nim_plan.specs.Paired.{Key}
use Rattle.nim_place.specs.declared.placement.Placement.{Placement}
use Rattle.nim_place.specs.Directed.{Directed, by_number}
use Rattle.nim_place.specs.Extends.{longer}
use Rattle.nim_place.specs.TaskOrders.{IsAt}
use Rattle.nim_place.specs.TaskRuns.{AreRunOnce, RunsAtHome}
use Rattle.nim_place.specs.Versions.{Versions}
use Rattle.nim_template.specs.Again.{IsBefore}
use Rattle.nim_template.specs.Given.{AreInstalled, instances_of}
use Rattle.nim_template.specs.Instance.{instance_of}
use Rattle.nim_patch.specs.declared.patch.PatchCopy.{PatchCopy}
use Rattle.nim_patch.specs.Parts.{patch_commands_of}
use Rattle.nim_patch.specs.Patches.{after_copies, patch_copies}
use Rattle.nim_patch.proofs.Due.{copies_due, due_within}
use Rattle.nim_patch.proofs.Runs.{AreWithinWorkers}
use Rattle.nim_reuse.specs.declared.decided.Decided.TheVariants.{Installed}
use Rattle.nim_reuse.specs.declared.reused.Patched.{Patched}
use Rattle.nim_reuse.specs.Decisions.{Decisions, decided_of}
use Rattle.nim_reuse.specs.GoesOn.{AreDecided, InstancesGoOn, IsDecided, IsTemplateOf, is_key_at}
use Rattle.nim_reuse.specs.Reuse.{decisions_by, is_new, patch_key_at, orders_at}
use Rattle.nim_reuse.specs.Reuse.{patch_installs, patch_runs, patched_at, template_at, template_by, template_installs, versions_by}
use Rattle.nim_reuse.proofs.Follows.{Follow}
use Rattle.nim_reuse.proofs.Blocks.{decided_stays, set_decided}
use Rattle.nim_reuse.proofs.Uses.{HasCopies, IsFor, all_kept, is_made, kept_valid, patched_for}
use Rattle.nim_reuse.proofs.Lists.{four_longer, installs_past, instances_past, number_append, patch_installs_past, patch_runs_past}
use Rattle.nim_reuse.proofs.NoRuns.{none_homes, patch_none, times_behind}
use Rattle.nim_reuse.proofs.Templates.{IsHad, template_had}
use Rattle.nim_reuse.proofs.Instances.{IsDone, all_done, lists_behind}

-- the decisions behind an instance rest on the orders behind it
decided_then : (place : Placement) (live : List Bool) (objects : ℕ) (forms : ℕ → List TaskForm) (block : ℕ) (lists after : ℕ → List ToWorker)
    (test : Key → Bool) (patched : Patched) (versions : Versions) (template : WorkerTemplate) (decisions : Decisions)
    → AreDecided place live objects forms lists decisions → IsTemplateOf place live objects (forms block) block template
    → Follow test live (λ other. other == template.block) (is_made patched) lists after → AreInstalled live template after
    → HasCopies live (patch_copies versions template.preconditions) after patched
    → IsFor (patch_key_at decisions block) versions decisions.patches template.preconditions patched
    → AreDecided place live objects forms after (decisions_by block patched versions template decisions)
decided_then place live objects forms block lists after test patched versions template decisions are is follow installed has chosen = record {
  blocks =
      set_decided (λ other. IsDecided place live objects (forms other) after other) decisions.blocks block (Installed template) (is, installed) tt
      (λ other apart.
      decided_stays place live objects (forms other) lists after other (decided_of decisions other)
      (follow.halves other (subst (λ (n : ℕ). (other == n) ≡ false) (sym is.is_block) apart)) (are.blocks other));
  patches =
      all_kept live lists after (patch_key_at decisions block) versions decisions.patches template.preconditions patched chosen are.valid
      (λ patch kept. follow.patches patch kept) has are.patches;
  valid = kept_valid (patch_key_at decisions block) versions decisions.patches template.preconditions patched chosen are.valid;
}

pub instances_go_on : InstancesGoOn
instances_go_on place live objects forms at args given commands versions decisions may =
    record {
      has_forms = had.is_template.has_forms;
      so_far = given_so.so_far;
      before =
          subst (λ (fs : List TaskForm). IsBefore (length live) objects (at.base + length fs) (versions_by at versions template)) had.is_template.has_forms
          done.before;
      decided =
          decided_then place live objects forms at.block (by_number given) (by_number (given ++ orders)) (is_key_at at) patched versions template decisions
          may.decided had.is_template given_so.follow given_so.installed given_so.copies chosen;
      covered = longer_so.follow.covered;
      paired = record { paired = longer_so.follow.paired; others = longer_so.follow.others };
      runs =
          subst (λ (fs : List TaskForm). AreRunOnce at.base (length fs) (copied ++ own)) had.is_template.has_forms
          (λ position. times_behind position copied own (patch_none copies versions) ∙ done.run.once position);
      homes = λ job tasks same.
          All-append (λ (one : Worker × Command). RunsAtHome job place live one.0 one.1.kind) copied own
          (none_homes job place live copied (patch_none copies versions)) (done.run.homes job tasks same);
      legal = λ job is tasks. longer_so.legal job is tasks;
      next = λ job is tasks.
          subst (λ (fs : List TaskForm). IsAt job (at.base + length fs) (versions_by at versions template)) had.is_template.has_forms
          (done.next job is tasks);
    } where
      template : WorkerTemplate
      template = template_at place live at versions decisions

      new : Bool
      new = is_new (decided_of decisions at.block)

      patched : Patched
      patched = patched_at place live at versions decisions

      orders : List Directed
      orders = orders_at place live at args versions decisions

      copies : List PatchCopy
      copies = patch_copies versions template.preconditions

      copied : List (Worker × Command)
      copied = patch_commands_of copies versions

      own : List (Worker × Command)
      own = instance_of template at.base args (after_copies versions copies)

      had : IsHad place live objects (forms at.block) at.block (by_number given) template new
      had =
          subst
          (λ (n : ℕ).
          IsHad place live objects (forms at.block) at.block (by_number given) (template_by place n live at.block (decided_of decisions at.block)) new)
          (sym may.before.columns)
          (template_had place live objects (forms at.block) at.block (by_number given) (decided_of decisions at.block) may.some may.few may.few_objects
          may.recorded (may.decided.blocks at.block))

      chosen : IsFor (patch_key_at decisions at.block) versions decisions.patches template.preconditions patched
      chosen = patched_for (patch_key_at decisions at.block) versions decisions.patches template

      behind : ℕ → List ToWorker
      behind = lists_behind at args new patched versions template (by_number given)

      done : IsDone place live objects at args patched template (by_number given) behind commands versions
      done =
          all_done place live objects (forms at.block) at args new patched (patch_key_at decisions at.block) decisions.patches template
          (by_number given) commands
          versions had chosen may.decided.patches may.so_far may.before may.room
          (λ object there. may.holders object (let columns = may.before.columns in omega (arith, there, columns)))

      within : AreWithinWorkers (length live) copies
      within =
          subst (λ (n : ℕ). AreWithinWorkers n copies) may.before.rows
          (due_within live versions copies (copies_due live objects versions template.preconditions may.before.rows may.before.columns had.is_template.needs))

      same : by_number (given ++ orders) ≡ behind
      same =
          four_longer given (length live) (template_installs new at.epoch template) (patch_installs patched at.epoch copies)
          (patch_runs patched at.epoch at.instance copies versions) (instances_of at.epoch at.instance template at.base args (after_copies versions copies))
          (installs_past new at.epoch template (length live) had.is_template.workers) (patch_installs_past patched at.epoch copies (length live) within)
          (patch_runs_past patched at.epoch at.instance copies versions (length live) within)
          (instances_past at.epoch at.instance template at.base args (after_copies versions copies) (length live) had.is_template.workers)

      given_so : IsDone place live objects at args patched template (by_number given) (by_number (given ++ orders)) commands versions
      given_so =
          subst (λ (after : ℕ → List ToWorker). IsDone place live objects at args patched template (by_number given) after commands versions)
          (sym same) done

      longer_so : IsDone place live objects at args patched template (by_number given) (longer (by_number given) (by_number orders)) commands versions
      longer_so =
          subst (λ (after : ℕ → List ToWorker). IsDone place live objects at args patched template (by_number given) after commands versions)
          (number_append given orders) given_so
