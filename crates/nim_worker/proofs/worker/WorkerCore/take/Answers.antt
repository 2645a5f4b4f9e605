use Rattle.std.proofs.Common.{◌≡◌, ◌∙◌, ℕ, List, ap, refl, sym}
use Rattle.nim_command.specs.declared.edit.PatchPart.{PatchPart}
use Rattle.nim_command.specs.Expansion.{patch_commands}
use Rattle.nim_command.specs.Waits.{single_group}
use Rattle.nim_message.specs.Orders.{patch_group}
use Rattle.nim_plan.specs.Installed.{patches_of}
use Rattle.nim_base.proofs.Lists.{ok_more}
use Rattle.nim_worker.proofs.Handed.{instance_taken, patch_taken, reset_taken, run_taken, single_taken, template_taken}
use Rattle.nim_worker.proofs.worker.WorkerCore.take.Goals as goal

pub returns-in-Reset-clause-at : goal.returns-in-Reset-clause-at
returns-in-Reset-clause-at c = λ state out at.
    ok_more c.reset.result c.reset.ensures.ok (λ is.
    reset_taken c.args.self.now c.reset.new.self out state c.args.order c.in-Reset.epoch _ _ c.in-Reset.shapes c.in-Reset.is is at)

pub returns-in-Single-clause-at : goal.returns-in-Single-clause-at
returns-in-Single-clause-at c = λ state out at.
    ok_more c.admit.result (c.admit.ensures.ok state.session.groups state.ran (single_group c.in-Single.epoch c.in-Single.instance c.in-Single.commands)
    at.has.admitted
    (record { head = c.head-head.ensures; told = refl; commands = sym c.into_vec.ensures }))
    (λ admitted. single_taken c.args.self.now c.admit.new.self out state c.args.order c.in-Single.epoch c.in-Single.instance c.in-Single.commands c.in-Single.is
    c.requires admitted at)

pub returns-in-InstallTemplate-clause-at : goal.returns-in-InstallTemplate-clause-at
returns-in-InstallTemplate-clause-at c = λ state out at.
    ok_more c.install_template.result c.install_template.ensures.ok (λ has.
    template_taken c.args.self.now c.install_template.new.self out state c.args.order _ c.in-InstallTemplate.block c.in-InstallTemplate.entries
    c.in-InstallTemplate.is c.requires has at)

pub returns-in-Instantiate-clause-at : goal.returns-in-Instantiate-clause-at
returns-in-Instantiate-clause-at c = λ state out at.
    ok_more c.instantiate.result c.instantiate.ensures.ok (λ is.
    instance_taken c.args.self.now c.instantiate.new.installed c.instantiate.new.admitted out state c.args.order c.in-Instantiate.epoch
    c.in-Instantiate.instance c.in-Instantiate.block
    c.head-head-in-Instantiate.result
    (record { base = c.in-Instantiate.base; args = c.in-Instantiate.args; versions = c.in-Instantiate.versions; edits = c.in-Instantiate.edits })
    c.in-Instantiate.is c.requires c.head-head-in-Instantiate.ensures is at)

pub returns-in-InstallPatch-clause-at : goal.returns-in-InstallPatch-clause-at
returns-in-InstallPatch-clause-at c = λ state out at.
    ok_more c.install_patch.result c.install_patch.ensures.ok (λ has.
    patch_taken c.args.self.now c.install_patch.new.self out state c.args.order _ c.in-InstallPatch.patch c.in-InstallPatch.copies c.in-InstallPatch.is
    c.requires has at)

pub returns-in_ok-commands-in-RunPatch-clause-at : goal.returns-in_ok-commands-in-RunPatch-clause-at
returns-in_ok-commands-in-RunPatch-clause-at c = λ state out at.
    let made : c.in_ok-commands-in-RunPatch.commands.items ≡ patch_commands c.in-RunPatch.versions (state.session.patches c.in-RunPatch.patch) =
    c.in_ok-commands-in-RunPatch.ensures
    ∙ ap (λ (versions : List ℕ). patch_commands versions (patches_of c.args.self.now.installed c.in-RunPatch.patch)) c.as_slice.ensures
    ∙ ap (λ (patches : ℕ → List PatchPart). patch_commands c.in-RunPatch.versions (patches c.in-RunPatch.patch)) at.has.session.installed.patches in
    ok_more c.admit-in-RunPatch.result
    (c.admit-in-RunPatch.ensures.ok state.session.groups state.ran (patch_group c.in-RunPatch.epoch c.in-RunPatch.instance c.in-RunPatch.versions
    (state.session.patches c.in-RunPatch.patch)) at.has.admitted
    (record { head = c.head.ensures; told = refl; commands = sym made }))
    (λ admitted. run_taken c.args.self.now c.admit-in-RunPatch.new.self out state c.args.order c.in-RunPatch.epoch c.in-RunPatch.instance c.in-RunPatch.patch
    c.in-RunPatch.versions c.in-RunPatch.is c.requires admitted at)
