use Rattle.std.proofs.Common.{◌++◌, ◌∙◌, List, map, ap}
use Rattle.nim_command.specs.declared.edit.PatchPart.{PatchPart}
use Rattle.nim_message.specs.declared.order.ToWorker.{ToWorker}
use Rattle.nim_place.specs.Extends.{worker_of}
use Rattle.nim_place.proofs.Directed.{directed_pushed}
use Rattle.nim_patch.specs.Given.{install_parts, patch_installs_of}
use Rattle.nim_reuse.proofs.orders.push_patch_installs.Goals as goal

pub loop-number-preserved : goal.loop-number-preserved
loop-number-preserved c =
    directed_pushed (patch_installs_of c.args.epoch c.args.patch c.args.copies.now) c.loop-number.number c.args.orders.now.items c.loop-number.orders.items
    c.push_patch_install.new.orders.items c.loop-number.invariant
    (c.in_ok-push_patch_install.ensures
    ∙ ap (λ (ps : List PatchPart). c.loop-number.orders.items
    ++ map (λ (order : ToWorker). (worker_of c.loop-number.number, order)) (install_parts c.args.epoch c.args.patch ps))
    c.in_ok-parts.ensures)
