use Rattle.std.proofs.Common.{◌++◌, ◌∙◌, List, map, ap}
use Rattle.nim_command.specs.declared.edit.PatchPart.{PatchPart}
use Rattle.nim_message.specs.declared.order.ToWorker.{ToWorker}
use Rattle.nim_place.specs.Extends.{worker_of}
use Rattle.nim_place.proofs.Directed.{directed_pushed}
use Rattle.nim_patch.specs.Given.{patch_runs_of, run_parts}
use Rattle.nim_reuse.proofs.orders.push_patch_runs.Goals as goal

pub loop-number-preserved : goal.loop-number-preserved
loop-number-preserved c =
    directed_pushed (patch_runs_of c.args.at.now.epoch c.args.at.now.instance c.args.patch c.args.copies.now c.args.map.now) c.loop-number.number
    c.args.orders.now.items c.loop-number.orders.items c.push_patch_run.new.orders.items c.loop-number.invariant
    (c.in_ok-push_patch_run.ensures
    ∙ ap (λ (ps : List PatchPart). c.loop-number.orders.items
    ++ map (λ (order : ToWorker). (worker_of c.loop-number.number, order))
    (run_parts c.args.at.now.epoch c.args.at.now.instance c.args.patch c.args.map.now ps))
    c.in_ok-parts.ensures)
