use Rattle.std.proofs.Common.{◌+◌, arith}
use Rattle.nim_job.proofs.Whole.{vars_sizes, objects_more, objects_some}
use Rattle.nim_control.proofs.blocks.objects.Goals as goal

pub overflow_add-objects : goal.overflow_add-objects
overflow_add-objects c =
    let sizes = vars_sizes c.args.vars.now c.requires in
    let more = objects_more c.args.vars.now c.loop-var.var-index c.var-item.result c.loop-var-test.true c.var-item.is in
    omega (arith, sizes.0, more, objects_some c.args.vars.now (c.loop-var.var-index + 1), c.loop-var.invariant)
