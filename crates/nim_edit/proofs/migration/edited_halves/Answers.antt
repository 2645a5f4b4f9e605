use Rattle.std.proofs.Common.{arith, length}
use Rattle.nim_edit.proofs.Touched.{all_below, all_touched}
use Rattle.nim_edit.proofs.migration.edited_halves.Goals as goal

pub returns-clause-value : goal.returns-clause-value
returns-clause-value c =
    all_touched c.args.halves.now c.args.edits.now c.loop-worker.touched.items c.loop-worker.worker-index c.loop-worker.invariant.touched
    (omega (arith, c.loop-worker-test.false)) c.requires.apart

pub returns-clause-below : goal.returns-clause-below
returns-clause-below c =
    all_below (length c.args.halves.now) c.args.halves.now c.args.edits.now c.loop-worker.touched.items c.loop-worker.worker-index
    c.loop-worker.invariant.touched (omega (arith, c.loop-worker-test.false)) c.requires.below
