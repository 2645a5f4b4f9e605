use Rattle.std.proofs.lemmas.List.{append_assoc}
use Rattle.nim_base.specs.Value.{fit_row}
use Rattle.nim_base.proofs.FittedRows.{flat_rows-step, enough-step}
use Rattle.nim_base.proofs.fitting.fit_cells.Goals as goal

pub loop-preserved : goal.loop-preserved
loop-preserved c =
    let i = c.loop.counter in
    let n = c.args.rows in
    let width = c.args.width in
    let rest = c.loop.rest.now in
    let step = flat_rows-step (fit_row c.args.to) n i width rest c.loop-test.true in
    let enough = enough-step n i width rest c.loop-test.true c.loop.invariant.enough in
    record {
      same = rw (c.in_ok-push_fitted.ensures, c.split_at.ensures.front, c.split_at.ensures.back, append_assoc, ← step) c.loop.invariant.same;
      enough = rw c.split_at.ensures.back enough.1;
    }
