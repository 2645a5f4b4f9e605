use Rattle.nim_funcs.proofs.Sums.{sum_more}
use Rattle.nim_funcs.proofs.sum.sum_with.Goals as goal

pub returns : goal.returns
returns c = λ reads before.
    sum_more reads c.args.sums.now c.args.value.now c.in_ok-more.more c.cells-added.ensures.shaped c.cells-cells.ensures.shaped before c.in_ok-more.ensures
