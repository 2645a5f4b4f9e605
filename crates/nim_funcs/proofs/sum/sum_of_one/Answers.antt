use Rattle.nim_funcs.proofs.Sums.{sum_one}
use Rattle.nim_funcs.proofs.sum.sum_of_one.Goals as goal

pub returns : goal.returns
returns c = sum_one c.args.value.now c.in_ok-sums.sums c.cells-cells.ensures.shaped c.in_ok-sums.ensures
