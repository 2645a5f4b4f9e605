-- what the variables so far are given, and the values that are left
use Rattle.std.proofs.Common.{◌≡◌, ◌++◌, drop}
use Rattle.std.specs.Vec.Iter.{into_iter_items}
use Rattle.nim_check.specs.Loading.{parts_by_var}
use Rattle.nim_check.proofs.loading.parts_by_var.Given as goal

abbrev pub invariant-loop-v : goal.invariant-loop-v
invariant-loop-v l = l.given ++ parts_by_var (drop l.v-index l.vars) (into_iter_items l.values) ≡ parts_by_var l.vars l.fn.values
