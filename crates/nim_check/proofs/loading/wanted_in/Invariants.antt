-- the parts of the variables so far
use Rattle.std.proofs.Common.{◌≡◌, ◌++◌, drop}
use Rattle.nim_check.specs.Loading.{wanted}
use Rattle.nim_check.proofs.loading.wanted_in.Given as goal

abbrev pub invariant-loop-v : goal.invariant-loop-v
invariant-loop-v l = l.all.items ++ wanted (drop l.v-index l.vars) ≡ wanted l.vars
