-- the variables so far have what they are given
use Rattle.std.proofs.Common.{◌≡◌, ◌++◌, take, drop}
use Rattle.std.specs.Vec.Iter.{into_iter_items}
use Rattle.nim_check.specs.Loading.{holding_all}
use Rattle.nim_check.proofs.loading.give_all.Given as goal

abbrev pub invariant-loop-v : goal.invariant-loop-v
invariant-loop-v l = take l.v-index l.vars ++ holding_all (drop l.v-index l.vars) (into_iter_items l.given) ≡ holding_all l.fn.vars l.fn.given.items
