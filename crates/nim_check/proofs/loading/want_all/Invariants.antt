-- the parts so far
use Rattle.std.proofs.Common.{◌≡◌, ◌-◌, ◌++◌}
use Rattle.nim_check.specs.Loading.{wants}
use Rattle.nim_check.proofs.loading.want_all.Given as goal

abbrev pub invariant-loop-part : goal.invariant-loop-part
invariant-loop-part l = l.all.items ++ wants l.v l.part (l.v.parts - l.part) ≡ l.initial.all.items ++ wants l.v 0 l.v.parts
