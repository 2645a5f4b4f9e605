use Rattle.std.proofs.Common.{◌≡◌, true, take}
use Rattle.std.specs.List.{list_all}
use Rattle.nim_job.specs.Whole.{is_filled}
use Rattle.nim_job.proofs.wholeness.vars.are_filled.Given as goal

abbrev pub invariant-loop-var : goal.invariant-loop-var
invariant-loop-var l = list_all is_filled (take l.var-index l.vars) ≡ true
