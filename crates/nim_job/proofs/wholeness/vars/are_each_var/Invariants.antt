use Rattle.std.proofs.Common.{◌≡◌, true, take}
use Rattle.std.specs.List.{list_all}
use Rattle.nim_job.specs.Whole.{is_var}
use Rattle.nim_job.proofs.wholeness.vars.are_each_var.Given as goal

abbrev pub invariant-loop-var : goal.invariant-loop-var
invariant-loop-var l = list_all is_var (take l.var-index l.vars) ≡ true
