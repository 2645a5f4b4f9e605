use Rattle.std.proofs.Common.{◌≡◌, true, take}
use Rattle.std.specs.List.{list_all}
use Rattle.nim_job.specs.Whole.{is_param}
use Rattle.nim_job.proofs.wholeness.blocks.are_params.Given as goal

abbrev pub invariant-loop-param : goal.invariant-loop-param
invariant-loop-param l = list_all (is_param l.args) (take l.param-index l.params) ≡ true
