use Rattle.std.proofs.Common.{◌≡◌, true, take}
use Rattle.std.specs.List.{list_all}
use Rattle.nim_job.specs.Whole.{is_loaded}
use Rattle.nim_job.proofs.wholeness.vars.are_loaded.Given as goal

abbrev pub invariant-loop-value : goal.invariant-loop-value
invariant-loop-value l = list_all (is_loaded l.shape) (take l.value-index l.values) ≡ true
