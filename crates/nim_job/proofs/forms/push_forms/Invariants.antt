-- the tasks so far
use Rattle.std.proofs.Common.{◌≡◌, ◌++◌, map}
use Rattle.std.specs.List.{range_with_len}
use Rattle.nim_job.specs.Tasks.{form_of}
use Rattle.nim_job.proofs.forms.push_forms.Given as goal

abbrev pub invariant-loop-index : goal.invariant-loop-index
invariant-loop-index l = l.forms.items ≡ l.initial.forms.items ++ map (form_of l.layout.vars.now l.stage) (range_with_len 0 l.index)
