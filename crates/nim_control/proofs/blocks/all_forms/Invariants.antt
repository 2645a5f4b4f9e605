-- the tasks of the blocks so far
use Rattle.std.proofs.Common.{◌≡◌, map, take}
use Rattle.nim_job.specs.declared.block.Block.{Block}
use Rattle.nim_job.specs.Tasks.{forms_of}
use Rattle.nim_control.proofs.blocks.all_forms.Given as goal

abbrev pub invariant-loop-block : goal.invariant-loop-block
invariant-loop-block l = l.forms.items ≡ map (λ (b : Block). forms_of l.job.vars b.stages) (take l.block l.job.blocks)
