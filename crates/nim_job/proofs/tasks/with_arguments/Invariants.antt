-- the tasks of the forms so far
use Rattle.std.proofs.Common.{◌≡◌, map}
use Rattle.nim_job.specs.Tasks.{task_with_args}
use Rattle.nim_job.proofs.tasks.with_arguments.Given as goal

abbrev pub invariant-loop-form : goal.invariant-loop-form
invariant-loop-form l = l.tasks.items ≡ map (task_with_args l.args) l.yielded
