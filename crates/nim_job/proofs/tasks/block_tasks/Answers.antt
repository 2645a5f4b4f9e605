use Rattle.std.proofs.Common.{◌∙◌, ap, map}
use Rattle.std.specs.List.{list_all}
use Rattle.nim_job.specs.Objects.{objects_of}
use Rattle.nim_job.specs.Tasks.{task_with_args}
use Rattle.nim_job.specs.Whole.{is_whole_task}
use Rattle.nim_job.proofs.Whole.{tasks_there}
use Rattle.nim_job.proofs.tasks.block_tasks.Goals as goal

pub returns-clause-fits : goal.returns-clause-fits
returns-clause-fits c =
    ap (list_all (is_whole_task (objects_of c.args.job.now.vars))) (c.in_ok-tasks.ensures ∙ ap (map (task_with_args c.args.args.now)) c.in_ok-forms.ensures)
    ∙ tasks_there c.args.job.now c.args.block c.args.args.now c.requires.whole
