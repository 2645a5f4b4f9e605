use Rattle.std.proofs.Common.{arith}
use Rattle.nim_job.specs.Tasks.{form_of}
use Rattle.nim_job.proofs.Lists.{pushed}
use Rattle.nim_job.proofs.Whole.{tasks_few}
use Rattle.nim_job.proofs.forms.push_forms.Goals as goal

pub form-requires-clause-index : goal.form-requires-clause-index
form-requires-clause-index c =
    omega (arith, tasks_few c.args.layout.now.vars.now c.args.stage.now c.args.layout.now.whole c.requires, c.task_count-index-end.ensures)

pub loop-index-preserved : goal.loop-index-preserved
loop-index-preserved c =
    pushed (form_of c.args.layout.now.vars.now c.args.stage.now) c.args.forms.now.items c.loop-index.forms.items c.push.new.self.items c.in_ok-form.field-0
    c.loop-index.index c.in_ok-push.ensures.items c.loop-index.invariant c.in_ok-form.ensures
