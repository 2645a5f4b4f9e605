use Rattle.std.proofs.Common.{◌≡◌, ◌+◌, ◌∙◌, List, map, drop, ap, subst, true, arith}
use Rattle.nim_base.specs.declared.task.Task.{Task}
use Rattle.nim_job.specs.Tasks.{task_with_args}
use Rattle.nim_job.specs.Whole.{is_whole_task}
use Rattle.nim_control.proofs.Alone.{stay_on}
use Rattle.nim_control.proofs.Instances.{AreOnTheWay, to_run_still, way_ends, way_goes, writes_first}
use Rattle.nim_control.proofs.Tasks.{all_awaited, run_awaited, task_fits, task_next, tasks_past}
use Rattle.nim_control.proofs.instance.give_tasks.Goals as goal

pub owner-requires : goal.owner-requires
owner-requires c =
    let fits : is_whole_task c.args.sites.now.versions.objects (task_with_args c.args.args.now c.form-item.result) ≡ true =
    task_fits c.args.sites.now.versions.objects c.args.args.now c.args.forms.now c.loop-form.form-index c.form-item.result c.requires.fit
    c.loop-form-test.true c.form-item.is in
    writes_first c.loop-form.sites.versions.objects c.in_ok-task.task
    (ap (λ n. is_whole_task n c.in_ok-task.task) c.loop-form.invariant.stay.objects ∙ ap (is_whole_task c.args.sites.now.versions.objects) c.in_ok-task.ensures
    ∙ fits)

pub give_task-requires : goal.give_task-requires
give_task-requires c =
    let fits : is_whole_task c.args.sites.now.versions.objects (task_with_args c.args.args.now c.form-item.result) ≡ true =
    task_fits c.args.sites.now.versions.objects c.args.args.now c.args.forms.now c.loop-form.form-index c.form-item.result c.requires.fit
    c.loop-form-test.true c.form-item.is in
    ap (λ n. is_whole_task n c.in_ok-task.task) c.loop-form.invariant.stay.objects ∙ ap (is_whole_task c.args.sites.now.versions.objects) c.in_ok-task.ensures
    ∙ fits

pub loop-form-preserved : goal.loop-form-preserved
loop-form-preserved c =
    let tasks : List Task = map (task_with_args c.args.args.now) c.args.forms.now in
    let stay = c.loop-form.invariant.stay in
    let next = task_next c.args.args.now c.args.forms.now c.loop-form.form-index c.form-item.result c.in_ok-task.task c.loop-form-test.true c.form-item.is
    c.in_ok-task.ensures in
    record {
      number = omega (arith, c.loop-form.invariant.number);
      way = λ d is.
          way_goes d c.args.instance tasks c.args.orders.now.items c.loop-form.orders.items c.give_task.new.orders.items c.args.sites.now c.loop-form.sites
          c.give_task.new.sites c.loop-form.number c.in_ok-task.task (drop (c.loop-form.form-index + 1) tasks)
          (to_run_still d c.args.instance c.args.sites.now c.loop-form.sites is stay) c.in_ok-give_task.ensures.orders c.in_ok-give_task.ensures.sites
          (subst (λ (ts : List Task). AreOnTheWay d tasks c.args.orders.now.items c.args.sites.now c.loop-form.number ts c.loop-form.orders.items
          c.loop-form.sites) next (c.loop-form.invariant.way d is));
      flight =
          run_awaited c.args.instance c.args.sites.now c.loop-form.sites c.args.args.now c.args.forms.now c.loop-form.form-index c.form-item.result
          c.in_ok-task.task c.owner.result c.loop-form.flight c.push.new.self c.loop-form-test.true c.form-item.is c.in_ok-task.ensures c.owner.ensures stay
          c.in_ok-push.ensures c.loop-form.invariant.flight;
      stay = stay_on c.args.sites.now c.loop-form.sites c.give_task.new.sites stay c.in_ok-give_task.ensures.stay;
    }

pub returns-clause-given : goal.returns-clause-given
returns-clause-given c = λ d is.
    way_ends d (map (task_with_args c.args.args.now) c.args.forms.now) c.args.orders.now.items c.loop-form.orders.items c.args.sites.now c.loop-form.sites
    c.loop-form.number (drop c.loop-form.form-index (map (task_with_args c.args.args.now) c.args.forms.now))
    (tasks_past c.args.args.now c.args.forms.now c.loop-form.form-index (omega (arith, c.loop-form-test.false))) (c.loop-form.invariant.way d is)

pub returns-clause-flight : goal.returns-clause-flight
returns-clause-flight c = λ d is.
    all_awaited d c.args.instance c.args.sites.now c.args.args.now c.args.forms.now c.loop-form.form-index c.loop-form.flight
    (omega (arith, c.loop-form-test.false)) is c.loop-form.invariant.flight
