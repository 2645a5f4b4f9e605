use Rattle.std.proofs.Common.{rules, ◌≡◌, ◌++◌, List, ap₂, refl, sym, ◌∙◌}
use Rattle.std.specs.List.{flat_map}
use Rattle.nim_base.specs.declared.number.Worker.{Worker}
use Rattle.nim_base.specs.declared.task.TaskForm.{TaskForm}
use Rattle.nim_command.specs.declared.command.Command.{Command}
use Rattle.nim_template.specs.Walk.{entry_for}
use Rattle.nim_template.proofs.Forms.{form_is, task_writes}
use Rattle.nim_template.proofs.Sizes.{ready_like}
use Rattle.nim_template.proofs.walk.Walk.take_form.Goals as goal

pub schedule_task-requires-clause-workers : goal.schedule_task-requires-clause-workers
schedule_task-requires-clause-workers c =
    let like = ready_like c.home_of-owner.result c.args.form.now.reads c.args.self.now c.need_all.new.self (search rules) in
    c.requires.workers ∙ sym like.workers

pub schedule_task-requires-clause-writes : goal.schedule_task-requires-clause-writes
schedule_task-requires-clause-writes c =
    let like = ready_like c.home_of-owner.result c.args.form.now.reads c.args.self.now c.need_all.new.self (search rules) in
    task_writes c.args.self.now.offsets.objects c.need_all.new.self.offsets.objects c.args.form.now c.lent_task-task.result
    c.lent_task-task.ensures.task like.objects c.requires.writes

pub returns-clause-walk : goal.returns-clause-walk
returns-clause-walk c =
    let same : c.give_back.new.form ≡ c.args.form.now = search rules in
    form_is c.args.place.now c.args.live.now c.args.number c.args.self.now c.need_all.new.self
    (record { offsets = c.schedule_task.new.map; needed = c.need_all.new.self.needed; entries = c.push_all.new.entries }) c.args.form.now
    c.lent_task-task.result c.home_of-owner.result c.in_ok-commands.commands.items
    (search (rules, c.home_of-owner.ensures, c.objects.ensures))
    (search (rules, c.need_all.ensures, c.as_slice.ensures))
    c.lent_task-task.ensures.task
    (search (rules, c.in_ok-commands.ensures.commands, c.from-position.ensures))
    c.in_ok-commands.ensures.ok refl
    (c.in_ok-push_all.ensures
    ∙ ap₂ (λ (f : TaskForm) (cs : List (Worker × Command)). c.need_all.new.self.entries ++ flat_map (entry_for f) cs) same c.as_slice-2.ensures.value)
